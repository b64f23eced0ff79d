use Rattle.std.proofs.lemmas.List.Filters.{dedup_is}
use Rattle.ref_sets.proofs.shared.References.{tidied_as_code}
use Rattle.ref_sets.proofs.ref_set.RefSet.from_refs.Goals as goal

pub returns : goal.returns
returns c = tidied_as_code _ _ _ c.sort_unstable.ensures.permutation c.sort_unstable.ensures.sorted (dedup_is _ _ _ c.dedup.ensures.filtered)

pub invariant_of-result : goal.invariant_of-result
invariant_of-result c = (tidied_as_code _ _ _ c.sort_unstable.ensures.permutation c.sort_unstable.ensures.sorted (dedup_is _ _ _ c.dedup.ensures.filtered)).rising
