use Rattle.std.proofs.Common.{rules}
use Rattle.std.specs.Ordering.{is_lt}
use Rattle.std.proofs.lemmas.List.Sorted.{answers_always, ranks_by}
use Rattle.osm_model.specs.Elements.{reference, ref_cmp}
use Rattle.osm_model.proofs.shared.References.{refs_total}
use Rattle.osm_model.proofs.object_set.sort_objects.Goals as goal

pub returns-clause-sorted : goal.returns-clause-sorted
returns-clause-sorted c = c.sort_unstable_by.ensures.sorted (λ x y. is_lt (ref_cmp (reference x) (reference y))) (ranks_by refs_total (λ o. reference o)) (answers_always _ _ _ (λ f a r g called. search rules))
