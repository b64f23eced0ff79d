use Rattle.std.proofs.Common.{rules}
use Rattle.std.specs.Ordering.{nat_cmp, is_lt}
use Rattle.std.specs.Cmp.Lexicographic.{slice_cmp}
use Rattle.std.proofs.lemmas.List.Sorted.{answers_always, ranks_by}
use Rattle.std.proofs.lemmas.Cmp.{nat_list_cmp_total}
use Rattle.osm_model.proofs.tag_order.sort_tags.Goals as goal

pub returns-clause-sorted : goal.returns-clause-sorted
returns-clause-sorted c = c.sort_unstable_by.ensures.sorted (λ x y. is_lt (slice_cmp nat_cmp x.key y.key)) (ranks_by nat_list_cmp_total (λ tag. tag.key)) (answers_always _ _ _ (λ f a r g called. search rules))
