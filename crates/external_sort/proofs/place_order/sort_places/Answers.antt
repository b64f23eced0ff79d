use Rattle.std.proofs.Common.{rules, Bool, is_lt}
use Rattle.std.proofs.lemmas.Cmp.{nat_list_cmp_total}
use Rattle.std.proofs.lemmas.Fn.{always_returns_same}
use Rattle.std.proofs.lemmas.List.Sorted.{ranks_by}
use Rattle.std.specs.Cmp.Lexicographic.{slice_cmp}
use Rattle.std.specs.Ordering.{nat_cmp}
use Rattle.external_sort.specs.internal.Places.{key_at}
use Rattle.external_sort.specs.declared.place.Place.{Place}
use Rattle.external_sort.proofs.place_order.sort_places.Goals as goal

pub returns-clause-sorted : goal.returns-clause-sorted
returns-clause-sorted c =
    let below : Place → Place → Bool = λ p q. is_lt (slice_cmp nat_cmp (key_at c.args.bytes.now p) (key_at c.args.bytes.now q)) in
    c.sort_unstable_by.ensures.sorted below (ranks_by nat_list_cmp_total (key_at c.args.bytes.now)) (always_returns_same _ _ _ (λ a r f' k. search rules))
