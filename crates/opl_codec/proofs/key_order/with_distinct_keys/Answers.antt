use Rattle.std.proofs.Common.{refl}
use Rattle.std.proofs.lemmas.List.Sorted.{IsPermutation-refl}
use Rattle.osm_model.proofs.shared.ObjectParts.{twice}
use Rattle.opl_codec.proofs.KeyOrder.{distinct_from_rising}
use Rattle.opl_codec.proofs.key_order.with_distinct_keys.Goals as goal

pub returns-then-keys_rise-clause-found : goal.returns-then-keys_rise-clause-found
returns-then-keys_rise-clause-found c = (IsPermutation-refl _, distinct_from_rising c.args.tags.items (rw c.deref.ensures.value at (c.if-keys_rise.ensures.0 refl)))

pub returns-then-keys_rise-2-clause-found : goal.returns-then-keys_rise-2-clause-found
returns-then-keys_rise-2-clause-found c = (c.sort_tags.ensures.permutation, distinct_from_rising c.sort_tags.new.tags.items (rw c.deref-2.ensures.value at (c.if-keys_rise-2.ensures.0 refl)))

pub returns-else-keys_rise-2-clause-none : goal.returns-else-keys_rise-2-clause-none
returns-else-keys_rise-2-clause-none c = twice c.args.tags.items c.sort_tags.new.tags.items c.sort_tags.ensures.permutation c.sort_tags.ensures.sorted
    (λ up. absurd (let yes = c.if-keys_rise-2.ensures.1 (rw c.deref-2.ensures.value up) in cc))
