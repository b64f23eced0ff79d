use Rattle.std.proofs.Common.{rules}
use Rattle.std.specs.Ordering.{is_lt}
use Rattle.std.proofs.lemmas.Cmp.{nat_list_cmp_total}
use Rattle.std.proofs.lemmas.List.Sorted.{answers_always, ranks_by}
use Rattle.tree_node.specs.Order.{order}
use Rattle.tree_node.specs.declared.item.Item.{Item}
use Rattle.light_index.proofs.light_entry_list.sort_by_keys.Goals as goal

pub returns-clause-sorted : goal.returns-clause-sorted
returns-clause-sorted c =
    c.sort_unstable_by.ensures.sorted (λ x y. is_lt (order x.key.now y.key.now)) (ranks_by nat_list_cmp_total (λ (entry : Item). entry.key.now)) (answers_always _ _ _ (λ f a r g called. search rules))
