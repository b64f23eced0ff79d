use Rattle.std.proofs.Common.{◌≡◌, take}
use Rattle.std.specs.List.{AllByRecursion}
use Rattle.tree_node.specs.Order.{IsBelow}
use Rattle.tree_build.proofs.merge.split_at_key.Given as goal

-- the items so far are below the key
abbrev pub invariant-loop-item : goal.invariant-loop-item
invariant-loop-item g l = record {
  count : l.at ≡ l.item-index;
  below : AllByRecursion (λ item. IsBelow (g.T.NodeItem.key_of item) l.key) (take l.at l.items);
}
