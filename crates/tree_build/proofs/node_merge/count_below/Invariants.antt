use Rattle.std.proofs.Common.{◌≡◌, take}
use Rattle.std.specs.List.{AllByRecursion}
use Rattle.tree_node.specs.Order.{IsBelow}
use Rattle.tree_build.proofs.node_merge.count_below.Given as goal

-- the nodes so far are below the key
abbrev pub invariant-loop-old : goal.invariant-loop-old
invariant-loop-old l = record {
  count : l.count ≡ l.old-index;
  below : AllByRecursion (λ old. IsBelow old.greatest.now l.key) (take l.count l.olds);
}
