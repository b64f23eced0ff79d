use Rattle.std.proofs.Common.{◌≡◌, length}
use Rattle.tree_node.specs.Order.{order}
use Rattle.tree_node.specs.Nodes.{AreBytes}
use Rattle.tree_node.proofs.order.is_other_below.Given as goal

-- what is left of the keys compares as the keys do
abbrev pub invariant-loop-low_left : goal.invariant-loop-low_left
invariant-loop-low_left l = record {
  same : order l.low l.high ≡ order l.low_left l.high_left;
  low_bytes : AreBytes l.low_left;
  high_bytes : AreBytes l.high_left;
}

abbrev pub decreases-loop-low_left : goal.decreases-loop-low_left
decreases-loop-low_left l = length l.low_left
