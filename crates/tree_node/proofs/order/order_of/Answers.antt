use Rattle.std.proofs.Common.{sym}
use Rattle.tree_node.specs.Order.{IsBelow}
use Rattle.tree_node.proofs.shared.WordOrder.{is_above, is_same, isnt}
use Rattle.tree_node.proofs.order.order_of.Goals as goal

pub returns-then-is_long_below-2 : goal.returns-then-is_long_below-2
returns-then-is_long_below-2 c = sym (is_above c.args.left.now.0 c.args.right.now.0 (c.is_long_below-2.ensures.0 c.if-is_long_below-2.true))

pub returns : goal.returns
returns c =
    sym (is_same c.args.left.now.0 c.args.right.now.0
    (isnt (IsBelow c.args.left.now.0 c.args.right.now.0) c.is_long_below.result c.is_long_below.ensures c.if-is_long_below.false)
    (isnt (IsBelow c.args.right.now.0 c.args.left.now.0) c.is_long_below-2.result c.is_long_below-2.ensures c.if-is_long_below-2.false))
