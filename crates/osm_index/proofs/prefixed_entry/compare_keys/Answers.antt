use Rattle.std.proofs.Common.{sym}
use Rattle.tree_node.specs.Order.{IsBelow}
use Rattle.tree_node.proofs.shared.WordOrder.{is_above, is_same, isnt}
use Rattle.osm_index.proofs.prefixed_entry.compare_keys.Goals as goal

pub returns-then-is_below-2 : goal.returns-then-is_below-2
returns-then-is_below-2 c = sym (is_above c.args.first.now c.args.second.now (c.is_below-2.ensures.0 c.if-is_below-2.true))

pub returns : goal.returns
returns c =
    sym (is_same c.args.first.now c.args.second.now
    (isnt (IsBelow c.args.first.now c.args.second.now) c.is_below.result c.is_below.ensures c.if-is_below.false)
    (isnt (IsBelow c.args.second.now c.args.first.now) c.is_below-2.result c.is_below-2.ensures c.if-is_below-2.false))
