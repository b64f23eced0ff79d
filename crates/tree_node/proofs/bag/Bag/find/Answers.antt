use Rattle.std.proofs.Common.{◌≡◌, ◌<◌, ◌+◌, ◌-◌, ◌/◌, length, arith, sym, ◌∙◌, Less, Equal, Greater}
use Rattle.tree_node.specs.Digests.{digest}
use Rattle.tree_node.specs.Parts.{node_of}
use Rattle.tree_node.specs.Order.{order}
use Rattle.tree_node.proofs.BagLemmas.{below_here, above_here, absent, found_here}
use Rattle.tree_node.proofs.bag.Bag.find.Goals as goal

pub loop-low-preserved-in-Less : goal.loop-low-preserved-in-Less
loop-low-preserved-in-Less c =
    let less : order (digest (node_of c.index.result.now)) c.args.key.now.0 ≡ Less = rw (← c.digest.ensures) (sym c.order_of.ensures ∙ c.in-Less.is) in
    record {
      in_range = c.loop-low.invariant.in_range;
      below = below_here _ _ _ c.index.result.now c.args.self.now.rising (omega arith) c.index.ensures less;
      above = c.loop-low.invariant.above;
    }

pub loop-low-preserved : goal.loop-low-preserved
loop-low-preserved c =
    let greater : order (digest (node_of c.index.result.now)) c.args.key.now.0 ≡ Greater = rw (← c.digest.ensures) (sym c.order_of.ensures ∙ c.in-Greater.is) in
    record {
      in_range = omega arith;
      below = c.loop-low.invariant.below;
      above = above_here _ _ _ c.index.result.now c.args.self.now.rising (omega arith) c.index.ensures greater;
    }

pub returns-in-Equal-clause-found : goal.returns-in-Equal-clause-found
returns-in-Equal-clause-found c =
    let same : order (digest (node_of c.index.result.now)) c.args.key.now.0 ≡ Equal = rw (← c.digest.ensures) (sym c.order_of.ensures ∙ c.in-Equal.is) in
    let lt : c.loop-low.low + (c.loop-low.high - c.loop-low.low) / 2 < length c.args.self.now.parts.items = omega arith in
    (lt, found_here _ _ _ c.index.result.now lt c.index.ensures same)

pub returns-clause-none : goal.returns-clause-none
returns-clause-none c = absent _ _ _ _ c.loop-low-test.false c.loop-low.invariant.below c.loop-low.invariant.above
