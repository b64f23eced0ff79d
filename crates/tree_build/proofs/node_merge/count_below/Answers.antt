use Rattle.tree_build.proofs.DifferLemmas.{first_reaches}
use Rattle.tree_build.proofs.node_merge.count_below.Goals as goal

pub returns-then-not-is_below-clause-first : goal.returns-then-not-is_below-clause-first
returns-then-not-is_below-clause-first c =
    first_reaches c.args.key.now c.args.olds.now c.loop-old.count c.loop-old.old-index c.loop-old.invariant.count _ c.loop-old-test.true c.is_below.result c.is_below.ensures c.if-not-is_below.true
