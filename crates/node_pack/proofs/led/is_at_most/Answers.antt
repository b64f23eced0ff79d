use Rattle.tree_walk.proofs.shared.KeyLemmas.{at_most_unless}
use Rattle.node_pack.proofs.led.is_at_most.Goals as goal

pub returns : goal.returns
returns c = at_most_unless c.args.low.now c.args.high.now c.is_below.result c.is_below.ensures
