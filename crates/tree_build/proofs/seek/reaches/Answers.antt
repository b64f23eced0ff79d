use Rattle.tree_build.proofs.SeekLemmas.{not_below}
use Rattle.tree_build.proofs.seek.reaches.Goals as goal

pub returns-else-above : goal.returns-else-above
returns-else-above c = rw c.if-above.false (not_below c.is_below-else-above.result c.args.key.now c.args.wanted.now c.is_below-else-above.ensures)
