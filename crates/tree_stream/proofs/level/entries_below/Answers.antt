use Rattle.std.proofs.Common.{arith}
use Rattle.tree_stream.proofs.WithinLemmas.{sum_fits}
use Rattle.tree_stream.proofs.level.entries_below.Goals as goal

pub overflow_add-number : goal.overflow_add-number
overflow_add-number c = let fits = sum_fits c.args.children.now c.requires c.loop-child.child-index in omega (arith, fits)
