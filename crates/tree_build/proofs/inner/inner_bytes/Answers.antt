use Rattle.std.proofs.Common.{arith}
use Rattle.tree_build.proofs.FitLemmas.{greatest_fits}
use Rattle.tree_build.proofs.inner.inner_bytes.Goals as goal

pub write_inner-requires-clause-fit : goal.write_inner-requires-clause-fit
write_inner-requires-clause-fit c = λ k d lt. let fit = greatest_fits c.args.children.now c.requires.within k d lt in omega arith
