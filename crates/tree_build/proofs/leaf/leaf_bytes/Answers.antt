use Rattle.tree_build.proofs.FitLemmas.{entry_fits}
use Rattle.tree_build.proofs.leaf.leaf_bytes.Goals as goal

pub write_leaf-requires-clause-fit : goal.write_leaf-requires-clause-fit
write_leaf-requires-clause-fit c = entry_fits c.args.entries.now c.requires.fit
