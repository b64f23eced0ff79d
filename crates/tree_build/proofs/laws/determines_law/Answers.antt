use Rattle.tree_node.specs.Trees.{levels}
use Rattle.tree_node.proofs.shared.TreeSame.{one_list}
use Rattle.tree_build.proofs.laws.determines_law.Goals as goal

pub returns : goal.returns
unfolding levels
returns c = λ shape tree entries others is has other_has same. one_list shape tree is entries others has other_has same
