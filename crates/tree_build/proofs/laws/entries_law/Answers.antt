use Rattle.tree_node.specs.Trees.{levels}
use Rattle.tree_node.proofs.shared.TreeLaws.{leaves_joined}
use Rattle.tree_node.proofs.shared.TreeParts.{joined_at}
use Rattle.tree_build.proofs.laws.entries_law.Goals as goal

pub returns-clause-leaves : goal.returns-clause-leaves
unfolding levels
returns-clause-leaves c = λ shape tree entries. leaves_joined shape tree entries

pub returns-clause-below : goal.returns-clause-below
unfolding levels
returns-clause-below c = λ shape tree entries level lt. joined_at shape tree entries level lt
