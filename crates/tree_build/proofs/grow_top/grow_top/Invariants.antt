use Rattle.std.proofs.Common.{◌≤◌, List, length}
use Rattle.tree_node.specs.NodeRefs.{links_of, number_of}
use Rattle.tree_node.specs.Nodes.{Binding}
use Rattle.tree_node.specs.Trees.{HasTree, Two}
use Rattle.tree_build.specs.Rebuilding.{nodes_of}
use Rattle.tree_build.specs.internal.Edits.{Each, IsNewNode}
use Rattle.tree_build.specs.internal.Towers.{tower}
use Rattle.tree_build.proofs.GrowLemmas.{IsGrowing}
use Rattle.tree_build.proofs.grow_top.grow_top.Given as goal

-- so many levels were made
abbrev pub invariant-growing : goal.invariant-growing
invariant-growing l = (entries : List Binding) → HasTree entries → 1 ≤ length l.nodes → Each IsNewNode l.nodes (tower Two (number_of l.tree) entries l.before)
    → IsGrowing (tower Two (number_of l.tree) entries) l.before l.level (nodes_of l.fn.added.items) (nodes_of l.added.items) (links_of l.children.items)

abbrev pub decreases-growing : goal.decreases-growing
decreases-growing l = length l.children.items
