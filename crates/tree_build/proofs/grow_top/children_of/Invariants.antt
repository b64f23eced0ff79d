use Rattle.std.proofs.Common.{List, drop}
use Rattle.tree_node.specs.NodeRefs.{links_of}
use Rattle.tree_node.specs.Nodes.{Node}
use Rattle.tree_build.specs.internal.Edits.{Each, IsNewNode}
use Rattle.tree_build.proofs.GrowLemmas.{AreLinked}
use Rattle.tree_build.proofs.grow_top.children_of.Given as goal

-- the children so far, and the nodes to come
abbrev pub invariant-loop-node : goal.invariant-loop-node
invariant-loop-node l = (known : List Node) → Each IsNewNode l.nodes known → AreLinked (links_of l.children.items) (drop l.node-index l.nodes) known
