use Rattle.std.proofs.Common.{◌≡◌, ◌++◌, map}
use Rattle.tree_node.specs.NodeRefs.{link_of, node_read}
use Rattle.tree_node.specs.Trees.{links_in}
use Rattle.tree_build.proofs.level_item.ChildLevelItem.items_of.Given as goal

-- the items so far, and those to come
abbrev pub invariant-loop-child : goal.invariant-loop-child
invariant-loop-child l = map link_of l.items.items ++ l.child-iterator ≡ links_in (node_read l.fn.node)
