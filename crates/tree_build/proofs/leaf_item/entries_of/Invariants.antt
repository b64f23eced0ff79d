use Rattle.std.proofs.Common.{◌≡◌, map, take}
use Rattle.tree_node.specs.NodeRefs.{bindings_of}
use Rattle.tree_build.specs.internal.LeafItems.{entry_of}
use Rattle.tree_build.proofs.leaf_item.entries_of.Given as goal

-- the entries so far
abbrev pub invariant-loop-item : goal.invariant-loop-item
invariant-loop-item l = bindings_of l.entries.items ≡ map entry_of (take l.item-index l.items)
