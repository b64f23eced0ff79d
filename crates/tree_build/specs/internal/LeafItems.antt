-- Items of leaves, without where they lie in memory.
use Rattle.std.specs.Prelude.{◌≡◌, Bool, true, false, if◌then◌else◌}
use Rattle.tree_node.specs.NodeRefs.{binding_of}
use Rattle.tree_node.specs.Nodes.{Binding}
use Rattle.tree_node.specs.Trees.{is_marked_entry}
use Rattle.tree_build.specs.declared.leaf_item.LeafItem.{LeafItem}

abbrev pub entry_of : LeafItem → Binding
entry_of item = binding_of item.entry

-- the mark that the item tells
abbrev pub mark_told : LeafItem → Bool
mark_told item = if item.known_unmarked then false else is_marked_entry (entry_of item)

-- what it knows of its mark is so
abbrev pub KnowsItsMark : LeafItem → Type 0
KnowsItsMark item = item.known_unmarked ≡ true → is_marked_entry (entry_of item) ≡ false
