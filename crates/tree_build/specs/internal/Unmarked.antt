-- Nodes inside of which no entry is marked.
use Rattle.tree_node.specs.Nodes.{Node}
use Rattle.tree_node.specs.Trees.{Two, entries_in, is_marked_entry}
use Rattle.tree_build.specs.Cuts.{EndsNoSooner}

-- between the node's first entry and its last none is marked
abbrev pub IsUnmarkedInside : Node → Type 0
IsUnmarkedInside node = EndsNoSooner Two is_marked_entry (entries_in node)
