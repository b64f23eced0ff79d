-- How far the cutting of a list into pieces has come.
use Rattle.std.specs.Prelude.{ℕ, zero, suc, ◌+◌, List, [], map}
use Rattle.tree_node.specs.Nodes.{Binding, Link, Node, Leaf, Inner}
use Rattle.tree_node.specs.Trees.{Shape, ends_by, is_marked_entry, is_marked_link, link_to}
use Rattle.tree_build.specs.internal.Cutting.{done_by, pending_after}

-- the entries that are pending, and the leaves that are done
abbrev pub entries_left : Shape → List Binding → List Binding
entries_left shape entries = pending_after (ends_by shape is_marked_entry) [] entries

abbrev pub leaves_done : Shape → ℕ → List Binding → List Node
leaves_done shape tree entries = map (Leaf tree) (done_by (ends_by shape is_marked_entry) [] entries)

-- the items over these nodes that are pending, and the nodes of this level that are done
abbrev pub links_left : Shape → List Node → List Link
links_left shape nodes = pending_after (ends_by shape is_marked_link) [] (map link_to nodes)

abbrev pub inner_done : Shape → ℕ → ℕ → List Node → List Node
inner_done shape tree level nodes = map (Inner tree level) (done_by (ends_by shape is_marked_link) [] (map link_to nodes))

-- the nodes that are done so many levels above these, which are of this level
abbrev pub done_above : Shape → ℕ → ℕ → List Node → ℕ → List Node
done_above shape tree at nodes zero = nodes
done_above shape tree at nodes (suc up) = done_above shape tree (at + 1) (inner_done shape tree (at + 1) nodes) up
