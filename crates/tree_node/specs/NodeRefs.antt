-- What a node that was read says, without where it lies in memory.
-- Source: this project's form of nodes, docs/FORMATS.md.
use Rattle.std.specs.Prelude.{ℕ, List, map}
use Rattle.tree_node.specs.Nodes.{Binding, Link, Node, Leaf, Inner}
use Rattle.tree_node.specs.declared.tree.Tree.{Tree}
use Rattle.tree_node.specs.declared.tree.Tree.TheVariants.{Objects, Tags, Cells, Backs}
use Rattle.tree_node.specs.declared.item.Item.{Item}
use Rattle.tree_node.specs.declared.child.Child.{Child}
use Rattle.tree_node.specs.declared.node.NodeRef.{NodeRef}
use Rattle.tree_node.specs.declared.node.NodeRef.TheVariants as nodes

-- the number of a tree, as nodes and manifests write it
abbrev pub number_of : Tree → ℕ
number_of Objects = 1
number_of Tags = 2
number_of Cells = 3
number_of Backs = 4

-- the entry that an item of a leaf is
abbrev pub binding_of : Item → Binding
binding_of item = record { key = item.key.now; value = item.value.now }

abbrev pub bindings_of : List Item → List Binding
bindings_of items = map binding_of items

-- what an inner node says of a child
abbrev pub link_of : Child → Link
link_of child = record { greatest = child.greatest.now; number = child.number; child = child.digest.0 }

abbrev pub links_of : List Child → List Link
links_of children = map link_of children

-- the leaf with these items
abbrev pub leaf_of : Tree → List Item → Node
leaf_of tree items = Leaf (number_of tree) (bindings_of items)

-- the inner node with these children
abbrev pub inner_of : Tree → ℕ → List Child → Node
inner_of tree level children = Inner (number_of tree) level (links_of children)

-- the node that was read
abbrev pub node_read : NodeRef → Node
node_read (nodes.Leaf tree entries) = Leaf (number_of tree) entries
node_read (nodes.Inner tree level children) = Inner (number_of tree) level children
