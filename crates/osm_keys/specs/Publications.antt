-- What a publisher makes of a set of objects: the four trees, the manifest and the root.
-- Source: this project's trees and manifests, docs/FORMATS.md.
use Rattle.std.specs.Prelude.{◌≡◌, ℕ, ◌<◌, ◌≤◌, List, length, ◌⊎◌}
use Rattle.osm_model.specs.Elements.{Element}
use Rattle.osm_model.specs.Sets.{IsObjectSet}
use Rattle.tree_node.specs.Digests.{digest}
use Rattle.tree_node.specs.NodeRefs.{number_of}
use Rattle.tree_node.specs.Nodes.{Binding, Node}
use Rattle.tree_node.specs.Trees.{IsNodeOf, levels, top_of}
use Rattle.tree_node.specs.Trees as trees
use Rattle.tree_node.specs.declared.limits.TheConstants.{ENTRY_LIMIT}
use Rattle.tree_node.specs.declared.tree.Tree.{Tree}
use Rattle.osm_keys.specs.Entries.{AreEntriesOf}
use Rattle.osm_keys.specs.Grains.{Whole, grain_of}
use Rattle.osm_keys.specs.Manifests.{manifest}
use Rattle.osm_keys.specs.declared.edition.Edition.{Edition}
use Rattle.osm_keys.specs.declared.edition.Edition.TheVariants as editions

-- a set of objects, an edition, and the entries of each tree
pub record Publication : Type 0 where
  pub objects : List Element
  pub edition : Edition
  pub entries : Tree → List Binding

-- the objects are a set, and each tree has its entries, few enough
pub record IsPublication (p : Publication) : Type 0 where
  pub set : IsObjectSet p.objects
  pub lists : (tree : Tree) → AreEntriesOf (grain_of p.edition) p.objects tree (p.entries tree)
  pub few : (tree : Tree) → length (p.entries tree) ≤ ENTRY_LIMIT

-- a publication of these objects in this edition
pub record IsPublicationOf (objects : List Element) (edition : Edition) (p : Publication) : Type 0 where
  pub published : IsPublication p
  pub same_objects : p.objects ≡ objects
  pub same_edition : p.edition ≡ edition

-- a tree of these objects has more entries than a tree may have
abbrev pub HasTooMany : List Element → Type 0
HasTooMany objects = (tree : Tree) × (entries : List Binding) × AreEntriesOf Whole objects tree entries × (ENTRY_LIMIT < length entries)

-- the shape of an edition's trees
abbrev pub shape_of : Edition → trees.Shape
shape_of editions.One = trees.One
shape_of (editions.Two sequence) = trees.Two

abbrev pub shape_in : Publication → trees.Shape
shape_in p = shape_of p.edition

-- a tree, its levels from the leaves on
abbrev pub tree_in : Publication → Tree → List (List Node)
tree_in p tree = levels (shape_in p) (number_of tree) (p.entries tree)

-- the digest of a tree's top
abbrev pub top_in : Publication → Tree → List ℕ
top_in p tree = digest (top_of (tree_in p tree))

abbrev pub manifest_of : Publication → List ℕ
manifest_of p = manifest p.edition (top_in p)

-- the root: it stands for the set, the edition and its sequence
abbrev pub root_of : Publication → List ℕ
root_of p = digest (manifest_of p)

-- the bytes are the manifest or a node of one of the trees
abbrev pub IsNodeIn : Publication → List ℕ → Type 0
IsNodeIn p bytes = (bytes ≡ manifest_of p) ⊎ ((tree : Tree) × IsNodeOf (tree_in p tree) bytes)
