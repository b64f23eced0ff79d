-- What a publisher makes of a set of objects where each object's line is a node of its own: the lines, the four trees,
-- the manifest and the root.
-- Source: this project.
use Rattle.std.specs.List.{Contains}
use Rattle.std.specs.Prelude.{◌≡◌, ℕ, ◌<◌, ◌≤◌, ◌^◌, List, length, ◌⊎◌}
use Rattle.light_keys.specs.LightManifests.{light_manifest}
use Rattle.osm_model.specs.CanonicalLine.{canonical_line}
use Rattle.osm_model.specs.Elements.{Element}
use Rattle.osm_model.specs.Sets.{IsObjectSet}
use Rattle.tree_node.specs.Digests.{digest}
use Rattle.tree_node.specs.NodeRefs.{number_of}
use Rattle.tree_node.specs.Nodes.{Binding, Node}
use Rattle.tree_node.specs.Trees.{IsNodeOf, levels, top_of}
use Rattle.tree_node.specs.Trees as trees
use Rattle.tree_node.specs.declared.limits.TheConstants.{ENTRY_LIMIT}
use Rattle.tree_node.specs.declared.tree.Tree.{Tree}
use Rattle.osm_keys.specs.Entries.{AreEntriesOf}
use Rattle.osm_keys.specs.Grains.{Lines}

-- a set of objects, a sequence, and the entries of each tree
pub record LightPublication : Type 0 where
  pub objects : List Element
  pub sequence : ℕ
  pub entries : Tree → List Binding

-- the objects are a set, each tree has its entries, few enough, and the sequence fits its eight bytes
pub record IsLightPublication (p : LightPublication) : Type 0 where
  pub set : IsObjectSet p.objects
  pub lists : (tree : Tree) → AreEntriesOf Lines p.objects tree (p.entries tree)
  pub few : (tree : Tree) → length (p.entries tree) ≤ ENTRY_LIMIT
  pub sequence : p.sequence < 2 ^ 64

-- a publication of these objects at this sequence
pub record IsLightPublicationOf (objects : List Element) (sequence : ℕ) (p : LightPublication) : Type 0 where
  pub published : IsLightPublication p
  pub same_objects : p.objects ≡ objects
  pub same_sequence : p.sequence ≡ sequence

-- a tree of these objects has more entries than a tree may have
abbrev pub HasTooManyLight : List Element → Type 0
HasTooManyLight objects = (tree : Tree) × (entries : List Binding) × AreEntriesOf Lines objects tree entries × (ENTRY_LIMIT < length entries)

-- a tree, its levels from the leaves on
abbrev pub light_tree_in : LightPublication → Tree → List (List Node)
light_tree_in p tree = levels trees.Two (number_of tree) (p.entries tree)

-- the digest of a tree's top
abbrev pub light_top_in : LightPublication → Tree → List ℕ
light_top_in p tree = digest (top_of (light_tree_in p tree))

abbrev pub light_manifest_of : LightPublication → List ℕ
light_manifest_of p = light_manifest p.sequence (light_top_in p)

-- the root: it stands for the set and the sequence
abbrev pub light_root_of : LightPublication → List ℕ
light_root_of p = digest (light_manifest_of p)

-- the bytes are a node of one of the trees
abbrev pub IsLightTreeNode : LightPublication → List ℕ → Type 0
IsLightTreeNode p bytes = (tree : Tree) × IsNodeOf (light_tree_in p tree) bytes

-- the bytes are the canonical line of one of the objects, without its LF
abbrev pub IsLineIn : LightPublication → List ℕ → Type 0
IsLineIn p bytes = (o : Element) × Contains p.objects o × (bytes ≡ canonical_line o)

-- the bytes are the manifest, a node of one of the trees, or one of the lines
abbrev pub IsLightNodeIn : LightPublication → List ℕ → Type 0
IsLightNodeIn p bytes = (bytes ≡ light_manifest_of p) ⊎ (IsLightTreeNode p bytes ⊎ IsLineIn p bytes)
