-- How the entries of trees are taken, node by node.
-- Source: this project.
use Rattle.std.specs.Prelude.{◌≡◌, ◌≢◌, ◌⊎◌, ◌≤◌, ◌++◌, ◌==◌, ⊤, [], ℕ, IfSome, List, Option, Some, if◌then◌else◌}
use Rattle.tree_node.specs.Digests.{digest}
use Rattle.tree_node.specs.NodeRefs.{number_of}
use Rattle.tree_node.specs.Nodes.{Binding, Node, spelling}
use Rattle.tree_node.specs.declared.limits.TheConstants.{LEVEL_LIMIT}
use Rattle.tree_node.specs.declared.tree.Tree.{Tree}
use Rattle.osm_keys.specs.Publications.{IsNodeIn, Publication, shape_in, top_in}
use Rattle.level_files.specs.Built.{HasEntries}
use Rattle.level_files.specs.declared.trees_builder.TreesBuilder.{TreesBuilder}
use Rattle.node_pack.specs.Packs.{Kept, top_digests}
use Rattle.node_pack.specs.Placed.{HasNodesAt}
use Rattle.node_pack.specs.WholeRecords.{IsRecordAt}
use Rattle.node_pack.specs.declared.place.Place.{Place}
use Rattle.node_pack.specs.declared.whole_record.Record.{Record}
use Rattle.pack_compact.specs.Compacting.{IsOfDevice}
use Rattle.pack_compact.specs.declared.fault.CompactFault.{CompactFault}
use Rattle.pack_compact.specs.declared.fault.CompactFault.TheVariants.{Clash, Device, Memory, NoManifest, NoTree, NotWritten, Source, TooLong}
use Rattle.pack_compact.specs.internal.Trees.{IsOver}

-- ---- files

-- files that have nodes
pub record Holding : Type 0 where
  pub bytes : List ℕ
  pub limit : ℕ
  pub places : List ℕ → Option Place
  pub nodes : List Kept

-- Where files are known to have nodes, these are read, and have them.
abbrev pub AreHeld : (List ℕ → Type 0) → Option Holding → Type 0
AreHeld reads known = IfSome known (λ h. reads h.bytes × HasNodesAt h.bytes h.limit h.places h.nodes)

-- there the node with this digest stands at this place
abbrev pub IsPlaceOf : Option Holding → List ℕ → Place → Type 0
IsPlaceOf known key place = IfSome known (λ h. h.places key ≡ Some place)

-- this is the record of the node with this digest
abbrev pub IsRecordOf : Option Holding → List ℕ → Record → Type 0
IsRecordOf known key whole = IfSome known (λ h. IsRecordAt h.places h.limit h.nodes key whole)

-- the record of a manifest, whose children are the tops of the publication
pub record IsRecordOfTops (p : Publication) (h : Holding) (whole : Record) : Type 0 where
  pub root : List ℕ
  pub is : IsRecordAt h.places h.limit h.nodes root whole
  pub children : is.kept.children ≡ top_digests (top_in p)

abbrev pub HasTops : Publication → Option Holding → Record → Type 0
HasTops p known whole = IfSome known (λ h. IsRecordOfTops p h whole)

-- A refusal that says nothing of the publication. Where files have its nodes it is no fault of theirs.
abbrev pub IsFailure : Option Holding → CompactFault → Type 0
IsFailure known (Source reason) = IfSome known (λ h. IsOfDevice reason)
IsFailure known NoManifest = ⊥
IsFailure known NoTree = ⊥
IsFailure known Clash = ⊥
IsFailure known TooLong = ⊥
IsFailure known Memory = ⊤
IsFailure known Device = ⊤
IsFailure known NotWritten = ⊥

-- ---- trees

-- the entries of each tree, where of this one these are taken
abbrev pub with_taken : (Tree → List Binding) → Tree → List Binding → Tree → List Binding
with_taken others tree taken other = if number_of tree == number_of other then taken else others other

-- Of a tree of the publication all entries but the last ones, which these are, are taken.
pub record IsTakenTo {S M : Type 0} (p : Publication) (others : Tree → List Binding) (tree : Tree) (builder : TreesBuilder S M) (left : List Binding) : Type 0 where
  pub taken : List Binding
  pub has : HasEntries builder (shape_in p) (with_taken others tree taken)
  pub all : taken ++ left ≡ p.entries tree

-- The digest is that of a node below which there are these entries, not more levels than this deep. It is the top where there are none.
pub record CanCopy (p : Publication) (known : Option Holding) (key : List ℕ) (place : Place) (depth level : ℕ) (node : Node) (entries : List Binding) : Type 0 where
  pub over : IsOver (IsNodeIn p) level node entries
  pub key_is : key ≡ digest (spelling node)
  pub deep : level ≤ depth
  pub at : IsPlaceOf known key place
  pub some : (entries ≢ []) ⊎ (depth ≡ LEVEL_LIMIT)
