-- Nodes that are gathered for a pack.
-- Source: this project.
use Rattle.std.specs.HashMap.{HashMap, get}
use Rattle.std.specs.HashSet.{HashSet, contains}
use Rattle.std.specs.List.{Contains}
use Rattle.std.specs.Prelude.{◌≡◌, ◌<◌, ◌≤◌, ◌-◌, ◌^◌, ℕ, zero, suc, List, Option, map, length, slice_index_or, true, ⊤}
use Rattle.byte_io.specs.Written.{AppendsFront}
use Rattle.osm_keys.specs.Manifests.{HaveWidth, manifest}
use Rattle.osm_keys.specs.declared.edition.Edition.{Edition}
use Rattle.tree_node.specs.Digests.{digest}
use Rattle.tree_node.specs.Keys.{digest_eq}
use Rattle.tree_node.specs.NodeRefs.{number_of}
use Rattle.tree_node.specs.Nodes.{Node, Spells, level_of, tree_of}
use Rattle.tree_node.specs.declared.digest.Digest.{Digest}
use Rattle.tree_node.specs.declared.tree.Tree.{Tree}
use Rattle.tree_node.specs.declared.tree.Tree.TheVariants.{Backs, Cells, Objects, Tags}
use Rattle.node_pack.specs.Known.{key_with}
use Rattle.node_pack.specs.Packs.{AreApart, Kept, child_digests, digests_of, pack, pack_len, record_len, top_digests}
use Rattle.node_pack.specs.Reached.{IsAsWanted, IsUnder}
use Rattle.node_pack.specs.declared.gathered.Gathered.{Gathered}
use Rattle.node_pack.specs.declared.place.Place.{Place}
use Rattle.node_pack.specs.declared.role.Role.{Role}
use Rattle.node_pack.specs.declared.role.Role.TheVariants as roles
use Rattle.node_pack.specs.declared.role.Wanted.{Wanted}
use Rattle.node_pack.specs.declared.role.Wanted.TheVariants.{Below, Root, Top}
use Rattle.node_pack.specs.declared.write_fault.WriteFault.{WriteFault}
use Rattle.node_pack.specs.declared.write_fault.WriteFault.TheVariants as faults

-- ---- roles

-- the tree whose top a manifest names at this place
abbrev pub nth_tree : ℕ → Tree
nth_tree zero = Objects
nth_tree (suc zero) = Tags
nth_tree (suc (suc zero)) = Cells
nth_tree (suc (suc (suc at))) = Backs

-- what the child at a place among a node's children has to be
abbrev pub wanted_below : Role → ℕ → Wanted
wanted_below roles.Manifest at = Top (nth_tree at)
wanted_below (roles.Node tree level) at = Below tree (level - 1)

-- the bytes have this role and these children
abbrev pub IsRead : List ℕ → Role → List (List ℕ) → Type 0
IsRead bytes roles.Manifest children = (edition : Edition) × (tops : Tree → List ℕ) × HaveWidth tops × (bytes ≡ manifest edition tops) × (children ≡ top_digests tops)
IsRead bytes (roles.Node tree level) children =
    (node : Node) × Spells bytes node × (tree_of node ≡ number_of tree) × (level_of node ≡ level) × (children ≡ child_digests node)

-- how many nodes may stand one below the other under a node of this role
abbrev pub height_of : Role → ℕ
height_of roles.Manifest = 64
height_of (roles.Node tree level) = level

-- more than that, for what is as wanted
abbrev pub height_wanted : Wanted → ℕ
height_wanted Root = 65
height_wanted (Top tree) = 64
height_wanted (Below tree level) = suc level

-- ---- gathered nodes

-- a gathered node, as a pack keeps it
abbrev pub kept_of : Gathered → Kept
kept_of node = record { bytes = node.bytes.now; children = digests_of node.children.items }

abbrev pub kepts : List Gathered → List Kept
kepts nodes = map kept_of nodes

-- its digest
abbrev pub digest_in : Gathered → List ℕ
digest_in node = digest node.bytes.now

-- the digest and the length of its record are its own
pub record IsMeasured (node : Gathered) : Type 0 where
  pub key : node.key.0 ≡ digest node.bytes.now
  pub len : node.len ≡ record_len (kept_of node)

-- its length fits four bytes
abbrev pub HasShortNode : Gathered → Type 0
HasShortNode node = length node.bytes.now < 2 ^ 32

-- a held node under the root, which is as wanted
pub record IsGathered (held : List ℕ → Type 0) (root : List ℕ) (node : Gathered) : Type 0 where
  pub measured : IsMeasured node
  pub is_held : held node.bytes.now
  pub read : IsRead node.bytes.now node.role (digests_of node.children.items)
  pub short : record_len (kept_of node) < 2 ^ 32
  pub wanted : Wanted
  pub as_wanted : IsAsWanted wanted node.bytes.now
  pub under : IsUnder held root wanted (digest node.bytes.now)

-- a held node has this digest, and is as wanted
pub record IsFound (held : List ℕ → Type 0) (wanted : Wanted) (key : List ℕ) : Type 0 where
  pub bytes : List ℕ
  pub is_held : held bytes
  pub has_digest : digest bytes ≡ key
  pub as_wanted : IsAsWanted wanted bytes

-- each child of a node is found, and is one that there are
abbrev pub IsClosed : (List ℕ → Type 0) → (List ℕ → Type 0) → Gathered → Type 0
IsClosed held There node =
    (i : ℕ) (d : Digest) → i < length node.children.items
    → There (slice_index_or node.children.items i d).0 × IsFound held (wanted_below node.role i) (slice_index_or node.children.items i d).0

-- one of the nodes has this digest
abbrev pub HasNode : List Gathered → List ℕ → Type 0
HasNode nodes key = (node : Gathered) × Contains nodes node × (digest_in node ≡ key)

-- the digest is one of those that were seen
abbrev pub IsSeen : {S : Type 0} → HashSet Digest S → List ℕ → Type 0
IsSeen seen key = contains digest_eq seen (key_with key) ≡ true

abbrev pub AllGathered : (List ℕ → Type 0) → List ℕ → List Gathered → Type 0
AllGathered held root nodes = (node : Gathered) → Contains nodes node → IsGathered held root node

abbrev pub AllClosed : (List ℕ → Type 0) → (List ℕ → Type 0) → List Gathered → Type 0
AllClosed held There nodes = (node : Gathered) → Contains nodes node → IsClosed held There node

-- the heights of nodes are below this
abbrev pub AreLow : ℕ → List Gathered → Type 0
AreLow height nodes = (node : Gathered) → Contains nodes node → height_of node.role < height

-- What was gathered under a root, each node once: those that were seen.
pub record AreGathered {S : Type 0} (held : List ℕ → Type 0) (root : List ℕ) (seen : HashSet Digest S) (nodes : List Gathered) : Type 0 where
  pub each : AllGathered held root nodes
  pub apart : AreApart (kepts nodes)
  pub were_seen : (node : Gathered) → Contains nodes node → IsSeen seen (digest_in node)
  pub there : (key : List ℕ) → IsSeen seen key → HasNode nodes key

-- all that stands under a root is gathered
pub record IsWhole (held : List ℕ → Type 0) (root : List ℕ) (nodes : List Gathered) : Type 0 where
  pub each : AllGathered held root nodes
  pub closed : AllClosed held (HasNode nodes) nodes
  pub apart : AreApart (kepts nodes)
  pub rooted : HasNode nodes root
  pub root_found : IsFound held Root root

-- ---- places

-- the place under a digest
abbrev pub place_by : {S : Type 0} → HashMap Digest Place S → List ℕ → Option Place
place_by places key = get digest_eq places (key_with key)

-- ---- refusals

-- why something isn't read: memory, or this
abbrev pub IsUnread : Type 0 → WriteFault → Type 0
IsUnread Reason faults.Missing = ⊥
IsUnread Reason faults.Malformed = Reason
IsUnread Reason faults.TooLong = ⊥
IsUnread Reason faults.Memory = ⊤
IsUnread Reason faults.NotWritten = ⊥

-- the bytes have a role and children whose record would have 2^32 bytes or more
abbrev pub IsLong : List ℕ → Type 0
IsLong bytes = (role : Role) × (children : List (List ℕ)) × IsRead bytes role children × (2 ^ 32 ≤ record_len (record { bytes = bytes; children = children }))

-- why a node isn't gathered: it isn't as wanted, or its record would be too long, or memory
abbrev pub IsNewFault : Wanted → List ℕ → WriteFault → Type 0
IsNewFault wanted bytes faults.Missing = ⊥
IsNewFault wanted bytes faults.Malformed = ¬ IsAsWanted wanted bytes
IsNewFault wanted bytes faults.TooLong = IsAsWanted wanted bytes × IsLong bytes
IsNewFault wanted bytes faults.Memory = ⊤
IsNewFault wanted bytes faults.NotWritten = ⊥

-- why nodes aren't laid out: two have one digest, their file would be too long, or memory
abbrev pub IsLayoutFault : List Kept → WriteFault → Type 0
IsLayoutFault nodes faults.Missing = ⊥
IsLayoutFault nodes faults.Malformed = ¬ AreApart nodes
IsLayoutFault nodes faults.TooLong = 2 ^ 48 < pack_len nodes
IsLayoutFault nodes faults.Memory = ⊤
IsLayoutFault nodes faults.NotWritten = ⊥

-- why a pack of these nodes isn't written, what a writer had before and after it, and whether the writer is as before
abbrev pub IsPackFault : List ℕ → List Kept → (old new : Option (List ℕ)) → Type 0 → WriteFault → Type 0
IsPackFault root nodes old new Untouched faults.Missing = ⊥
IsPackFault root nodes old new Untouched faults.Malformed = ⊥
IsPackFault root nodes old new Untouched faults.TooLong = (2 ^ 48 < pack_len nodes) × Untouched
IsPackFault root nodes old new Untouched faults.Memory = Untouched
IsPackFault root nodes old new Untouched faults.NotWritten = (pack_len nodes ≤ 2 ^ 48) × AppendsFront old new (pack root nodes)
