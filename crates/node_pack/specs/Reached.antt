-- Which nodes stand under a root, and why a pack of them isn't written.
-- Source: this project.
use Rattle.std.specs.List.{AllByRecursion, Contains}
use Rattle.std.specs.Prelude.{◌≡◌, ◌<◌, ◌≤◌, ◌^◌, ◌⊎◌, ℕ, suc, List, ⊤}
use Rattle.osm_keys.specs.Manifests.{HaveWidth, manifest}
use Rattle.osm_keys.specs.declared.edition.Edition.{Edition}
use Rattle.tree_node.specs.Digests.{digest}
use Rattle.tree_node.specs.NodeRefs.{number_of}
use Rattle.tree_node.specs.Nodes.{Inner, Link, Node, Spells, level_of, tree_of}
use Rattle.tree_node.specs.Shelves.{HasNone}
use Rattle.tree_node.specs.declared.tree.Tree.{Tree}
use Rattle.node_pack.specs.Packs.{AreApart, HasChildren, IsPack, Kept, pack, pack_len, record_len}
use Rattle.node_pack.specs.declared.role.Role.{Role}
use Rattle.node_pack.specs.declared.role.Role.TheVariants as roles
use Rattle.node_pack.specs.declared.role.Wanted.{Wanted}
use Rattle.node_pack.specs.declared.role.Wanted.TheVariants.{Below, Root, Top}
use Rattle.node_pack.specs.declared.write_fault.WriteFault.{WriteFault}
use Rattle.node_pack.specs.declared.write_fault.WriteFault.TheVariants as faults

-- ---- what nodes are, and what they have to be

-- the bytes are a manifest, or a node of this tree at this level
abbrev pub HasRole : List ℕ → Role → Type 0
HasRole bytes roles.Manifest = (edition : Edition) × (tops : Tree → List ℕ) × HaveWidth tops × (bytes ≡ manifest edition tops)
HasRole bytes (roles.Node tree level) = (node : Node) × Spells bytes node × (tree_of node ≡ number_of tree) × (level_of node ≡ level)

-- what has this role is as wanted: the root's node a manifest, a top a node of its tree, a child a node of its tree and level
abbrev pub Fits : Role → Wanted → Type 0
Fits roles.Manifest Root = ⊤
Fits roles.Manifest (Top tree) = ⊥
Fits roles.Manifest (Below tree level) = ⊥
Fits (roles.Node tree level) Root = ⊥
Fits (roles.Node tree level) (Top other) = tree ≡ other
Fits (roles.Node tree level) (Below other same) = (tree ≡ other) × (level ≡ same)

-- the bytes are as wanted
abbrev pub IsAsWanted : Wanted → List ℕ → Type 0
IsAsWanted wanted bytes = (role : Role) × HasRole bytes role × Fits role wanted

-- The bytes refer to the node with this digest, as what is wanted: a manifest to the top of a tree, an inner node to a node of its
-- tree one level below.
abbrev pub Refers : List ℕ → Wanted → List ℕ → Type 0
Refers bytes Root key = ⊥
Refers bytes (Top tree) key = (edition : Edition) × (tops : Tree → List ℕ) × HaveWidth tops × (bytes ≡ manifest edition tops) × (key ≡ tops tree)
Refers bytes (Below tree level) key =
    (links : List Link) × (link : Link) × Spells bytes (Inner (number_of tree) (suc level) links) × Contains links link × (key ≡ link.child)

-- Under a root stands its manifest, and what held nodes under it refer to that are as wanted.
pub data IsUnder (held : List ℕ → Type 0) (root : List ℕ) : Wanted → List ℕ → Type 0 where
  AtRoot : IsUnder held root Root root
  Referred : (parent_as : Wanted) (parent : List ℕ) (wanted : Wanted) (key : List ℕ)
      → held parent → IsAsWanted parent_as parent → IsUnder held root parent_as (digest parent) → Refers parent wanted key → IsUnder held root wanted key

-- ---- a pack of what stands under a root

-- a held node under the root, which is as wanted, and its children
pub record IsReached (held : List ℕ → Type 0) (root : List ℕ) (kept : Kept) : Type 0 where
  pub is_held : held kept.bytes
  pub children : HasChildren kept.bytes kept.children
  pub wanted : Wanted
  pub as_wanted : IsAsWanted wanted kept.bytes
  pub under : IsUnder held root wanted (digest kept.bytes)

-- one of the nodes has this digest, and is as wanted
pub record HasKept (nodes : List Kept) (wanted : Wanted) (key : List ℕ) : Type 0 where
  pub kept : Kept
  pub is_in : Contains nodes kept
  pub has_digest : digest kept.bytes ≡ key
  pub as_wanted : IsAsWanted wanted kept.bytes

-- These are the nodes of a pack of the root: all held nodes that stand under it, and no others.
pub record ArePacked (held : List ℕ → Type 0) (root : List ℕ) (nodes : List Kept) : Type 0 where
  pub is_pack : IsPack (pack root nodes) root nodes
  pub reached : AllByRecursion (IsReached held root) nodes
  pub whole : (wanted : Wanted) (key : List ℕ) → IsUnder held root wanted key → HasKept nodes wanted key

-- ---- why no pack is written

-- why a node by itself gets no record: it is neither a node of a tree nor a manifest, or the record would be too long
abbrev pub IsUnfit : List ℕ → WriteFault → Type 0
IsUnfit bytes faults.Missing = ⊥
IsUnfit bytes faults.Malformed = (role : Role) → ¬ HasRole bytes role
IsUnfit bytes faults.TooLong = (children : List (List ℕ)) × HasChildren bytes children × (2 ^ 32 ≤ record_len (record { bytes = bytes; children = children }))
IsUnfit bytes faults.Memory = ⊤
IsUnfit bytes faults.NotWritten = ⊥

-- what stands under the root is too long for a pack: a record, or records of different nodes
abbrev pub AreTooLong : (List ℕ → Type 0) → List ℕ → Type 0
AreTooLong held root =
    ((kept : Kept) × IsReached held root kept × (2 ^ 32 ≤ record_len kept))
    ⊎ ((nodes : List Kept) × AllByRecursion (IsReached held root) nodes × AreApart nodes × (2 ^ 48 < pack_len nodes))

-- The reason of a refusal that isn't the writer's: a node under the root isn't held, or isn't as wanted, or they are too long.
-- Memory says nothing of the nodes.
abbrev pub IsReason : (List ℕ → Type 0) → List ℕ → WriteFault → Type 0
IsReason held root faults.Missing = (wanted : Wanted) × (key : List ℕ) × IsUnder held root wanted key × HasNone held key
IsReason held root faults.Malformed = (wanted : Wanted) × (bytes : List ℕ) × held bytes × IsUnder held root wanted (digest bytes) × ¬ IsAsWanted wanted bytes
IsReason held root faults.TooLong = AreTooLong held root
IsReason held root faults.Memory = ⊤
IsReason held root faults.NotWritten = ⊥
