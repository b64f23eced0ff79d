-- What a pack is: the bytes of a file that has the nodes of a publication, each beside the places of its children.
-- Source: this project's packs, docs/FORMATS.md.
use Rattle.std.specs.Int.{from_be_bytes, to_be_bytes, w32}
use Rattle.std.specs.List.{AllByRecursion, flat_map}
use Rattle.std.specs.Str.{bytes_eq}
use Rattle.std.specs.Prelude.{◌≡◌, ◌≢◌, ◌⊎◌, ◌<◌, ◌≤◌, ◌+◌, ◌*◌, ◌^◌, ℕ, List, [], ◌∷◌, ◌++◌, Option, Some, None, IsSome, ⊤, drop, if◌then◌else◌, length, map, take, unwrap_or}
use Rattle.osm_keys.specs.Manifests.{HaveWidth, manifest}
use Rattle.osm_keys.specs.declared.edition.Edition.{Edition}
use Rattle.tree_node.specs.Digests.{digest}
use Rattle.tree_node.specs.Nodes.{Link, Node, Spells}
use Rattle.tree_node.specs.Trees.{links_in}
use Rattle.tree_node.specs.declared.digest.Digest.{Digest}
use Rattle.tree_node.specs.declared.tree.Tree.{Tree}
use Rattle.tree_node.specs.declared.tree.Tree.TheVariants.{Backs, Cells, Objects, Tags}
use Rattle.node_pack.specs.Headers.{header_bytes}
use Rattle.node_pack.specs.Places.{place_bytes}
use Rattle.node_pack.specs.declared.header.TheConstants.{HEADER_LEN}
use Rattle.node_pack.specs.declared.place.Place.{Place}

-- ---- children

-- the bytes of digests
abbrev pub digests_of : List Digest → List (List ℕ)
digests_of keys = map (λ (key : Digest). key.0) keys

-- the digests of the children of a node of a tree, in the node's order
abbrev pub child_digests : Node → List (List ℕ)
child_digests node = map (λ (link : Link). link.child) (links_in node)

-- the digests of the four tops, in the order of the trees' numbers
abbrev pub top_digests : (Tree → List ℕ) → List (List ℕ)
top_digests tops = tops Objects ∷ tops Tags ∷ tops Cells ∷ tops Backs ∷ []

-- The bytes are a node of a tree or a manifest, and its children have these digests. Those of a manifest are the tops.
abbrev pub HasChildren : List ℕ → List (List ℕ) → Type 0
HasChildren bytes digests =
    ((node : Node) × Spells bytes node × (digests ≡ child_digests node))
    ⊎ ((edition : Edition) × (tops : Tree → List ℕ) × HaveWidth tops × (bytes ≡ manifest edition tops) × (digests ≡ top_digests tops))

-- ---- records

-- a node, and the digests of its children
pub record Kept : Type 0 where
  pub bytes : List ℕ
  pub children : List (List ℕ)

-- where nothing stands
abbrev pub no_place : Place
no_place = record { at = 0; len = 0 }

-- the places of children, one after the other
abbrev pub table : (List ℕ → Option Place) → List (List ℕ) → List ℕ
table place_of children = flat_map (λ (child : List ℕ). place_bytes (unwrap_or (place_of child) no_place)) children

-- a record: the length of the node in four bytes, the node, the places of its children
abbrev pub record_bytes : (List ℕ → Option Place) → Kept → List ℕ
record_bytes place_of kept = to_be_bytes w32 (length kept.bytes) ++ (kept.bytes ++ table place_of kept.children)

-- how many bytes a record has
abbrev pub record_len : Kept → ℕ
record_len kept = 4 + (length kept.bytes + 12 * length kept.children)

-- where the record of the node with a digest stands, among records that stand one after the other from an offset on
abbrev pub place_from : ℕ → List Kept → List ℕ → Option Place
place_from at [] key = None
place_from at (kept ∷ others) key =
    if bytes_eq (digest kept.bytes) key then Some (record { at = at; len = record_len kept }) else place_from (at + record_len kept) others key

-- ---- packs

-- where the records of a pack stand: after the header
abbrev pub place_in : List Kept → List ℕ → Option Place
place_in nodes key = place_from HEADER_LEN nodes key

-- the records of a pack
abbrev pub records_in : List Kept → List ℕ
records_in nodes = flat_map (record_bytes (place_in nodes)) nodes

-- how many bytes a pack has
abbrev pub pack_len : List Kept → ℕ
pack_len nodes = HEADER_LEN + length (records_in nodes)

-- the bytes of a pack: the header, and the records of its nodes one after the other
unfoldable pub pack : List ℕ → List Kept → List ℕ
pack root nodes =
    header_bytes (record { root = record { 0 = root }; size = pack_len nodes; manifest = unwrap_or (place_in nodes root) no_place })
    ++ records_in nodes

-- a node has the children that are listed with it, each of which is a node of the pack too, and fits its record
pub record IsKept (nodes : List Kept) (kept : Kept) : Type 0 where
  pub children : HasChildren kept.bytes kept.children
  pub closed : AllByRecursion (λ (child : List ℕ). IsSome (place_in nodes child)) kept.children
  pub short : record_len kept < 2 ^ 32

-- each node is kept once: the others after it have other digests
abbrev pub AreApart : List Kept → Type 0
AreApart [] = ⊤
AreApart (kept ∷ others) = AllByRecursion (λ (other : Kept). digest other.bytes ≢ digest kept.bytes) others × AreApart others

-- The bytes are a pack of the root with just these nodes, of which one has the root.
pub record IsPack (file root : List ℕ) (nodes : List Kept) : Type 0 where
  pub bytes : file ≡ pack root nodes
  pub wide : length root ≡ 32
  pub kept : AllByRecursion (IsKept nodes) nodes
  pub apart : AreApart nodes
  pub rooted : IsSome (place_in nodes root)
  pub short : pack_len nodes ≤ 2 ^ 48

-- ---- reading a record

-- the node of a record, as far as the record has it
abbrev pub node_in : List ℕ → List ℕ
node_in bytes = take (from_be_bytes w32 (take 4 bytes)) (drop 4 bytes)
