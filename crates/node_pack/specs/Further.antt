-- What a further file is: the bytes of a file that has the nodes which a change adds to those of earlier files.
-- Source: this project's packs, docs/FORMATS.md.
use Rattle.std.specs.List.{AllByRecursion, flat_map}
use Rattle.std.specs.Option.{option_or}
use Rattle.std.specs.Prelude.{◌≡◌, ◌<◌, ◌≤◌, ◌+◌, ◌-◌, ◌*◌, ◌^◌, ℕ, List, ◌++◌, Option, None, IsSome, length, unwrap_or}
use Rattle.tree_node.specs.Digests.{digest}
use Rattle.node_pack.specs.Headers.{header_with}
use Rattle.node_pack.specs.Known.{IsPlaced}
use Rattle.node_pack.specs.Packs.{AreApart, HasChildren, Kept, no_place, place_from, record_bytes, record_len}
use Rattle.node_pack.specs.declared.header.Header.{Header}
use Rattle.node_pack.specs.declared.header.TheConstants.{FURTHER_VERSION, HEADER_LEN}
use Rattle.node_pack.specs.declared.place.Place.{Place}

-- ---- places

-- the offset of the first record of the file with a number, in all files as one
abbrev pub first_at : ℕ → ℕ
first_at number = number * 2 ^ 48 + HEADER_LEN

-- where a node stands once a file with these nodes stands under a number beside others, in which nodes have their old places
abbrev pub place_beside : ℕ → List Kept → (List ℕ → Option Place) → List ℕ → Option Place
place_beside number nodes old key = option_or (place_from (first_at number) nodes key) (old key)

-- ---- further files

-- the records of the nodes of a further file
abbrev pub further_records : ℕ → (List ℕ → Option Place) → List Kept → List ℕ
further_records number old nodes = flat_map (record_bytes (place_beside number nodes old)) nodes

-- how many bytes it has
abbrev pub further_len : ℕ → (List ℕ → Option Place) → List Kept → ℕ
further_len number old nodes = HEADER_LEN + length (further_records number old nodes)

-- what its header says
abbrev pub further_header : ℕ → (List ℕ → Option Place) → List ℕ → List Kept → Header
further_header number old root nodes = record {
  root = record { 0 = root };
  size = further_len number old nodes;
  manifest = unwrap_or (place_from (first_at number) nodes root) no_place;
}

-- the bytes of a further file: a header like that of a pack, but of version 2, and the records of its nodes one after the other
unfoldable pub further : ℕ → (List ℕ → Option Place) → List ℕ → List Kept → List ℕ
further number old root nodes = header_with FURTHER_VERSION (further_header number old root nodes) ++ further_records number old nodes

-- A node has the children that are listed with it, each of which has a place beside the others, and fits its record. It had no place
-- before.
pub record IsAdded (number : ℕ) (old : List ℕ → Option Place) (nodes : List Kept) (kept : Kept) : Type 0 where
  pub children : HasChildren kept.bytes kept.children
  pub placed : AllByRecursion (IsPlaced (place_beside number nodes old) (2 ^ 64 - 1)) kept.children
  pub short : record_len kept < 2 ^ 32
  pub is_new : old (digest kept.bytes) ≡ None

-- The bytes are a further file under this number, of the root with just these nodes, of which one has the root.
pub record IsFurther (file : List ℕ) (number : ℕ) (old : List ℕ → Option Place) (root : List ℕ) (nodes : List Kept) : Type 0 where
  pub bytes : file ≡ further number old root nodes
  pub wide : length root ≡ 32
  pub added : AllByRecursion (IsAdded number old nodes) nodes
  pub apart : AreApart nodes
  pub rooted : IsSome (place_from (first_at number) nodes root)
  pub short : further_len number old nodes ≤ 2 ^ 48
