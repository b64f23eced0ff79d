-- Records that were read whole.
-- Source: this project's packs, docs/FORMATS.md.
use Rattle.std.specs.List.{AllByRecursion, Contains}
use Rattle.std.specs.Prelude.{◌≡◌, ◌<◌, ◌^◌, ℕ, List, [], Option, Some, length, slice_index_or}
use Rattle.tree_node.specs.Digests.{digest}
use Rattle.node_pack.specs.Known.{IsPlaced}
use Rattle.node_pack.specs.Packs.{HasChildren, Kept, record_bytes}
use Rattle.node_pack.specs.declared.place.Place.{Place}
use Rattle.node_pack.specs.declared.whole_record.Record.{Record}

-- the bytes of a record
abbrev pub bytes_in : Record → List ℕ
bytes_in whole = whole.bytes.items

-- It is the record of one of the nodes, which has this digest. Its children have places below the limit.
pub record IsRecordAt (place_of : List ℕ → Option Place) (limit : ℕ) (nodes : List Kept) (key : List ℕ) (whole : Record) : Type 0 where
  pub kept : Kept
  pub is_in : Contains nodes kept
  pub has_digest : digest kept.bytes ≡ key
  pub children : HasChildren kept.bytes kept.children
  pub placed : AllByRecursion (IsPlaced place_of limit) kept.children
  pub bytes : bytes_in whole ≡ record_bytes place_of kept
  pub short : length kept.bytes < 2 ^ 32

-- the place is that of the node's child with this number
pub record IsPlaceOfChild (place_of : List ℕ → Option Place) (limit : ℕ) (kept : Kept) (number : ℕ) (found : Option Place) : Type 0 where
  pub place : Place
  pub is : found ≡ Some place
  pub at : place_of (slice_index_or kept.children number []) ≡ Some place
  pub near : place.at < limit
