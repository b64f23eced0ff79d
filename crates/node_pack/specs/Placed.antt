-- Nodes whose records stand at places of a file.
-- Source: this project.
use Rattle.std.specs.List.{AllByRecursion, Contains}
use Rattle.std.specs.Prelude.{◌≡◌, ◌<◌, ◌≤◌, ◌+◌, ◌^◌, ℕ, List, Option, Some, length}
use Rattle.tree_node.specs.Digests.{digest}
use Rattle.node_pack.specs.Known.{IsPlaced}
use Rattle.node_pack.specs.Packs.{HasChildren, Kept, record_bytes, record_len}
use Rattle.node_pack.specs.Places.{at_place}
use Rattle.node_pack.specs.declared.place.Place.{Place}

-- At this place of the bytes stands the record of one of the nodes, which has this digest. Its children have places below the limit.
pub record HasNodeAt (bytes : List ℕ) (limit : ℕ) (place_of : List ℕ → Option Place) (nodes : List Kept) (key : List ℕ) (place : Place) : Type 0 where
  pub kept : Kept
  pub is_in : Contains nodes kept
  pub has_digest : digest kept.bytes ≡ key
  pub children : HasChildren kept.bytes kept.children
  pub placed : AllByRecursion (IsPlaced place_of limit) kept.children
  pub short : record_len kept < 2 ^ 32
  pub stands : at_place place bytes ≡ record_bytes place_of kept
  pub len : place.len ≡ record_len kept
  pub within : place.at + place.len ≤ length bytes

-- so at each place that a digest has
abbrev pub HasNodesAt : List ℕ → ℕ → (List ℕ → Option Place) → List Kept → Type 0
HasNodesAt bytes limit place_of nodes = (key : List ℕ) (place : Place) → place_of key ≡ Some place → HasNodeAt bytes limit place_of nodes key place
