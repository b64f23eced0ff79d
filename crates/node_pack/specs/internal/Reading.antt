-- Records that were read.
-- Source: this project.
use Rattle.std.specs.List.{AllByRecursion, Contains}
use Rattle.std.specs.Int.{from_be_bytes, w32}
use Rattle.std.specs.Prelude.{◌≡◌, ◌≤◌, ◌+◌, ℕ, List, drop, length, take}
use Rattle.tree_node.specs.Digests.{digest}
use Rattle.node_pack.specs.Packs.{Kept, node_in}

-- What was read is the record of the pack's node with this digest, as far as was wanted; and where that node isn't too long, its
-- children are known.
pub record IsBrought (nodes : List Kept) (key : List ℕ) (at_most : ℕ) (bytes : List ℕ) (Knows : List ℕ → Type 0) : Type 0 where
  pub kept : Kept
  pub is_in : Contains nodes kept
  pub has_digest : digest kept.bytes ≡ key
  pub front : take (at_most + 1) (node_in bytes) ≡ take (at_most + 1) kept.bytes
  pub learned : length kept.bytes ≤ at_most → AllByRecursion Knows kept.children

-- the table of a record
abbrev pub table_in : List ℕ → List ℕ
table_in bytes = drop (from_be_bytes w32 (take 4 bytes)) (drop 4 bytes)
