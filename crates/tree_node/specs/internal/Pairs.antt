-- A part as what a recorder's map holds.
use Rattle.std.specs.Prelude.{ℕ, List, map}
use Rattle.std.specs.Borrow.{Bor}
use Rattle.std.specs.List.{IsDistinct}
use Rattle.tree_node.specs.Keys.{digest_eq, key_of}
use Rattle.tree_node.specs.Parts.{node_of}
use Rattle.tree_node.specs.declared.digest.Digest.{Digest}
use Rattle.tree_node.specs.declared.recorded_node.RecordedNode.{RecordedNode}
use Rattle.tree_node.specs.declared.part.Part.{Part}

-- a part as an entry of a map by digest
abbrev pub pair_of : Part → Digest × Bor (List ℕ)
pair_of part = (part.digest, part.bytes)

-- an entry of a recorder's map, without what was read of it
abbrev pub lent_of : Digest × RecordedNode → Digest × Bor (List ℕ)
lent_of entry = (entry.0, entry.1.bytes)

-- the key of a part's node
abbrev pub part_key : Part → Digest
part_key part = key_of (node_of part)

-- no two of the parts have one digest
abbrev pub HaveDistinctDigests : List Part → Type 0
HaveDistinctDigests parts = IsDistinct digest_eq (map part_key parts)
