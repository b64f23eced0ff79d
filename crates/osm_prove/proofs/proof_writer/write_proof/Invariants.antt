use Rattle.std.proofs.Common.{◌≡◌, ◌++◌, length, take}
use Rattle.std.specs.Int.{to_be_bytes, w32}
use Rattle.std.specs.List.{flat_map}
use Rattle.osm_prove.specs.Proofs.{front, with_length, nodes_of}
use Rattle.osm_prove.proofs.proof_writer.write_proof.Given as goal

-- the head and the nodes so far
abbrev pub invariant-loop-part : goal.invariant-loop-part
invariant-loop-part l = l.proof.items ≡ front ++ (to_be_bytes w32 (length l.parts) ++ flat_map with_length (nodes_of (take l.part-index l.parts)))
