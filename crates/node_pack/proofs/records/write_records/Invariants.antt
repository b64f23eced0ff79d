use Rattle.std.proofs.Common.{take}
use Rattle.std.specs.Io.KnownBytes.{Appends}
use Rattle.std.specs.List.{flat_map}
use Rattle.node_pack.specs.Packs.{record_bytes}
use Rattle.node_pack.specs.declared.gathered.Gathered.{Gathered}
use Rattle.node_pack.specs.internal.Gathering.{kept_of, place_by}
use Rattle.node_pack.proofs.records.write_records.Given as goal

-- the records so far
abbrev pub invariant-loop-node : goal.invariant-loop-node
invariant-loop-node g l =
    Appends (g.W.Write.contents l.initial.writer) (g.W.Write.contents l.writer) (flat_map (λ (node : Gathered). record_bytes (place_by l.places) (kept_of node)) (take l.node-index l.nodes))
