use Rattle.std.proofs.Common.{take}
use Rattle.std.specs.HashMap.{get}
use Rattle.std.specs.Io.KnownBytes.{Appends}
use Rattle.std.specs.List.{flat_map}
use Rattle.std.specs.Prelude.{unwrap_or}
use Rattle.tree_node.specs.Keys.{digest_eq}
use Rattle.tree_node.specs.declared.digest.Digest.{Digest}
use Rattle.node_pack.specs.Packs.{no_place}
use Rattle.node_pack.specs.Places.{place_bytes}
use Rattle.node_pack.proofs.records.write_table.Given as goal

-- the places so far
abbrev pub invariant-loop-child : goal.invariant-loop-child
invariant-loop-child g l =
    Appends (g.W.Write.contents l.initial.writer) (g.W.Write.contents l.writer) (flat_map (λ (child : Digest). place_bytes (unwrap_or (get digest_eq l.places child) no_place)) (take l.child-index l.children))
