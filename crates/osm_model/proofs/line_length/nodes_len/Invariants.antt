use Rattle.std.proofs.Common.{◌≡◌, min, take}
use Rattle.std.specs.List.{sum_by}
use Rattle.osm_model.specs.internal.LineLength.{node_len}
use Rattle.osm_model.proofs.line_length.nodes_len.Given as goal

abbrev pub invariant-loop-id : goal.invariant-loop-id
invariant-loop-id l = l.len ≡ min (sum_by node_len (take l.id-index l.nodes)) 18446744073709551615
