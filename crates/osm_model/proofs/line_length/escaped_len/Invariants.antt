use Rattle.std.proofs.Common.{◌≡◌, min}
use Rattle.std.specs.List.{sum_by}
use Rattle.osm_model.proofs.LineLengths.{escape_len}
use Rattle.osm_model.proofs.line_length.escaped_len.Given as goal

abbrev pub invariant-loop-c : goal.invariant-loop-c
invariant-loop-c l = l.len ≡ min (sum_by escape_len l.yielded) 18446744073709551615
