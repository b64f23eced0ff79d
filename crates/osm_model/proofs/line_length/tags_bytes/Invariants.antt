use Rattle.std.proofs.Common.{◌≡◌, min, take}
use Rattle.std.specs.List.{sum_by}
use Rattle.osm_model.specs.internal.LineLength.{tag_bytes}
use Rattle.osm_model.proofs.line_length.tags_bytes.Given as goal

abbrev pub invariant-loop-tag : goal.invariant-loop-tag
invariant-loop-tag l = l.bytes ≡ min (sum_by tag_bytes (take l.tag-index l.tags)) 18446744073709551615
