use Rattle.std.proofs.Common.{◌≡◌, min, take}
use Rattle.std.specs.List.{sum_by}
use Rattle.osm_model.specs.internal.LineLength.{tag_len}
use Rattle.osm_model.proofs.line_length.tags_len.Given as goal

abbrev pub invariant-loop-tag : goal.invariant-loop-tag
invariant-loop-tag l = l.len ≡ min (sum_by tag_len (take l.tag-index l.tags)) 18446744073709551615
