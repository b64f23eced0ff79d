use Rattle.std.proofs.Common.{◌≡◌, min, take}
use Rattle.std.specs.List.{sum_by}
use Rattle.osm_model.specs.internal.LineLength.{member_len}
use Rattle.osm_model.proofs.line_length.members_len.Given as goal

abbrev pub invariant-loop-member : goal.invariant-loop-member
invariant-loop-member l = l.len ≡ min (sum_by member_len (take l.member-index l.members)) 18446744073709551615
