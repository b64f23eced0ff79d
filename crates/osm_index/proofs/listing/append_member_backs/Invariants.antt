use Rattle.std.proofs.Common.{map, take}
use Rattle.osm_index.specs.internal.Listing.{Gains, member_back}
use Rattle.osm_index.proofs.listing.append_member_backs.Given as goal

abbrev pub invariant-loop-member : goal.invariant-loop-member
invariant-loop-member l = Gains l.fn.bytes.items l.bytes.items l.fn.spans.items l.spans.items (map (member_back l.fn.name) (take l.member-index l.members))
