use Rattle.std.proofs.Common.{map, take}
use Rattle.light_index.specs.internal.LightListing.{Gains, member_back}
use Rattle.light_index.proofs.light_listing.append_member_backs.Given as goal

abbrev pub invariant-loop-member : goal.invariant-loop-member
invariant-loop-member l = Gains l.fn.bytes.items l.bytes.items l.fn.spans.items l.spans.items (map (member_back l.fn.name l.fn.line.0) (take l.member-index l.members))
