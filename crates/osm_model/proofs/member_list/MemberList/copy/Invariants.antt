use Rattle.std.proofs.Common.{◌≡◌, take}
use Rattle.osm_model.proofs.member_list.MemberList.copy.Given as goal

-- the members so far are copied
abbrev pub invariant-loop-member : goal.invariant-loop-member
invariant-loop-member l = l.members.items ≡ take l.member-index l.member-items
