use Rattle.std.proofs.Common.{take}
use Rattle.ref_sets.specs.Adding.{Adds, From}
use Rattle.ql_plain.specs.internal.Linked.{IsLinkToMember}
use Rattle.ql_plain.proofs.links.add_links_to_members.Given as goal

abbrev pub invariant-loop-member : goal.invariant-loop-member
invariant-loop-member l = Adds l.fn.links.items l.links.items (From (take l.member-index l.members) (IsLinkToMember l.set l.parent))
