use Rattle.ref_sets.proofs.shared.Adding.{adds_more}
use Rattle.ql_plain.specs.internal.Linked.{IsLinkToMember}
use Rattle.ql_plain.proofs.links.add_links_to_members.Goals as goal

pub loop-member-preserved : goal.loop-member-preserved
loop-member-preserved c =
    adds_more c.args.members.now (IsLinkToMember c.args.set.now c.args.parent) c.loop-member.member-index c.member-item.result c.loop-member-test.true c.member-item.is c.loop-member.invariant c.in_ok-add_link.ensures
