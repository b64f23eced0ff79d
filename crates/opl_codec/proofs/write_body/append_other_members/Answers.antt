use Rattle.std.proofs.Common.{◌≡◌, ◌++◌, ◌∷◌, rules, subst}
use Rattle.osm_model.specs.Bytes.{comma}
use Rattle.osm_model.specs.CanonicalLine.{member_text}
use Rattle.opl_codec.proofs.shared.AppendSteps.{front_kept}
use Rattle.opl_codec.proofs.WriteLists.{written_more}
use Rattle.opl_codec.proofs.write_body.append_other_members.Goals as goal

pub loop-member-preserved : goal.loop-member-preserved
loop-member-preserved c =
    let put = subst (λ member. c.append_other_member.new.out.items ≡ c.loop-member.out.items ++ comma ∷ member_text member) c.member-item.is c.in_ok-append_other_member.ensures.ok in
    written_more member_text c.args.members.now c.loop-member.member-index c.member-item.result _ _ _ c.loop-member-test.true c.loop-member.invariant put

pub returns-in_err-append_other_member-clause-err : goal.returns-in_err-append_other_member-clause-err
returns-in_err-append_other_member-clause-err c =
    search (rules, front_kept c.args.out.now.items c.loop-member.out.items c.append_other_member.new.out.items _ c.loop-member.invariant c.in_err-append_other_member.ensures.err)
