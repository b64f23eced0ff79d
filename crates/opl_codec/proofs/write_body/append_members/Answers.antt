use Rattle.std.proofs.Common.{◌≡◌, ◌++◌, ◌∷◌, rules, append_assoc}
use Rattle.osm_model.specs.CanonicalLine.{member_text}
use Rattle.osm_model.specs.Letters.{members_letter}
use Rattle.opl_codec.proofs.shared.AppendSteps.{refused_later}
use Rattle.opl_codec.proofs.WriteLists.{list_written}
use Rattle.opl_codec.proofs.write_body.append_members.Goals as goal

pub returns-clause-ok : goal.returns-clause-ok
returns-clause-ok c =
    let begun : c.append_member.new.out.items ≡ c.args.out.now.items ++ (32 ∷ 77 ∷ member_text c.in-Some.first.now) = search (rules, append_assoc) in
    list_written _ members_letter member_text _ _ c.in-Some.first.now _ _ _ c.in-Some.ensures.cases.0 begun c.append_other_members.ensures.ok

pub returns-clause-err : goal.returns-clause-err
returns-clause-err c =
    let begun : c.append_member.new.out.items ≡ c.args.out.now.items ++ (32 ∷ 77 ∷ member_text c.in-Some.first.now) = search (rules, append_assoc) in
    refused_later _ _ c.append_member.new.out.items _ _ begun c.append_other_members.ensures.err
