use Rattle.std.proofs.Common.{◌≡◌, ◌++◌, [], ◌∷◌, rules, append_assoc}
use Rattle.osm_model.specs.CanonicalLine.{reference_text}
use Rattle.opl_codec.proofs.shared.AppendSteps.{refused_later}
use Rattle.opl_codec.proofs.write_body.append_member.Goals as goal

pub returns-clause-err : goal.returns-clause-err
returns-clause-err c =
    let front = reference_text c.args.member.now.target ++ 64 ∷ [] in
    let before : c.push.new.self.items ≡ c.args.out.now.items ++ front = search (rules, append_assoc) in
    refused_later _ _ c.push.new.self.items _ front before c.append_text.ensures.err
