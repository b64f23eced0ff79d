use Rattle.std.proofs.Common.{◌≡◌, ◌++◌, [], ◌∷◌, rules, append_assoc}
use Rattle.osm_model.specs.CanonicalLine.{escaped}
use Rattle.opl_codec.proofs.shared.AppendSteps.{refused_later}
use Rattle.opl_codec.proofs.write_field.append_tag.Goals as goal

pub returns-clause-err : goal.returns-clause-err
returns-clause-err c =
    let key = escaped c.args.tag.now.key ++ 61 ∷ [] in
    let before : c.push.new.self.items ≡ c.args.out.now.items ++ key = search (rules, append_assoc) in
    refused_later _ _ c.push.new.self.items _ key before c.append_text-2.ensures.err
