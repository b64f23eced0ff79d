use Rattle.std.proofs.Common.{◌≡◌, ◌++◌, ◌∷◌, rules, append_assoc}
use Rattle.osm_model.specs.CanonicalLine.{tag_text}
use Rattle.osm_model.specs.Letters.{tags_letter}
use Rattle.opl_codec.proofs.shared.AppendSteps.{refused_later}
use Rattle.opl_codec.proofs.WriteLists.{list_written}
use Rattle.opl_codec.proofs.write_field.append_tags.Goals as goal

pub returns-clause-ok : goal.returns-clause-ok
returns-clause-ok c =
    let begun : c.append_tag.new.out.items ≡ c.args.out.now.items ++ (32 ∷ 84 ∷ tag_text c.in-Some.first.now) = search (rules, append_assoc) in
    list_written _ tags_letter tag_text _ _ c.in-Some.first.now _ _ _ c.in-Some.ensures.cases.0 begun c.append_other_tags.ensures.ok

pub returns-clause-err : goal.returns-clause-err
returns-clause-err c =
    let begun : c.append_tag.new.out.items ≡ c.args.out.now.items ++ (32 ∷ 84 ∷ tag_text c.in-Some.first.now) = search (rules, append_assoc) in
    refused_later _ _ c.append_tag.new.out.items _ _ begun c.append_other_tags.ensures.err
