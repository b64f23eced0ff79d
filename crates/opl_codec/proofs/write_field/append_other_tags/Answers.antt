use Rattle.std.proofs.Common.{◌≡◌, ◌++◌, ◌∷◌, rules, subst}
use Rattle.osm_model.specs.Bytes.{comma}
use Rattle.osm_model.specs.CanonicalLine.{tag_text}
use Rattle.opl_codec.proofs.shared.AppendSteps.{front_kept}
use Rattle.opl_codec.proofs.WriteLists.{written_more}
use Rattle.opl_codec.proofs.write_field.append_other_tags.Goals as goal

pub loop-tag-preserved : goal.loop-tag-preserved
loop-tag-preserved c =
    let put = subst (λ tag. c.append_other_tag.new.out.items ≡ c.loop-tag.out.items ++ comma ∷ tag_text tag) c.tag-item.is c.in_ok-append_other_tag.ensures.ok in
    written_more tag_text c.args.tags.now c.loop-tag.tag-index c.tag-item.result _ _ _ c.loop-tag-test.true c.loop-tag.invariant put

pub returns-in_err-append_other_tag-clause-err : goal.returns-in_err-append_other_tag-clause-err
returns-in_err-append_other_tag-clause-err c =
    search (rules, front_kept c.args.out.now.items c.loop-tag.out.items c.append_other_tag.new.out.items _ c.loop-tag.invariant c.in_err-append_other_tag.ensures.err)
