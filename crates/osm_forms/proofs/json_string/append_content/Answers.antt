use Rattle.std.proofs.Common.{sym, ◌∙◌}
use Rattle.osm_forms.proofs.PlainTexts.{escape-plain}
use Rattle.opl_codec.proofs.shared.AppendSteps.{appended}
use Rattle.osm_forms.proofs.json_string.append_content.Goals as goal

pub returns-then-are_plain-clause-ok : goal.returns-then-are_plain-clause-ok
returns-then-are_plain-clause-ok c =
    appended _ _ _ _ _ c.extend_from_slice.ensures.items (sym (escape-plain c.args.text.now (sym c.are_plain.ensures ∙ c.if-are_plain.true)))
