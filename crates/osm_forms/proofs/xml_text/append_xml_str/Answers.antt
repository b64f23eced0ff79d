use Rattle.std.proofs.Common.{sym, ap, ◌∙◌}
use Rattle.std.specs.List.{list_all}
use Rattle.osm_forms.specs.internal.PlainBytes.{is_plain_byte}
use Rattle.osm_forms.proofs.PlainTexts.{xml_text-plain}
use Rattle.opl_codec.proofs.shared.AppendSteps.{appended}
use Rattle.osm_forms.proofs.xml_text.append_xml_str.Goals as goal

pub returns-then-are_plain-clause-ok : goal.returns-then-are_plain-clause-ok
returns-then-are_plain-clause-ok c =
    let plain = xml_text-plain c.args.text.now c.utf8.text (ap (list_all is_plain_byte) (sym c.as_bytes.ensures.value) ∙ (sym c.are_plain.ensures ∙ c.if-are_plain.true)) in
    appended _ _ _ _ _ c.extend_from_slice.ensures.items (c.as_bytes-then-are_plain.ensures.value ∙ sym plain)
