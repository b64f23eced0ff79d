use Rattle.std.proofs.Common.{sym, ap, ◌∙◌}
use Rattle.std.specs.List.{list_all}
use Rattle.osm_model.specs.CanonicalLine.{is_literal}
use Rattle.opl_codec.proofs.shared.AppendSteps.{appended}
use Rattle.opl_codec.proofs.WriteText.{escaped-literal}
use Rattle.opl_codec.proofs.write_text.append_text.Goals as goal

pub returns-then-are_literal-clause-ok : goal.returns-then-are_literal-clause-ok
returns-then-are_literal-clause-ok c =
    let literal = escaped-literal c.args.text.now (ap (list_all is_literal) (sym c.as_bytes.ensures) ∙ (sym c.are_literal.ensures ∙ c.if-are_literal.true)) in
    appended _ _ _ _ _ c.extend_from_slice.ensures.items (c.as_bytes-then-are_literal.ensures ∙ sym literal)
