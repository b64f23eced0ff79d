use Rattle.ql_syntax.specs.internal.Places.{IsMemoryOr}
use Rattle.ql_syntax.specs.QuotedTexts.{IsNotQuoted}
use Rattle.ql_syntax.specs.declared.syntax_error.SyntaxError.{SyntaxError}
use Rattle.ql_syntax.proofs.Exits.{handed_on}
use Rattle.ql_syntax.proofs.QuotedLemmas.{not_quoted, quoted_passes}
use Rattle.ql_syntax.proofs.quoted.read_quoted.Goals as goal

pub returns-in_err-next-clause-refused : goal.returns-in_err-next-clause-refused
returns-in_err-next-clause-refused c =
    handed_on (λ (stop : SyntaxError). IsMemoryOr (IsNotQuoted c.args.text.now) stop) c.from_residual.result c.in_err-next.field-0.0 c.from_residual.ensures.1
    (not_quoted c.args.text.now c.loop-content.place.now c.loop-content.content.items c.in_err-next.field-0.0 c.requires c.loop-content.invariant c.in_err-next.ensures.refused)

pub loop-content-preserved : goal.loop-content-preserved
loop-content-preserved c =
    let step = rw c.in-Some-2.is at c.in_ok-next.ensures.read in
    quoted_passes _ _ c.loop-content.place.now c.in-Some-2.next.now c.loop-content.content.items c.take_pieces.new.content.items c.loop-content.invariant step
