use Rattle.std.proofs.Common.{arith, ℕ, List, ◌∷◌, sym, subst}
use Rattle.std.specs.Prelude.{encode_utf8}
use Rattle.ql_syntax.specs.internal.EscapeParts.{IsEscape}
use Rattle.ql_syntax.proofs.EscapeLemmas.{bad_digit, bad_code, code_escape}
use Rattle.ql_syntax.proofs.GapLemmas.{tail_is}
use Rattle.ql_syntax.proofs.escape.split_code.Goals.{in_default-via-in-Some+else-number-gt0, in_default-via-in_default}
use Rattle.ql_syntax.proofs.escape.split_code.Goals as goal

pub returns-else-number-text : goal.returns-else-number-text
returns-else-number-text c =
    let e = c.read_digits-number.ensures in
    bad_digit c.args.text.now c.read_digits-number.result.len c.if-number-lt4.true (omega arith) e.digits (e.stop c.if-number-lt4.true (omega arith))

pub returns-in-Some : goal.returns-in-Some
returns-in-Some c =
    let e = c.read_digits-number.ensures in
    let is = c.in-Some.ensures.value in
    subst (λ (rest : List ℕ). IsEscape (117 ∷ c.args.text.now) (encode_utf8 c.in-Some.character) rest) (sym (tail_is c.args.text.now 4))
    (code_escape c.args.text.now c.read_digits-number.result.len c.read_digits-number.result.value c.in-Some.character c.if-number-lt4.false e.four e.within e.digits e.value is.0 is.1 c.if-number-gt0.true)

pub returns-in_default : goal.returns-in_default
returns-in_default c =
    let e = c.read_digits-number.ensures in
    bad_code c.args.text.now c.read_digits-number.result.len c.read_digits-number.result.value c.if-number-lt4.false e.four e.within e.digits e.value
    (elim c.in_default.branch [
      | in_default-via-in-Some+else-number-gt0 w ↦ λ some scalar. omega (arith, w.if-number-gt0.false)
      | in_default-via-in_default w ↦ λ some scalar. w.in_default.ensures.value scalar
    ])
