use Rattle.std.proofs.Common.{arith, ◌≡◌, ◌≢◌, take, [], ap, subst, ◌∙◌}
use Rattle.std.specs.Char.{IsScalar}
use Rattle.std.proofs.lemmas.Bool.Decides.{nat_tests}
use Rattle.std.proofs.lemmas.Grind.{common_steps}
use Rattle.opl_codec.proofs.Hexadecimal.{escape_front, nine_begin_none}
use Rattle.opl_codec.proofs.escape.read_escape.Goals as goal
use Rattle.opl_codec.proofs.escape.read_escape.Goals.{then-digits-eq0-via-then-digits-eq0, then-digits-eq0-via-else-digits-eq0+then-code-eq0, then-digits-eq0-via-else-digits-eq0+else-code-eq0+then-ne}

pub returns-in_err-code : goal.returns-in_err-code
returns-in_err-code c =
    rw c.from_residual.ensures (nine_begin_none c.args.text.now c.in_err-code.ensures.0 c.in_err-code.ensures.1)

pub returns-then-digits-eq0 : goal.returns-then-digits-eq0
returns-then-digits-eq0 c begins =
    let known = escape_front c.args.text.now c.in_ok-code.digits c.in_ok-code.ensures.0 begins in
    elim c.then-digits-eq0.branch [
      | then-digits-eq0-via-then-digits-eq0 w ↦
          (let some : take c.in_ok-code.digits c.args.text.now ≢ [] = known.escape.some in
          let none : take c.in_ok-code.digits c.args.text.now ≡ [] = ap (λ n. take n c.args.text.now) w.if-digits-eq0.true in
          some none)
      | then-digits-eq0-via-else-digits-eq0+then-code-eq0 w ↦ known.escape.not_nul (c.in_ok-code.ensures.2 ∙ w.if-code-eq0.true)
      | then-digits-eq0-via-else-digits-eq0+else-code-eq0+then-ne w ↦ (let within = known.within in
          let mark = known.mark in
          grind (arith, nat_tests, common_steps, within, mark))
    ]

pub returns-in_err-character : goal.returns-in_err-character
returns-in_err-character c =
    rw c.from_residual-in_err-character.ensures (λ begins.
    let known = escape_front c.args.text.now c.in_ok-code.digits c.in_ok-code.ensures.0 begins in
    c.in_err-character.ensures.value (subst IsScalar c.in_ok-code.ensures.2 known.escape.character))
