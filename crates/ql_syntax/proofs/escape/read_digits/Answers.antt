use Rattle.std.proofs.Common.{arith, ◌≡◌, ◌<◌, ◌∙◌, sym, get_or, subst, ap, ℕ}
use Rattle.std.specs.Char.{digit_value}
use Rattle.std.proofs.lemmas.Int.Digits.{digits_more, digits_value_more}
use Rattle.ql_syntax.proofs.EscapeLemmas.{few_digits}
use Rattle.ql_syntax.proofs.escape.read_digits.Goals as goal

pub overflow_mul-value : goal.overflow_mul-value
overflow_mul-value c =
    let small = few_digits c.args.text.now c.loop-i.i c.loop-i.value (omega arith) (omega arith) c.loop-i.invariant.digits c.loop-i.invariant.value in
    omega arith

pub overflow_add-value : goal.overflow_add-value
overflow_add-value c =
    let small = few_digits c.args.text.now c.loop-i.i c.loop-i.value (omega arith) (omega arith) c.loop-i.invariant.digits c.loop-i.invariant.value in
    omega (arith, c.in-Some.ensures.value)

pub loop-i-preserved : goal.loop-i-preserved
loop-i-preserved c =
    let s = c.args.text.now in
    let here : digit_value (get_or s c.loop-i.i 0) ≡ c.in-Some.digit = sym (c.in-Some.ensures.value.1 ∙ ap (λ (b : ℕ). digit_value b) c.from.ensures) in
    let digit : digit_value (get_or s c.loop-i.i 0) < 16 = subst (λ (b : ℕ). digit_value b < 16) c.from.ensures c.in-Some.ensures.value.0 in
    record {
      digits = digits_more 16 s c.loop-i.i (omega arith) c.loop-i.invariant.digits digit;
      value = omega (arith, digits_value_more 16 s c.loop-i.i (omega arith), c.loop-i.invariant.value, here);
    }
