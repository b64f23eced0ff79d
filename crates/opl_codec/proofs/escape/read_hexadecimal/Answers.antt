use Rattle.std.proofs.Common.{arith, refl, get_or, length, take, ◌≡◌, ◌<◌, ◌+◌, ◌∙◌, ap, subst}
use Rattle.std.specs.Char.{digit_value}
use Rattle.std.specs.Str.Parse.{AllDigits, digits_value}
use Rattle.std.proofs.lemmas.Int.Digits.{digits_more, digits_value_more}
use Rattle.opl_codec.proofs.Hexadecimal.{below}
use Rattle.opl_codec.proofs.escape.read_hexadecimal.Goals as goal

pub loop-place-init : goal.loop-place-init
loop-place-init c = record { few = omega arith; digits = tt; value = refl }

pub returns-in_default : goal.returns-in_default
returns-in_default c =
    let no : digit_value (get_or c.args.text.now c.loop-place.place 0) < 16 → ⊥ = rw c.from.ensures at c.in_default.ensures.value in (
      record {
        within = omega arith;
        digits = c.loop-place.invariant.digits;
        ends = λ _. omega (arith, no);
      },
      c.loop-place.invariant.few,
      c.loop-place.invariant.value,
    )

pub returns-then-place-eq-MOST_DIGITS : goal.returns-then-place-eq-MOST_DIGITS
returns-then-place-eq-MOST_DIGITS c =
    let eight : c.loop-place.place ≡ 8 = c.if-place-eq-MOST_DIGITS.true in
    let digit : digit_value (get_or c.args.text.now c.loop-place.place 0) < 16 = rw (c.from.ensures) at c.in-Some.ensures.value.0 in
    let more = digits_more 16 c.args.text.now c.loop-place.place c.loop-place-test.true c.loop-place.invariant.digits digit in
    (omega (arith, eight), subst (λ n. AllDigits 16 (take (n + 1) c.args.text.now)) eight more)

pub overflow_mul-code : goal.overflow_mul-code
overflow_mul-code c =
    let less = below c.args.text.now c.loop-place.place 7 (omega arith) (omega arith) c.loop-place.invariant.digits in
    let value = c.loop-place.invariant.value in
    omega (arith, less, value)

pub overflow_add-code : goal.overflow_add-code
overflow_add-code c =
    let less = below c.args.text.now c.loop-place.place 7 (omega arith) (omega arith) c.loop-place.invariant.digits in
    let value = c.loop-place.invariant.value in
    omega (arith, less, value, c.in-Some.ensures.value)

pub loop-place-preserved : goal.loop-place-preserved
loop-place-preserved c =
    let digit : digit_value (get_or c.args.text.now c.loop-place.place 0) < 16 = rw (c.from.ensures) at c.in-Some.ensures.value.0 in
    let is : c.in-Some.digit ≡ digit_value (get_or c.args.text.now c.loop-place.place 0) = c.in-Some.ensures.value.1 ∙ ap digit_value c.from.ensures in
    let value = digits_value_more 16 c.args.text.now c.loop-place.place c.loop-place-test.true in
    let before = c.loop-place.invariant.value in
    record {
      few = omega arith;
      digits = digits_more 16 _ _ c.loop-place-test.true c.loop-place.invariant.digits digit;
      value = omega (arith, value, before, is);
    }

pub returns : goal.returns
returns c =
    let place : c.loop-place.place ≡ length c.args.text.now = omega arith in (
      record {
        within = omega arith;
        digits = subst (λ n. AllDigits 16 (take n c.args.text.now)) place c.loop-place.invariant.digits;
        ends = λ lt. omega (arith, lt);
      },
      omega arith,
      subst (λ n. digits_value 16 (take n c.args.text.now) ≡ c.loop-place.code) place c.loop-place.invariant.value,
    )
