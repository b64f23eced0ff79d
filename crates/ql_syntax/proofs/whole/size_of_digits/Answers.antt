use Rattle.std.proofs.Common.{arith, get_or, ◌≤◌, ◌^◌}
use Rattle.std.specs.Str.Parse.{digits_value}
use Rattle.osm_model.proofs.shared.Digits.{digit_is}
use Rattle.ql_syntax.proofs.WholeLemmas.{next_within, digit_here}
use Rattle.ql_syntax.proofs.whole.size_of_digits.Goals as goal

pub returns-in_err-checked_mul : goal.returns-in_err-checked_mul
returns-in_err-checked_mul c =
    let within = next_within c.loop-digit.size c.args.digits.now c.loop-digit.digit-index c.loop-digit-test.true c.loop-digit.invariant.same in
    let large : 2 ^ 64 ≤ digits_value 10 c.args.digits.now = omega (arith, within, c.in_err-checked_mul.ensures) in
    rw c.from_residual.ensures large

pub returns-in_err-size : goal.returns-in_err-size
returns-in_err-size c =
    let s = c.args.digits.now in
    let within = next_within c.loop-digit.size s c.loop-digit.digit-index c.loop-digit-test.true c.loop-digit.invariant.same in
    let digit = digit_is (get_or s c.loop-digit.digit-index 0) (digit_here s c.loop-digit.digit-index c.loop-digit-test.true c.loop-digit.invariant.left) in
    let large : 2 ^ 64 ≤ digits_value 10 c.args.digits.now = omega (arith, within, digit.1, c.in_err-size.ensures, c.in_ok-checked_mul.ensures, c.from.ensures) in
    rw c.from_residual-in_err-size.ensures large
