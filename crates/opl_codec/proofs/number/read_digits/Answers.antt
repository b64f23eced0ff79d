use Rattle.std.proofs.Common.{arith, ◌<◌, ◌-◌, ◌^◌, get_or, lit≤}
use Rattle.std.specs.Char.{digit_value}
use Rattle.std.proofs.lemmas.Int.Digits.{digits_more}
use Rattle.opl_codec.proofs.shared.ReadIds.{digits_all, cap_more}
use Rattle.osm_model.proofs.shared.Digits.{not_digit, digit_is}
use Rattle.opl_codec.proofs.number.read_digits.Goals as goal

pub returns-then-not-is_ascii_digit : goal.returns-then-not-is_ascii_digit
returns-then-not-is_ascii_digit c digits = not_digit _ c.if-not-is_ascii_digit.ensures.cases (digits_all _ _ c.loop-byte-test.true digits.1)

pub loop-byte-preserved : goal.loop-byte-preserved
loop-byte-preserved c =
    let small : digit_value (get_or c.args.digits.now c.loop-byte.byte-index 0) < 10 = c.if-not-is_ascii_digit.ensures.bound in
    let is = digit_is (get_or c.args.digits.now c.loop-byte.byte-index 0) small in
    record {
      small = omega (arith, c.saturating_add-value.ensures);
      front = digits_more 10 _ _ c.loop-byte-test.true c.loop-byte.invariant.front small;
      same = cap_more (2 ^ 64 - 1) _ c.loop-byte.value _ c.args.digits.now c.loop-byte.byte-index (lit≤ tt) c.loop-byte-test.true (omega (arith, is.1, c.saturating_mul.ensures, c.from.ensures, c.saturating_add-value.ensures)) c.loop-byte.invariant.same;
    }
