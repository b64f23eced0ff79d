use Rattle.std.proofs.Common.{◌≡◌, ◌<◌, ◌^◌, drop}
use Rattle.std.specs.Str.Parse.{AllDigits, digits_value, digits_value_after}
use Rattle.ql_syntax.proofs.whole.size_of_digits.Given as goal

abbrev pub invariant-loop-digit : goal.invariant-loop-digit
invariant-loop-digit l = record {
  small : l.size < 2 ^ 64;
  left : AllDigits 10 (drop l.digit-index l.digits);
  same : digits_value_after 10 l.size (drop l.digit-index l.digits) ≡ digits_value 10 l.digits;
}
