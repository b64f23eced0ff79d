use Rattle.std.proofs.Common.{◌≡◌, ◌≤◌, ◌-◌, ◌^◌, min, take, drop}
use Rattle.std.specs.Str.Parse.{AllDigits, digits_value, digits_value_after}
use Rattle.opl_codec.proofs.number.read_digits.Given as goal

abbrev pub invariant-loop-byte : goal.invariant-loop-byte
invariant-loop-byte l = record {
  small : l.value ≤ 2 ^ 64 - 1;
  front : AllDigits 10 (take l.byte-index l.digits);
  same : min (digits_value_after 10 l.value (drop l.byte-index l.digits)) (2 ^ 64 - 1) ≡ min (digits_value 10 l.digits) (2 ^ 64 - 1);
}
