use Rattle.std.proofs.Common.{◌≡◌, ◌≤◌, take}
use Rattle.std.specs.Str.Parse.{AllDigits, digits_value}
use Rattle.opl_codec.proofs.escape.read_hexadecimal.Given as goal

abbrev pub invariant-loop-place : goal.invariant-loop-place
invariant-loop-place l = record {
  few : l.place ≤ 8;
  digits : AllDigits 16 (take l.place l.text);
  value : digits_value 16 (take l.place l.text) ≡ l.code;
}
