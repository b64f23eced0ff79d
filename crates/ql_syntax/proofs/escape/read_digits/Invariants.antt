use Rattle.std.proofs.Common.{◌≡◌, take}
use Rattle.std.specs.Str.Parse.{AllDigits, digits_value}
use Rattle.ql_syntax.proofs.escape.read_digits.Given as goal

abbrev pub invariant-loop-i : goal.invariant-loop-i
invariant-loop-i l = record { digits : AllDigits 16 (take l.i l.text); value : l.value ≡ digits_value 16 (take l.i l.text) }
