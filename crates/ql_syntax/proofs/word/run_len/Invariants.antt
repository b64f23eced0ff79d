use Rattle.std.proofs.Common.{◌≡◌, true, take}
use Rattle.std.specs.List.{list_all}
use Rattle.ql_syntax.specs.Words.{is_run_byte}
use Rattle.ql_syntax.proofs.word.run_len.Given as goal

abbrev pub invariant-loop-i : goal.invariant-loop-i
invariant-loop-i l = list_all is_run_byte (take l.i l.text) ≡ true
