use Rattle.std.proofs.Common.{◌≡◌, drop}
use Rattle.ql_syntax.specs.Gaps.{gap, InLine}
use Rattle.ql_syntax.proofs.gap.line_end.Given as goal

abbrev pub invariant-loop-i : goal.invariant-loop-i
invariant-loop-i l = gap InLine l.text ≡ gap InLine (drop l.i l.text)
