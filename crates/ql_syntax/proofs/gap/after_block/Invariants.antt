use Rattle.std.proofs.Common.{◌≡◌, drop, ◌-◌, List, ℕ}
use Rattle.ql_syntax.specs.Gaps.{gap, InBlock}
use Rattle.ql_syntax.proofs.gap.after_block.Given as goal

abbrev pub invariant-loop-i : goal.invariant-loop-i
invariant-loop-i l = (comment : List ℕ) → gap (InBlock comment) l.text ≡ gap (InBlock comment) (drop (l.i - 1) l.text)
