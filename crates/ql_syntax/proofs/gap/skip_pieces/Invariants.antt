use Rattle.std.proofs.Common.{◌≡◌, ◌≤◌, length}
use Rattle.ql_syntax.specs.Gaps.{gap, Between}
use Rattle.ql_syntax.proofs.gap.skip_pieces.Given as goal

abbrev pub invariant-loop-after : goal.invariant-loop-after
invariant-loop-after l = record { same : gap Between l.text ≡ gap Between l.rest; within : length l.rest ≤ length l.text }

abbrev pub decreases-loop-after : goal.decreases-loop-after
decreases-loop-after l = length l.rest
