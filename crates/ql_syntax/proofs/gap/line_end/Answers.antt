use Rattle.std.proofs.Common.{◌∙◌, sym, ap, List, ℕ}
use Rattle.ql_syntax.specs.Gaps.{gap, Between}
use Rattle.ql_syntax.proofs.GapLemmas.{line_feed_at, tail_is}
use Rattle.ql_syntax.proofs.gap.line_end.Goals as goal

pub returns-then-byte-eq10-clause-same : goal.returns-then-byte-eq10-clause-same
returns-then-byte-eq10-clause-same c =
    c.loop-i.invariant ∙ line_feed_at _ _ c.loop-i-test.true c.if-byte-eq10.true
    ∙ ap (λ (s : List ℕ). gap Between s) (sym (tail_is c.args.text.now c.loop-i.i))
