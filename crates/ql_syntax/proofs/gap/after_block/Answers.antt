use Rattle.std.proofs.Common.{◌∙◌, sym, ap, List, ℕ, arith, length-drop, drop, ◌≡◌, ◌+◌, ◌-◌}
use Rattle.ql_syntax.specs.Gaps.{gap, Between, InBlock}
use Rattle.ql_syntax.proofs.GapLemmas.{block_step, block_closes, block_open, tail_is}
use Rattle.ql_syntax.proofs.gap.after_block.Goals.{else-text-i-eq42-via-then-text-i-eq42+else-text-i-eq47, else-text-i-eq42-via-else-text-i-eq42}
use Rattle.ql_syntax.proofs.gap.after_block.Goals as goal

pub returns-then-text-i-eq47 : goal.returns-then-text-i-eq47
returns-then-text-i-eq47 c =
    let s = c.args.text.now in
    let tail = tail_is s (c.loop-i.i + 1) in (
      (λ comment. c.loop-i.invariant comment
          ∙ block_closes comment s c.loop-i.i c.loop-i.auto.i c.loop-i-test.true c.if-text-i-eq42.true c.if-text-i-eq47.true
          ∙ ap (λ (t : List ℕ). gap Between t) (sym tail)),
      rw tail (omega (arith, length-drop (c.loop-i.i + 1) s)),
    )

pub loop-i-preserved : goal.loop-i-preserved
loop-i-preserved c comment =
    let s = c.args.text.now in
    let back : c.loop-i.i + 1 - 1 ≡ c.loop-i.i = omega arith in
    c.loop-i.invariant comment
    ∙ elim c.else-text-i-eq42.branch [
      | else-text-i-eq42-via-then-text-i-eq42+else-text-i-eq47 w ↦ block_step comment s c.loop-i.i c.loop-i.auto.i c.loop-i-test.true (λ first second. w.if-text-i-eq47.false second)
      | else-text-i-eq42-via-else-text-i-eq42 w ↦ block_step comment s c.loop-i.i c.loop-i.auto.i c.loop-i-test.true (λ first second. w.if-text-i-eq42.false first)
    ]
    ∙ ap (λ (n : ℕ). gap (InBlock comment) (drop n s)) (sym back)

pub returns : goal.returns
returns c = λ comment. c.loop-i.invariant comment ∙ block_open comment c.args.text.now c.loop-i.i c.loop-i-test.false
