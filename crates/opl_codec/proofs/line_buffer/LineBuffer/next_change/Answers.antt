use Rattle.std.proofs.Common.{◌∙◌, ap, refl}
use Rattle.std.proofs.lemmas.Result.{err_from_is_err_and}
use Rattle.opl_codec.specs.declared.line_buffer.LineBuffer.{LineBuffer}
use Rattle.opl_codec.proofs.NextLemmas.{ends_next, not_end, not_end_refused, says_next, skip_more, stops_next}
use Rattle.opl_codec.proofs.line_buffer.LineBuffer.next_change.Goals as goal

pub loop-change-preserved : goal.loop-change-preserved
loop-change-preserved g c =
    let i = c.loop-change.invariant in
    let step = rw (c.in-Line-None.is, c.in-Line-None.field-0-is) at c.in_ok-take_line.ensures.step in
    let was = c.in_ok-take_line.was in
    let is = c.in-Line-None.is in
    record {
      goes_on = c.in_ok-take_line.ensures.goes_on;
      come = skip_more _ _ _ _ _ i.come (λ over. not_end c.take_line.result c.in_ok-take_line.field-0 _ was is (c.take_line.ensures.ended over).0) step;
      over = λ ended. absurd (not_end c.take_line.result c.in_ok-take_line.field-0 _ was is (c.take_line.ensures.ended (ap (λ (b : LineBuffer). b.is_ended) (i.over ended).0 ∙ ended)).0);
    }

pub returns-in-Line-Some-clause-next : goal.returns-in-Line-Some-clause-next
returns-in-Line-Some-clause-next g c =
    let i = c.loop-change.invariant in
    let step = rw (c.in-Line-Some.is, c.in-Line-Some.field-0-is) at c.in_ok-take_line.ensures.step in
    let was = c.in_ok-take_line.was in
    let is = c.in-Line-Some.is in
    says_next _ _ _ _ _ _ i.come (λ over. not_end c.take_line.result c.in_ok-take_line.field-0 _ was is (c.take_line.ensures.ended over).0) step

pub returns-in_err-take_line-clause-next : goal.returns-in_err-take_line-clause-next
returns-in_err-take_line-clause-next g c =
    let i = c.loop-change.invariant in
    let was = c.in_err-take_line.was in
    let p = err_from_is_err_and c.from_residual.result c.from_residual.ensures.1 in
    rw (p.1, p.2) (stops_next _ _ _ _ i.come (λ over. not_end_refused _ _ was (c.take_line.ensures.ended over).0) c.in_err-take_line.ensures.step)

pub returns-in-Line-Some-clause-over : goal.returns-in-Line-Some-clause-over
returns-in-Line-Some-clause-over g c =
    let i = c.loop-change.invariant in
    let was = c.in_ok-take_line.was in
    let is = c.in-Line-Some.is in
    λ ended. absurd (not_end c.take_line.result c.in_ok-take_line.field-0 _ was is (c.take_line.ensures.ended (ap (λ (b : LineBuffer). b.is_ended) (i.over ended).0 ∙ ended)).0)

pub returns-in_err-take_line-clause-over : goal.returns-in_err-take_line-clause-over
returns-in_err-take_line-clause-over g c =
    let i = c.loop-change.invariant in
    let was = c.in_err-take_line.was in
    λ ended. absurd (not_end_refused _ _ was (c.take_line.ensures.ended (ap (λ (b : LineBuffer). b.is_ended) (i.over ended).0 ∙ ended)).0)

pub returns-in-End-clause-over : goal.returns-in-End-clause-over
returns-in-End-clause-over g c =
    let i = c.loop-change.invariant in
    λ ended. let same = c.take_line.ensures.ended (ap (λ (b : LineBuffer). b.is_ended) (i.over ended).0 ∙ ended) in (refl, same.1 ∙ (i.over ended).0, same.2 ∙ (i.over ended).1)

pub returns-in-End-clause-next : goal.returns-in-End-clause-next
returns-in-End-clause-next g c =
    let step = rw c.in-End.is at c.in_ok-take_line.ensures.step in
    ends_next _ _ _ c.loop-change.invariant.come step.0 step.1
