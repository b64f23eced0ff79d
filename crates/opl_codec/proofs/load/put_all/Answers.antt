use Rattle.std.proofs.lemmas.Result.{err_from_is_err_and}
use Rattle.opl_codec.proofs.ReadFiles.{next_refused, not_over, not_refused, put_refused, reads_put, set_reads_all}
use Rattle.opl_codec.proofs.load.put_all.Goals as goal

pub returns-in_err-line-clause-refused : goal.returns-in_err-line-clause-refused
returns-in_err-line-clause-refused g c =
    let i = c.loop-line.invariant in
    let was = c.in_err-line.was in
    let p = err_from_is_err_and c.from_residual.result c.from_residual.ensures.1 in
    rw (p.1, p.2) (next_refused _ _ c.next_change.new.self _ _ _ i.come (λ over. not_refused _ _ was (c.next_change.ensures.over over).0) c.in_err-line.ensures.next c.in_err-line.ensures.told)

pub loop-line-preserved : goal.loop-line-preserved
loop-line-preserved g c =
    let i = c.loop-line.invariant in
    let was = c.in_ok-line.was in
    let is = c.in-Some.is in
    let says = rw is at c.in_ok-line.ensures.next in
    record {
      goes_on = c.in_ok-line.ensures.goes_on;
      come = reads_put _ _ _ _ c.in-Some.change _ _ i.come (λ over. not_over _ _ _ was is (c.next_change.ensures.over over).0) says c.in_ok-put.ensures.put c.in_ok-put.ensures.known.apart;
      known = c.in_ok-put.ensures.known;
    }

pub returns-in_err-put-clause-refused : goal.returns-in_err-put-clause-refused
returns-in_err-put-clause-refused g c =
    let i = c.loop-line.invariant in
    let was = c.in_ok-line.was in
    let is = c.in-Some.is in
    let says = rw is at c.in_ok-line.ensures.next in
    let p = err_from_is_err_and c.from_residual-in_err-put.result c.from_residual-in_err-put.ensures.1 in
    rw (p.1, p.2) (put_refused _ _ c.next_change.new.self _ _ c.in-Some.change _ _ i.come (λ over. not_over _ _ _ was is (c.next_change.ensures.over over).0) says c.in_err-put.ensures.refused)

pub returns-clause-read : goal.returns-clause-read
returns-clause-read g c = set_reads_all _ _ _ _ c.loop-line.invariant.come (rw c.in_default.is at c.in_ok-line.ensures.next)
