use Rattle.std.proofs.Common.{List, subst, ℕ}
use Rattle.std.proofs.lemmas.Result.{err_from_is_err_and}
use Rattle.opl_codec.specs.internal.Buffering.{IsKept}
use Rattle.opl_codec.proofs.ChangeFileLemmas.{file_read_all, file_refused, file_starts, reads_line}
use Rattle.opl_codec.proofs.NextLemmas.{not_end, not_end_refused}
use Rattle.opl_codec.proofs.load.take_file.Goals as goal

pub loop-changes-init : goal.loop-changes-init
loop-changes-init g c =
    let none = c.new-changes.ensures.items in
    record {
      goes_on = c.new-buffer.ensures.sound _;
      come = rw none (file_starts _ c.new-buffer.result c.new-buffer.ensures.nothing c.new-buffer.ensures.unread c.new-buffer.ensures.uncommented);
    }

pub loop-changes-preserved : goal.loop-changes-preserved
loop-changes-preserved g c =
    let i = c.loop-changes.invariant in
    let was = c.in_ok-found.was in
    let is = c.in-Line.is in
    let step = rw is at c.in_ok-found.ensures.step in
    record {
      goes_on = c.in_ok-found.ensures.goes_on;
      come = reads_line _ _ _ _ _ c.in-Line.found _ _ i.come (λ over. not_end _ _ _ was is (c.take_line.ensures.ended over).0) step c.in_ok-append.ensures;
    }

pub returns-in_err-found-clause-refused : goal.returns-in_err-found-clause-refused
returns-in_err-found-clause-refused g c =
    let i = c.loop-changes.invariant in
    let was = c.in_err-found.was in
    let p = err_from_is_err_and c.from_residual.result c.from_residual.ensures.1 in
    rw (p.1, p.2) (file_refused _ _ c.take_line.new.self _ _ _ i.come (λ over. not_end_refused _ _ was (c.take_line.ensures.ended over).0) c.in_err-found.ensures.step c.in_err-found.ensures.told)

pub returns-clause-read : goal.returns-clause-read
returns-clause-read g c =
    let step = rw c.in_default.is at c.in_ok-found.ensures.step in (
      c.loop-changes.buffer.comment.items,
      file_read_all _ _ _ _ c.loop-changes.invariant.come step.0 step.1,
      subst (λ (kept : List ℕ). IsKept kept c.into_comment-end_comment.result) step.3 c.into_comment-end_comment.ensures,
    )
