use Rattle.std.proofs.Common.{Some, ap}
use Rattle.std.proofs.lemmas.Result.{err_from_is_err_and}
use Rattle.opl_codec.proofs.shared.OneChange.{one_change, only_read}
use Rattle.opl_codec.proofs.line.read_line.Goals as goal

pub returns-in_err-text-clause-only : goal.returns-in_err-text-clause-only
returns-in_err-text-clause-only c =
    let p = err_from_is_err_and c.from_residual.result c.from_residual.ensures.1 in
    only_read c.args.line.now c.from_residual.result (rw p.1 tt) (rw (p.1, p.2) c.in_err-text.ensures.refused)

pub returns-in_err-name-clause-only : goal.returns-in_err-name-clause-only
returns-in_err-name-clause-only c =
    let p = err_from_is_err_and c.from_residual-in_err-name.result c.from_residual-in_err-name.ensures.1 in
    only_read c.args.line.now c.from_residual-in_err-name.result (rw p.1 tt) (rw (p.1, p.2) c.in_err-name.ensures.refused)

pub returns-in_err-change-clause-only : goal.returns-in_err-change-clause-only
returns-in_err-change-clause-only c =
    let p = err_from_is_err_and c.from_residual-in_err-change.result c.from_residual-in_err-change.ensures.1 in
    only_read c.args.line.now c.from_residual-in_err-change.result (rw p.1 tt) (rw (p.1, p.2) c.in_err-change.ensures.refused)

pub returns-clause-only : goal.returns-clause-only
returns-clause-only c change spells = ap Some (one_change c.args.line.now c.in_ok-change.change change c.in_ok-change.ensures.read spells)
