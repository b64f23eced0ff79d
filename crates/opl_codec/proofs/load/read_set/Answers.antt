use Rattle.std.proofs.lemmas.Result.{err_from_is_err_and}
use Rattle.opl_codec.proofs.StoppedFiles.{holds_known, only_by_reader, only_set}
use Rattle.opl_codec.proofs.load.read_set.Goals as goal

pub returns-in_err-objects-clause-only : goal.returns-in_err-objects-clause-only
returns-in_err-objects-clause-only g c =
    let p = err_from_is_err_and c.from_residual.result c.from_residual.ensures.1 in
    rw (p.1, p.2) (only_by_reader _ _ _ c.in_err-objects.ensures.refused)

pub returns-clause-only : goal.returns-clause-only
returns-clause-only g c =
    let made = c.in-Ok.ensures.made in
    only_set _ c.in-Ok.set (holds_known _ _ _ c.in_ok-objects.ensures.read made.0 made.1)
