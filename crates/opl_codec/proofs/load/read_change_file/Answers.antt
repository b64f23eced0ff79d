use Rattle.std.proofs.lemmas.Result.{err_from_is_err_and}
use Rattle.opl_codec.proofs.ChangeFileLemmas.{change_file_held, change_file_known, changes_of_file}
use Rattle.opl_codec.proofs.StoppedFiles.{changes_only_by_reader, only_changes}
use Rattle.opl_codec.proofs.load.read_change_file.Goals as goal

pub returns-in_err-file-clause-only : goal.returns-in_err-file-clause-only
returns-in_err-file-clause-only g c =
    let p = err_from_is_err_and c.from_residual.result c.from_residual.ensures.1 in
    rw (p.1, p.2) (changes_only_by_reader _ _ _ c.in_err-file.ensures.refused)

pub returns-clause-read : goal.returns-clause-read
returns-clause-read g c = change_file_known _ c.in_ok-file.file c.in_ok-file.ensures.read

pub returns-clause-held : goal.returns-clause-held
returns-clause-held g c = change_file_held _ c.in_ok-file.file c.in_ok-file.ensures.read

pub returns-clause-only : goal.returns-clause-only
returns-clause-only g c = only_changes _ _ (changes_of_file _ c.in_ok-file.file (change_file_known _ c.in_ok-file.file c.in_ok-file.ensures.read))
