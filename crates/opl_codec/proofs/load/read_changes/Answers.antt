use Rattle.opl_codec.proofs.ChangeFileLemmas.{changes_of_file}
use Rattle.opl_codec.proofs.load.read_changes.Goals as goal

pub returns-clause-read : goal.returns-clause-read
returns-clause-read g c = changes_of_file _ c.in_ok-file.file c.in_ok-file.ensures.read

pub returns-clause-held : goal.returns-clause-held
returns-clause-held g c = (c.in_ok-file.ensures.held.0, c.in_ok-file.ensures.held.1.changes)
