use Rattle.light_keys.proofs.shared.FineKeyLaws.{one_fine_cell, written_says}
use Rattle.light_keys.proofs.laws.fine_entry_law.Goals as goal

pub returns-clause-written : goal.returns-clause-written
returns-clause-written c = written_says

pub returns-clause-one : goal.returns-clause-one
returns-clause-one c = one_fine_cell
