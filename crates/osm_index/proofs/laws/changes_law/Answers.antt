use Rattle.osm_index.proofs.shared.ChangeLaws.{both_applied, one_applied, one_snapshot}
use Rattle.osm_index.proofs.laws.changes_law.Goals as goal

pub returns-clause-one : goal.returns-clause-one
returns-clause-one c = one_applied

pub returns-clause-both : goal.returns-clause-both
returns-clause-both c = both_applied

pub returns-clause-snapshots : goal.returns-clause-snapshots
returns-clause-snapshots c = one_snapshot
