use Rattle.light_index.proofs.laws.light_snapshot_law.Goals as goal
use Rattle.light_index.proofs.shared.OneLightHeld.{one_light_sequence, one_light_set, one_light_snapshot}

pub returns-clause-objects : goal.returns-clause-objects
returns-clause-objects c = one_light_set

pub returns-clause-sequence : goal.returns-clause-sequence
returns-clause-sequence c = one_light_sequence

pub returns-clause-snapshots : goal.returns-clause-snapshots
returns-clause-snapshots c = one_light_snapshot
