use Rattle.osm_index.proofs.shared.OneHeld.{one_edition, one_publication}
use Rattle.osm_index.proofs.laws.snapshot_law.Goals as goal

pub returns-clause-objects : goal.returns-clause-objects
returns-clause-objects c = one_publication

pub returns-clause-edition : goal.returns-clause-edition
returns-clause-edition c = one_edition
