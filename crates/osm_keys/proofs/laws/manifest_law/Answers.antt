use Rattle.osm_keys.proofs.shared.OneManifest.{same_edition, same_shape, same_tops}
use Rattle.osm_keys.proofs.laws.manifest_law.Goals as goal

pub returns-clause-tops : goal.returns-clause-tops
returns-clause-tops c = same_tops

pub returns-clause-shape : goal.returns-clause-shape
returns-clause-shape c = same_shape

pub returns-clause-edition : goal.returns-clause-edition
returns-clause-edition c = same_edition
