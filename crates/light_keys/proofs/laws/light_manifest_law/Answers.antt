use Rattle.light_keys.proofs.shared.OneLightManifest.{no_other, same_sequence, same_tops}
use Rattle.light_keys.proofs.laws.light_manifest_law.Goals as goal

pub returns-clause-sequence : goal.returns-clause-sequence
returns-clause-sequence c = same_sequence

pub returns-clause-tops : goal.returns-clause-tops
returns-clause-tops c = same_tops

pub returns-clause-apart : goal.returns-clause-apart
returns-clause-apart c = no_other
