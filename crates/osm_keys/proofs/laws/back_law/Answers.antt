use Rattle.osm_keys.proofs.shared.RangeLaws.{back_found}
use Rattle.osm_keys.proofs.laws.back_law.Goals as goal

pub returns : goal.returns
returns c = back_found
