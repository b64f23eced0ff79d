use Rattle.osm_keys.proofs.shared.RangeLaws.{object_is_found}
use Rattle.osm_keys.proofs.laws.object_law.Goals as goal

pub returns : goal.returns
returns c = object_is_found
