use Rattle.osm_keys.proofs.shared.RangeLaws.{tag_found}
use Rattle.osm_keys.proofs.laws.tag_law.Goals as goal

pub returns : goal.returns
returns c = tag_found
