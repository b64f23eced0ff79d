use Rattle.osm_keys.proofs.shared.RangeLaws.{tag_key_found}
use Rattle.osm_keys.proofs.laws.tag_key_law.Goals as goal

pub returns : goal.returns
returns c = tag_key_found
