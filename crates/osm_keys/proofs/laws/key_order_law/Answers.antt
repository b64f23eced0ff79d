use Rattle.osm_keys.proofs.shared.KeyOrder.{keys_as_refs}
use Rattle.osm_keys.proofs.laws.key_order_law.Goals as goal

pub returns : goal.returns
returns c = keys_as_refs
