use Rattle.light_keys.proofs.shared.FineKeyLaws.{keys_as_places}
use Rattle.light_keys.proofs.laws.fine_key_order_law.Goals as goal

pub returns : goal.returns
returns c = keys_as_places
