use Rattle.osm_gate.proofs.ShortRests.{rest-short}
use Rattle.osm_gate.proofs.laws.rests_are_short.Goals as goal

pub returns : goal.returns
returns c = λ bytes. rest-short bytes
