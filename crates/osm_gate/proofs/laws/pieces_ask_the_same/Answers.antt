use Rattle.osm_gate.proofs.ConnectionLemmas.{cut}
use Rattle.osm_gate.proofs.laws.pieces_ask_the_same.Goals as goal

pub returns : goal.returns
returns c = λ a b. cut a b
