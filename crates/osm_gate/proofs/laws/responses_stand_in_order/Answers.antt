use Rattle.std.specs.Prelude.{None}
use Rattle.osm_gate.specs.Terms.{within}
use Rattle.osm_gate.proofs.RespondingLemmas.{responds-split}
use Rattle.osm_gate.proofs.laws.responses_stand_in_order.Goals as goal

pub returns : goal.returns
returns c = λ p first second text responds. responds-split (within None) p first second text responds
