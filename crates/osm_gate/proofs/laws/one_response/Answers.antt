use Rattle.std.specs.Prelude.{None}
use Rattle.osm_gate.proofs.OneResponse as lemmas
use Rattle.osm_gate.proofs.laws.one_response.Goals as goal

pub returns : goal.returns
returns c = λ p requests first second is to_first to_second. lemmas.one_response None p is requests first second to_first to_second
