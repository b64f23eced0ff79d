use Rattle.osm_gate.proofs.OneResponse.{one_response}
use Rattle.osm_gate.proofs.laws.one_response_within.Goals as goal

pub returns : goal.returns
returns c = λ most p requests first second is to_first to_second. one_response most p is requests first second to_first to_second
