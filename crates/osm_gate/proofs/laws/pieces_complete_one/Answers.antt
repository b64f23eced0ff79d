use Rattle.osm_gate.proofs.OneRequest.{byte-next, cut-next}
use Rattle.osm_gate.proofs.laws.pieces_complete_one.Goals as goal

pub returns-clause-cut : goal.returns-clause-cut
returns-clause-cut c = cut-next

pub returns-clause-more : goal.returns-clause-more
returns-clause-more c = byte-next
