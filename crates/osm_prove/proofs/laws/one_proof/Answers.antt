use Rattle.osm_prove.proofs.shared.ProofLaws.{one_proof}
use Rattle.osm_prove.proofs.laws.one_proof.Goals as goal

pub returns : goal.returns
returns c = one_proof
