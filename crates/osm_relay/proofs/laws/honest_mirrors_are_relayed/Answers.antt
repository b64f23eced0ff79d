use Rattle.osm_relay.proofs.HonestLemmas.{begun, whole}
use Rattle.osm_relay.proofs.laws.honest_mirrors_are_relayed.Goals as goal

pub returns : goal.returns
returns c = record {
  begun = λ terms response c m ending served taken. begun terms response c m served ending taken;
  whole = λ terms response c m served taken. whole terms response c m served taken;
}
