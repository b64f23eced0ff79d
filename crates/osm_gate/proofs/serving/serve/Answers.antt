use Rattle.osm_gate.proofs.shared.GivenUp.{given_up_at_once}
use Rattle.osm_gate.proofs.serving.serve.Goals as goal

pub returns-in_default-clause-ended : goal.returns-in_default-clause-ended
returns-in_default-clause-ended g c = λ p holds.
    given_up_at_once p (g.R.Read.remaining c.args.reader.now) _ _ c.send_out_of_memory.result c.send_out_of_memory.ensures.kinds c.send_out_of_memory.ensures.whole c.send_out_of_memory.ensures.begun
