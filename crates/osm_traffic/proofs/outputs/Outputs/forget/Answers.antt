use Rattle.osm_traffic.proofs.OutputLemmas.{taken}
use Rattle.osm_traffic.proofs.outputs.Outputs.forget.Goals as goal

pub returns : goal.returns
returns c = taken _ c.self.inside.outputs c.self.view_is c.args.number c.remove.new.self c.remove.ensures.updates
