use Rattle.osm_gate.proofs.StepLemmas.{open-empty}
use Rattle.osm_gate.proofs.gate.Gate.new.Goals as goal

pub invariant_of-result : goal.invariant_of-result
invariant_of-result c = record { closed = λ e. c.new.ensures.items; is_open = open-empty c.new.result.items c.new.ensures.items; routes = c.in-Ok.ensures.ok }
