use Rattle.std.proofs.Common.{◌∙◌, sym}
use Rattle.std.specs.FinMap.{get}
use Rattle.osm_traffic.proofs.OutputLemmas.{found, lent_none, lent_some}
use Rattle.osm_traffic.proofs.outputs.Outputs.output.Goals as goal

pub returns-clause-some : goal.returns-clause-some
returns-clause-some c = lent_some c.get.result (get c.args.self.now c.args.number) (c.get.ensures.value ∙ sym (found _ c.self.inside.outputs c.self.view_is c.args.number))

pub returns-clause-none : goal.returns-clause-none
returns-clause-none c = lent_none c.get.result (get c.args.self.now c.args.number) (c.get.ensures.value ∙ sym (found _ c.self.inside.outputs c.self.view_is c.args.number))
