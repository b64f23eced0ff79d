use Rattle.std.proofs.Common.{sym, ◌∙◌}
use Rattle.osm_traffic.proofs.OutputLemmas.{size}
use Rattle.osm_traffic.proofs.outputs.Outputs.count.Goals as goal

pub returns : goal.returns
returns c = c.len.ensures.len ∙ sym (size _ c.self.inside.outputs c.self.view_is 0 c.len.ensures.ordered)
