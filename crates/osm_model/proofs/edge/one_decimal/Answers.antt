use Rattle.osm_model.proofs.shared.OneDecimal.{one_decimal}
use Rattle.osm_model.proofs.edge.one_decimal.Goals as goal

pub returns : goal.returns
returns c = one_decimal
