use Rattle.osm_model.proofs.shared.OneDegrees.{degrees_canonical, one_degrees}
use Rattle.osm_model.proofs.laws.one_degrees_text.Goals as goal

pub returns : goal.returns
returns c = record { canonical = degrees_canonical; only = one_degrees }
