use Rattle.osm_model.proofs.shared.ReadBack.{reads_back}
use Rattle.osm_model.proofs.degrees_text.reads_back.Goals as goal

pub returns : goal.returns
returns c = reads_back
