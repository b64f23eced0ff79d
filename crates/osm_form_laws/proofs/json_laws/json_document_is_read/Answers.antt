use Rattle.osm_form_laws.proofs.JsonDocuments.{json_document_spells}
use Rattle.osm_form_laws.proofs.json_laws.json_document_is_read.Goals as goal

pub returns : goal.returns
returns c = λ objects mode all. json_document_spells mode objects all
