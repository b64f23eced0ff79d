use Rattle.osm_form_laws.proofs.XmlSpelled.{xml_document_spells}
use Rattle.osm_form_laws.proofs.xml_laws.xml_document_is_well_formed.Goals as goal

pub returns : goal.returns
returns c = xml_document_spells
