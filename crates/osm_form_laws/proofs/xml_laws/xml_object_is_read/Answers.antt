use Rattle.osm_form_laws.proofs.XmlKeeps.{one_tree_object, one_xml_object}
use Rattle.osm_form_laws.proofs.XmlSpelled.{object_spelled}
use Rattle.osm_form_laws.proofs.XmlUnique.{one_tree}
use Rattle.osm_form_laws.proofs.xml_laws.xml_object_is_read.Goals as goal

pub returns : goal.returns
returns c = record { one_tree = one_tree; read = object_spelled; one = one_tree_object; one_text = one_xml_object }
