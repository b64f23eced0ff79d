use Rattle.osm_form_laws.proofs.JsonDocuments.{json_object_spells, one_json_object}
use Rattle.osm_form_laws.proofs.JsonKeeps.{one_value_object}
use Rattle.osm_form_laws.proofs.json_laws.json_object_is_read.Goals as goal

pub returns : goal.returns
returns c = record { read = json_object_spells; one = one_value_object; one_text = one_json_object }
