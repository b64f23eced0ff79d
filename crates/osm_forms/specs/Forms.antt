-- How objects are told in each form.
-- Source: this project. A JSON object stands after a comma and a line feed: in a document the first one's are left out.
use Rattle.std.specs.Prelude.{ℕ, List, [], ◌∷◌, ◌++◌, codes}
use Rattle.osm_model.specs.Bytes.{comma, line_feed}
use Rattle.osm_model.specs.CanonicalLine.{reference_text}
use Rattle.osm_model.specs.Elements.{Element}
use Rattle.osm_model.specs.declared.reference.Ref.{Ref}
use Rattle.opl_codec.specs.Text.{text_of}
use Rattle.osm_model.specs.declared.out_mode.OutMode.{OutMode}
use Rattle.osm_forms.specs.JsonText.{json_of, json_ref}
use Rattle.osm_forms.specs.XmlText.{xml_end, xml_of, xml_ref}
use Rattle.osm_forms.specs.declared.form.Form.{Form}
use Rattle.osm_forms.specs.declared.form.Form.TheVariants as forms

-- an object in a mode
abbrev pub form_text : Form → Element → OutMode → List ℕ
form_text forms.Opl o mode = text_of o mode
form_text forms.Json o mode = comma ∷ (line_feed ∷ json_of o mode)
form_text forms.Xml o mode = xml_of o mode ++ line_feed ∷ []

-- an object by its kind and id alone
abbrev pub form_name : Form → Ref → List ℕ
form_name forms.Opl r = reference_text r ++ line_feed ∷ []
form_name forms.Json r = comma ∷ (line_feed ∷ (json_ref r ++ codes "}"))
form_name forms.Xml r = ((xml_ref r ++ codes ">") ++ xml_end r.kind) ++ line_feed ∷ []
