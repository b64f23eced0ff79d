-- The documents that clients of Overpass read.
-- Source: the output formats of the Overpass API (OpenStreetMap wiki, "Overpass API/Output formats"); the root element of
-- the OpenStreetMap API 0.6. Which of their members and attributes stand here is this project's.
use Rattle.std.specs.Prelude.{ℕ, List, [], ◌∷◌, ◌++◌, drop, flat_map, codes}
use Rattle.osm_model.specs.Bytes.{comma, line_feed}
use Rattle.osm_model.specs.Elements.{Element}
use Rattle.osm_model.specs.declared.out_mode.OutMode.{OutMode}
use Rattle.osm_forms.specs.Forms.{form_text}
use Rattle.osm_forms.specs.declared.form.Form.{Form}
use Rattle.osm_forms.specs.declared.form.Form.TheVariants as forms

abbrev pub json_header : List ℕ
json_header = codes "{\"version\":0.6,\"generator\":\"osm_mirror\",\"elements\":["

abbrev pub json_trailer : List ℕ
json_trailer = line_feed ∷ (codes "]}" ++ line_feed ∷ [])

abbrev pub xml_header : List ℕ
xml_header = codes "<?xml version=\"1.0\" encoding=\"UTF-8\"?>" ++ (line_feed ∷ (codes "<osm version=\"0.6\" generator=\"osm_mirror\">" ++ line_feed ∷ []))

abbrev pub xml_trailer : List ℕ
xml_trailer = codes "</osm>" ++ line_feed ∷ []

-- around the text of the objects; in JSON the comma of the first one is left out
unfoldable pub document_in : Form → List ℕ → List ℕ
document_in forms.Opl text = text
document_in forms.Json text = json_header ++ (drop 1 text ++ json_trailer)
document_in forms.Xml text = xml_header ++ (text ++ xml_trailer)

-- the document of objects in a form and a mode
abbrev pub document_of : Form → List Element → OutMode → List ℕ
document_of form objects mode = document_in form (flat_map (λ o. form_text form o mode) objects)

-- the texts after one another, a comma and a line feed between two
abbrev pub with_commas : List (List ℕ) → List ℕ
with_commas [] = []
with_commas (text ∷ []) = text
with_commas (text ∷ next ∷ texts) = text ++ (comma ∷ (line_feed ∷ with_commas (next ∷ texts)))

-- the media type of a document; clients want those of JSON and XML without a parameter
abbrev pub content_type : Form → List ℕ
content_type forms.Opl = codes "text/plain; charset=utf-8"
content_type forms.Json = codes "application/json"
content_type forms.Xml = codes "application/osm3s+xml"
