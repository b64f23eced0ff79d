-- The option `--form opl|json|xml`, which tells how objects are written.
-- Source: this project.
use Rattle.std.specs.Prelude.{◌≡◌, ◌≢◌, Option, codes, unwrap_or}
use Rattle.clap.specs.Words.{Rule, Text}
use Rattle.command_line.specs.EditionOptions.{option_rule}
use Rattle.osm_forms.specs.declared.form.Form.{Form}
use Rattle.osm_forms.specs.declared.form.Form.TheVariants.{Json, Opl, Xml}

abbrev pub form_rule : Rule
form_rule = option_rule (codes "form")

-- the word after `--form`; `opl` where there is none
abbrev pub form_word : Option Text → Text
form_word word = unwrap_or word (codes "opl")

-- the word after `--form` asks for this form
abbrev pub AsksForForm : Option Text → Form → Type 0
AsksForForm word Opl = form_word word ≡ codes "opl"
AsksForForm word Json = form_word word ≡ codes "json"
AsksForForm word Xml = form_word word ≡ codes "xml"

-- the word after `--form` is none of `opl`, `json` and `xml`
abbrev pub IsBadForm : Option Text → Type 0
IsBadForm word = (form_word word ≢ codes "opl") × (form_word word ≢ codes "json") × (form_word word ≢ codes "xml")
