-- The form in which a query's answer is given.
-- Source: the Overpass API, which answers in XML where a query doesn't say.
use Rattle.std.specs.Prelude.{◌≡◌, ℕ, List, Option, Some, None}
use Rattle.ql_syntax.specs.Formats.{HasFormat}
use Rattle.ql_syntax.specs.Queries.{Reads}
use Rattle.ql_syntax.specs.Statements.{Statements}
use Rattle.ql_syntax.specs.declared.format.Format.{Format}
use Rattle.ql_syntax.specs.declared.format.Format.TheVariants as formats
use Rattle.osm_forms.specs.declared.form.Form.{Form}
use Rattle.osm_forms.specs.declared.form.Form.TheVariants as forms

abbrev pub form_for : Option Format → Form
form_for None = forms.Xml
form_for (Some formats.Json) = forms.Json
form_for (Some formats.Xml) = forms.Xml

-- the query reads, and asks for its answer in this form
pub record WantsForm (query : List ℕ) (form : Form) : Type 0 where
  pub statements : Statements
  pub reads : Reads query statements
  pub format : Option Format
  pub asked : HasFormat query format
  pub formed : form ≡ form_for format

-- a query, and the form in which its answer is wanted
pub record Wish : Type 0 where
  pub query : List ℕ
  pub form : Form
