-- The query that a request carries.
-- Source: the Overpass API, which takes a query as the field `data` of a form; what a form is, is
-- form_urlencoded's (the URL standard). That another body of a POST is the query itself is the API's too.
use Rattle.std.specs.Prelude.{ℕ, Bool, List, [], ◌∷◌, take, Option, Some, None, if◌then◌else◌, codes}
use Rattle.std.specs.Str.{bytes_eq}
use Rattle.std.specs.Str.Lossy.{utf8_lossy}
use Rattle.form_urlencoded.specs.Form.{decode, raw_pairs}
use Rattle.http_messages.specs.Requests.{Asked}
use Rattle.http_messages.specs.Targets.{query_part}
use Rattle.http_messages.specs.declared.query_text.QuerySource.{QuerySource}
use Rattle.http_messages.specs.declared.query_text.QuerySource.TheVariants.{Body, Target}

-- the text that the bytes of a name or of a value stand for
abbrev pub form_text : List ℕ → List ℕ
form_text bytes = utf8_lossy (decode bytes)

-- the value of the first of these pairs that has this name
abbrev pub first_of : List ℕ → List (List ℕ × List ℕ) → Option (List ℕ)
first_of name [] = None
first_of name (pair ∷ pairs) = if bytes_eq (form_text pair.0) name then Some (form_text pair.1) else first_of name pairs

unfoldable pub data_of : List ℕ → Option (List ℕ)
data_of form = first_of (codes "data") (raw_pairs form)

abbrev pub is_form : List ℕ → Bool
is_form body = bytes_eq (take 5 body) (codes "data=")

-- of a POST, and of a GET
abbrev pub query_of : QuerySource → Asked → Option (List ℕ)
query_of Body a = if is_form a.body then data_of a.body else Some a.body
query_of Target a = data_of (query_part a.target)
