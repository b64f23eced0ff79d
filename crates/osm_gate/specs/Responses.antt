-- The response that a request has over a publication.
-- Source: this project; the statuses are those of RFC 9110, section 15, and RFC 6585, section 5.
use Rattle.std.specs.Prelude.{◌≡◌, ◌⊎◌, ℕ, Bool, true, false, ◌||◌, List, [], ◌∷◌, ◌++◌, length, Option, Some, None, if◌then◌else◌, codes}
use Rattle.std.specs.Fmt.{decimal}
use Rattle.std.specs.Int.{to_be_bytes, w64}
use Rattle.std.specs.Str.{bytes_eq}
use Rattle.hex.specs.Hex.{encode_lower}
use Rattle.osm_model.specs.Bytes.{line_feed}
use Rattle.osm_forms.specs.Forms.{form_text}
use Rattle.osm_forms.specs.declared.form.Form.TheVariants.{Opl}
use Rattle.osm_keys.specs.Publications.{Publication, root_of}
use Rattle.osm_prove.specs.Budgets.{IsTooMuch, IsWithinBudget, IsWorkOf}
use Rattle.osm_prove.specs.Proved.{IsAnswer, IsProved}
use Rattle.ql_syntax.specs.Queries.{HasFault, Reads}
use Rattle.ql_syntax.specs.Refusals.{code_text}
use Rattle.ql_syntax.specs.Statements.{Statements}
use Rattle.ql_syntax.specs.declared.fault.QlFault.{QlFault}
use Rattle.http_messages.specs.Forms.{query_of}
use Rattle.http_messages.specs.Methods.{method_of}
use Rattle.http_messages.specs.Refusals.{refusal_status, refusal_text}
use Rattle.http_messages.specs.Requests.{Asked}
use Rattle.http_messages.specs.ResponseTexts.{Response}
use Rattle.http_messages.specs.Targets.{path_of}
use Rattle.osm_gate.specs.Routes.{route_of}
use Rattle.osm_gate.specs.Terms.{Terms, within}
use Rattle.osm_gate.specs.declared.endpoint.Endpoint.{Endpoint}
use Rattle.osm_gate.specs.declared.endpoint.Endpoint.TheVariants.{Answer, AnswerWithProof}
use Rattle.http_messages.specs.declared.method.Method.{Method}
use Rattle.http_messages.specs.declared.method.Method.TheVariants.{Get, Other, Post}
use Rattle.http_messages.specs.declared.query_text.QuerySource.TheVariants.{Body, Target}
use Rattle.http_messages.specs.declared.refusal.Refusal.{Refusal}
use Rattle.osm_gate.specs.declared.reply.Reply.{Reply}
use Rattle.osm_gate.specs.declared.route.Route.{Route}
use Rattle.osm_gate.specs.declared.route.Route.TheVariants.{Query, Root}

-- ---- kinds of responses

-- of a body of bytes, and of a text
abbrev pub content_type : Bool → List ℕ
content_type is_binary = if is_binary then codes "application/octet-stream" else codes "text/plain; charset=utf-8"

-- a refusal says why in its body
abbrev pub refusal : Bool → ℕ → List ℕ → Response
refusal closes status text = record {
  head = record { status = status; content_type = content_type false; root = None; allow = None; closes = closes };
  body = text ++ line_feed ∷ [];
}

abbrev pub not_allowed_response : Bool → List ℕ → Response
not_allowed_response closes methods = record {
  head = record { status = 405; content_type = content_type false; root = None; allow = Some methods; closes = closes };
  body = codes "method not allowed" ++ line_feed ∷ [];
}

-- the refusal of a query whose work passes the budget
abbrev pub too_much_response : Bool → Response
too_much_response closes = refusal closes 503 (codes "too much work")

-- the refusal of a query whose nodes can't be read from their device
abbrev pub failed_response : Bool → Response
failed_response closes = refusal closes 500 (codes "device")

-- what was asked for, under this root
abbrev pub ok_response : Bool → List ℕ → Bool → List ℕ → Response
ok_response closes root is_binary body = record {
  head = record { status = 200; content_type = content_type is_binary; root = Some root; allow = None; closes = closes };
  body = body;
}

-- ---- queries

-- the code of the cause, and the place: `Q7 byte 5`
abbrev pub fault_text : QlFault → List ℕ
fault_text fault = code_text fault.cause ++ (codes " byte " ++ decimal fault.byte)

-- the response says why the query doesn't read
abbrev pub TellsFault : Bool → List ℕ → Response → Type 0
TellsFault closes query r =
    (fault : QlFault) × HasFault query fault × (r ≡ refusal closes 400 (fault_text fault))

-- what a client can check: the root, the length of the answer in eight bytes, the answer and the proof
abbrev pub checked_body : List ℕ → List ℕ → List ℕ → List ℕ
checked_body root answer proof = root ++ (to_be_bytes w64 (length answer) ++ (answer ++ proof))

-- under the publication's root the response gives the query's meaning over its set: alone, or with its one proof, as what
-- a client can check, which isn't text
abbrev pub GivesAt : Endpoint → Bool → Publication → List ℕ → Response → Type 0
GivesAt Answer closes p query r =
    (answer : List ℕ) × IsAnswer p query answer × (r ≡ ok_response closes (root_of p) false answer)
GivesAt AnswerWithProof closes p query r =
    (answer : List ℕ) × (proof : List ℕ) × IsProved p query answer proof
    × (r ≡ ok_response closes (root_of p) true (checked_body (root_of p) answer proof))

-- the response says that the query, which reads, is too much work
abbrev pub TellsTooMuch : Option ℕ → Bool → Publication → List ℕ → Response → Type 0
TellsTooMuch most closes p query r =
    (statements : Statements) × Reads query statements × IsTooMuch (IsWorkOf (form_text Opl) p query) most
    × (r ≡ too_much_response closes)

-- as `GivesAt`, but each query may have a budget. Without a budget the response gives what was asked for. With one it gives
-- that if the query's work is within the budget; otherwise it says that the query is too much work
abbrev pub GivesWithin : Option ℕ → Endpoint → Bool → Publication → List ℕ → Response → Type 0
GivesWithin None endpoint closes p query r = GivesAt endpoint closes p query r
GivesWithin (Some most) endpoint closes p query r =
    (GivesAt endpoint closes p query r × IsWithinBudget (IsWorkOf (form_text Opl) p query) (Some most))
    ⊎ TellsTooMuch (Some most) closes p query r

-- the response says that the device of the nodes failed, to a query that reads
abbrev pub TellsFailure : Bool → List ℕ → Response → Type 0
TellsFailure closes query r = (statements : Statements) × Reads query statements × (r ≡ failed_response closes)

-- this is so, or, where a device may fail, the response says that it did
abbrev pub OrFails : Bool → Bool → List ℕ → Response → Type 0 → Type 0
OrFails false closes query r Given = Given
OrFails true closes query r Given = Given ⊎ TellsFailure closes query r

-- on these terms the response gives what was asked for, or says why it can't be given
abbrev pub GivesOn : Terms → Endpoint → Bool → Publication → List ℕ → Response → Type 0
GivesOn terms endpoint closes p query r = OrFails terms.may_fail closes query r (GivesWithin terms.most endpoint closes p query r)

abbrev pub ByQueryOn : Terms → Reply → Publication → Option (List ℕ) → Response → Type 0
ByQueryOn terms reply p None r = r ≡ refusal reply.closes 400 (codes "no data")
ByQueryOn terms reply p (Some query) r =
    TellsFault reply.closes query r ⊎ GivesOn terms reply.endpoint reply.closes p query r

-- ---- methods and routes

abbrev pub ByMethodOn : Terms → Reply → Publication → Asked → Method → Response → Type 0
ByMethodOn terms reply p a Get r = ByQueryOn terms reply p (query_of Target a) r
ByMethodOn terms reply p a Post r = ByQueryOn terms reply p (query_of Body a) r
ByMethodOn terms reply p a Other r = r ≡ not_allowed_response reply.closes (codes "GET, POST")

-- the root in hexadecimal digits
abbrev pub root_by_method : Bool → List ℕ → Method → Response
root_by_method closes root Get = ok_response closes root false (encode_lower root ++ line_feed ∷ [])
root_by_method closes root Post = not_allowed_response closes (codes "GET")
root_by_method closes root Other = not_allowed_response closes (codes "GET")

abbrev pub ByRouteOn : Terms → Bool → Publication → Asked → Option Route → Response → Type 0
ByRouteOn terms closes p a None r = r ≡ refusal closes 404 (codes "not found")
ByRouteOn terms closes p a (Some (Query endpoint)) r =
    ByMethodOn terms (record { endpoint = endpoint; closes = closes }) p a (method_of a.method) r
ByRouteOn terms closes p a (Some Root) r = r ≡ root_by_method closes (root_of p) (method_of a.method)

-- the connection ends after the response to this request
abbrev pub ends : Asked → Bool
ends a = a.closes || bytes_eq a.method (codes "HEAD")

-- the response to a complete request, on these terms
unfoldable pub IsResponseOn : Terms → Publication → Asked → Response → Type 0
IsResponseOn terms p a r = ByRouteOn terms (ends a) p a (route_of (path_of a.target)) r

-- the same where nodes are held in memory, and there may be a budget for each query,
abbrev pub IsResponseWithin : Option ℕ → Publication → Asked → Response → Type 0
IsResponseWithin most p a r = IsResponseOn (within most) p a r

-- and where there is none
abbrev pub IsResponse : Publication → Asked → Response → Type 0
IsResponse p a r = IsResponseWithin None p a r

-- ---- requests that are refused as they stand

-- the connection ends after each
abbrev pub refused_response : Refusal → Response
refused_response r = refusal true (refusal_status r) (refusal_text r)
