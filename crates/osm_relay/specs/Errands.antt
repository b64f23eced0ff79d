-- What a client's request asks for.
-- Source: the Overpass API; RFC 9110, section 15, for the statuses; that HEAD isn't answered is this project's.
use Rattle.std.specs.Prelude.{◌≡◌, ℕ, List, Option, Some, None, if◌then◌else◌, codes}
use Rattle.std.specs.Str.{bytes_eq}
use Rattle.http_messages.specs.Forms.{query_of}
use Rattle.http_messages.specs.HeadEnds.{skip_breaks}
use Rattle.http_messages.specs.Methods.{method_of}
use Rattle.http_messages.specs.Refusals.{refusal_status, refusal_text}
use Rattle.http_messages.specs.Requests.{Asked, Decided, Request, asked, first_request, refused}
use Rattle.http_messages.specs.Targets.{path_of}
use Rattle.http_messages.specs.declared.query_text.QuerySource.TheVariants.{Body, Target}
use Rattle.http_messages.specs.declared.method.Method.{Method}
use Rattle.http_messages.specs.declared.method.Method.TheVariants.{Get, Other, Post}

-- it is refused with a status and a text, its method is none of those that are allowed, it asks for free slots, or for the
-- answer to a query
pub data Errand : Type 0 where
  unmet : ℕ → List ℕ → Errand
  not_allowed : List ℕ → Errand
  slots : Errand
  answer_to : List ℕ → Errand

abbrev pub by_query : Option (List ℕ) → Errand
by_query None = unmet 400 (codes "no data")
by_query (Some query) = answer_to query

abbrev pub at_interpreter : Asked → Method → Errand
at_interpreter a Get = by_query (query_of Target a)
at_interpreter a Post = by_query (query_of Body a)
at_interpreter a Other = not_allowed (codes "GET, POST")

abbrev pub at_status : Method → Errand
at_status Get = slots
at_status Post = not_allowed (codes "GET")
at_status Other = not_allowed (codes "GET")

abbrev pub at_path : Asked → List ℕ → Errand
at_path a path =
    if bytes_eq path (codes "/api/interpreter") then at_interpreter a (method_of a.method)
    else (if bytes_eq path (codes "/api/status") then at_status (method_of a.method) else unmet 404 (codes "not found"))

abbrev pub errand_of : Request → Errand
errand_of (refused refusal) = unmet (refusal_status refusal) (refusal_text refusal)
errand_of (asked a) = at_path a (path_of a.target)

-- the first request of these bytes, which don't begin with CR or LF, is complete and asks for this
abbrev pub BeginsErrand : List ℕ → Errand → Type 0
BeginsErrand bytes e = (d : Decided) × (first_request bytes ≡ Some d) × (e ≡ errand_of d.request)

-- the first request of a connection asks for this: whatever comes after it doesn't matter
abbrev pub HasErrand : List ℕ → Errand → Type 0
HasErrand brought e = BeginsErrand (skip_breaks brought) e
