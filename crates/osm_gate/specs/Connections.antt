-- What the bytes of a connection ask, as a function of them alone: one complete request after the other, without the
-- CR and LF before each, and then less than a complete one. And what responds to that.
-- Source: RFC 9112, sections 2.2, 9.3 and 9.6; after which responses the connection ends is this project's.
use Rattle.std.specs.Prelude.{◌≡◌, ℕ, Bool, true, false, List, [], ◌∷◌, ◌++◌, Option, Some, None, drop, length, zero, suc, if◌then◌else◌}
use Rattle.osm_keys.specs.Publications.{Publication}
use Rattle.http_messages.specs.HeadEnds.{skip_breaks}
use Rattle.http_messages.specs.Requests.{Decided, Request, asked, first_request, refused}
use Rattle.http_messages.specs.ResponseTexts.{Response, response_text}
use Rattle.osm_gate.specs.Responses.{IsResponseOn, ends, refused_response}
use Rattle.osm_gate.specs.Terms.{Terms, within}

-- what is left of a connection: whether it is closed, and the bytes after the last complete request
pub record Rest : Type 0 where
  pub is_closed : Bool
  pub bytes : List ℕ

abbrev pub open_rest : List ℕ → Rest
open_rest bytes = record { is_closed = false; bytes = bytes }

abbrev pub closed_rest : Rest
closed_rest = record { is_closed = true; bytes = [] }

-- the complete requests, and what is left
pub record Requests : Type 0 where
  pub complete : List Request
  pub rest : Rest

-- these requests come first
abbrev pub joined_requests : List Request → Requests → Requests
joined_requests first later = record { complete = first ++ later.complete; rest = later.rest }

-- the connection ends after the response to this request
abbrev pub ends_with : Request → Bool
ends_with (refused refusal) = true
ends_with (asked a) = ends a

-- the first request of these bytes, and those after it; or none
abbrev pub requests_from : (List ℕ → Requests) → List ℕ → Option Decided → Requests
requests_from later bytes None = record { complete = []; rest = open_rest bytes }
requests_from later bytes (Some d) =
    if ends_with d.request then record { complete = d.request ∷ []; rest = closed_rest }
    else joined_requests (d.request ∷ []) (later (drop d.used bytes))

-- at most so many requests of these bytes
abbrev pub requests_within : ℕ → List ℕ → Requests
requests_within zero bytes = record { complete = []; rest = open_rest (skip_breaks bytes) }
requests_within (suc n) bytes =
    requests_from (requests_within n) (skip_breaks bytes) (first_request (skip_breaks bytes))

-- all requests of these bytes: each takes a byte at least
abbrev pub requests_in : List ℕ → Requests
requests_in bytes = requests_within (length bytes) bytes

-- the same of what is left and a further piece: nothing more once the connection is closed
abbrev pub requests_on : Bool → List ℕ → Requests
requests_on true bytes = record { complete = []; rest = closed_rest }
requests_on false bytes = requests_in bytes

abbrev pub requests_next : Rest → List ℕ → Requests
requests_next rest piece = requests_on rest.is_closed (rest.bytes ++ piece)

-- the text is the response to this request, on these terms
abbrev pub RespondsToOneOn : Terms → Publication → Request → List ℕ → Type 0
RespondsToOneOn terms p (refused refusal) text = text ≡ response_text (refused_response refusal)
RespondsToOneOn terms p (asked a) text = (r : Response) × IsResponseOn terms p a r × (text ≡ response_text r)

-- the text is the responses to these requests, one after the other
abbrev pub RespondsOn : Terms → Publication → List Request → List ℕ → Type 0
RespondsOn terms p [] text = text ≡ []
RespondsOn terms p (request ∷ requests) text =
    (first : List ℕ) × (later : List ℕ) × RespondsToOneOn terms p request first
    × RespondsOn terms p requests later × (text ≡ first ++ later)

-- the same where nodes are held in memory, and there may be a budget for each query
abbrev pub RespondsWithin : Option ℕ → Publication → List Request → List ℕ → Type 0
RespondsWithin most p requests text = RespondsOn (within most) p requests text

-- the same without a budget
abbrev pub Responds : Publication → List Request → List ℕ → Type 0
Responds p requests text = RespondsWithin None p requests text

-- the text is the responses to all requests of these bytes
abbrev pub RespondsTo : Publication → List ℕ → List ℕ → Type 0
RespondsTo p bytes text = Responds p (requests_in bytes).complete text
