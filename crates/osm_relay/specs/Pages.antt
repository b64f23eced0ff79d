-- The responses that aren't documents: pages that tell an error, as an Overpass server words them, and what it says of its
-- free slots.
-- Source: the Overpass API, whose clients look for `Error</strong>: ` and for the end of the paragraph; which of its texts
-- stand here is this project's.
use Rattle.std.specs.Prelude.{ℕ, List, [], ◌∷◌, ◌++◌, Option, Some, None, true, if◌then◌else◌, ◌==◌, codes}
use Rattle.std.specs.List.{flat_map}
use Rattle.osm_forms.specs.Documents.{content_type, document_in}
use Rattle.osm_forms.specs.declared.form.Form.{Form}
use Rattle.http_messages.specs.ResponseTexts.{Response, response_text}
use Rattle.osm_relay.specs.declared.page.TheConstants.{PAGE_END, PAGE_START}
use Rattle.osm_relay.specs.declared.slots.TheConstants.{SLOTS}

-- `&`, `<` and `>` as HTML writes them
abbrev pub escaped_byte : ℕ → List ℕ
escaped_byte b =
    if b == 38 then codes "&amp;" else (if b == 60 then codes "&lt;" else (if b == 62 then codes "&gt;" else b ∷ []))

abbrev pub escaped : List ℕ → List ℕ
escaped text = flat_map escaped_byte text

unfoldable pub page : List ℕ → List ℕ
page text = PAGE_START.now ++ (escaped text ++ PAGE_END.now)

abbrev pub page_response : ℕ → Option (List ℕ) → List ℕ → Response
page_response status allow text = record {
  head = record { status = status; content_type = codes "text/html; charset=utf-8"; root = None; allow = allow; closes = true };
  body = page text;
}

abbrev pub error_response : ℕ → List ℕ → Response
error_response status text = page_response status None text

abbrev pub not_allowed_response : List ℕ → Response
not_allowed_response methods = page_response 405 (Some methods) (codes "method not allowed")

abbrev pub slots_response : Response
slots_response = record {
  head = record { status = 200; content_type = codes "text/plain; charset=utf-8"; root = None; allow = None; closes = true };
  body = SLOTS.now;
}

-- what is said where memory runs out
unfoldable pub starved : List ℕ
starved = response_text (error_response 503 (codes "out of memory"))

-- what is said where the budget of the client's check is passed
abbrev pub too_much_work : List ℕ
too_much_work = response_text (error_response 503 (codes "too much work"))

-- the document of an answer, and the root that it was checked by
abbrev pub document_response : Form → (root text : List ℕ) → Response
document_response form root text = record {
  head = record { status = 200; content_type = content_type form; root = Some root; allow = None; closes = true };
  body = document_in form text;
}
