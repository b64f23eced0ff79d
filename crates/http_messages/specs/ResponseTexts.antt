-- The bytes of a response: the status line, the fields in this order, an empty line, and the body.
-- Source: RFC 9112, sections 2.1, 4, 5 and 9.6, RFC 9110, section 15; which fields there are, and their order, is this
-- project's.
use Rattle.std.specs.Prelude.{ℕ, Bool, List, [], ◌∷◌, ◌++◌, length, Option, Some, None, option_map, if◌then◌else◌, codes}
use Rattle.std.specs.Fmt.{decimal}
use Rattle.hex.specs.Hex.{encode_lower}
use Rattle.http.specs.StatusCode.{status_text}
use Rattle.osm_model.specs.Bytes.{carriage_return, line_feed}

-- what the head of a response says
pub record HeadParts : Type 0 where
  pub status : ℕ
  pub content_type : List ℕ
  pub root : Option (List ℕ)
  pub allow : Option (List ℕ)
  pub closes : Bool

pub record Response : Type 0 where
  pub head : HeadParts
  pub body : List ℕ

abbrev pub line_end : List ℕ
line_end = carriage_return ∷ line_feed ∷ []

abbrev pub field_line : List ℕ → List ℕ → List ℕ
field_line name value = name ++ (codes ": " ++ (value ++ line_end))

-- a field that may be missing
abbrev pub field_if : List ℕ → Option (List ℕ) → List ℕ
field_if name None = []
field_if name (Some value) = field_line name value

abbrev pub close_if : Bool → List ℕ
close_if closes = if closes then field_line (codes "Connection") (codes "close") else []

-- the head of a response whose body has so many bytes
abbrev pub head_text : HeadParts → ℕ → List ℕ
head_text head body_len =
    codes "HTTP/1.1 " ++ status_text head.status ++ line_end
    ++ field_line (codes "Content-Type") head.content_type
    ++ field_line (codes "Content-Length") (decimal body_len)
    ++ field_if (codes "Osm-Root") (option_map encode_lower head.root)
    ++ field_if (codes "Allow") head.allow
    ++ close_if head.closes
    ++ line_end

unfoldable pub response_text : Response → List ℕ
response_text r = head_text r.head (length r.body) ++ r.body
