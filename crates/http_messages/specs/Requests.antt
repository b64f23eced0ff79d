-- The first request of bytes that don't begin with CR or LF: what it is, and how many of the bytes it takes.
-- Source: RFC 9112, sections 2.2, 6.3 and 9.3; the limits and the order of the refusals are this project's.
use Rattle.std.specs.Prelude.{ℕ, ◌+◌, Bool, ◌||◌, ◌==◌, List, map, length, take, drop, Option, Some, None, Result, Ok, Err, if◌then◌else◌, nat_lt}
use Rattle.httparse.specs.Grammar.{RequestHead}
use Rattle.httparse.specs.Spans.{name_and_value}
use Rattle.http_messages.specs.Fields.{asks_close, framing}
use Rattle.http_messages.specs.HeadEnds.{head_length, line_feeds}
use Rattle.http_messages.specs.Heads.{head_of}
use Rattle.http_messages.specs.declared.limits.TheConstants.{HEAD_LIMIT, LINE_LIMIT}
use Rattle.http_messages.specs.declared.refusal.Refusal.{Refusal}
use Rattle.http_messages.specs.declared.refusal.Refusal.TheVariants.{BadHead, HeadTooLarge}

-- a complete request
pub record Asked : Type 0 where
  pub method : List ℕ
  pub target : List ℕ
  pub body : List ℕ
  pub closes : Bool

-- it is refused as it stands, or it is to be answered
pub data Request : Type 0 where
  refused : Refusal → Request
  asked : Asked → Request

-- a request, and how many bytes it takes
pub record Decided : Type 0 where
  pub request : Request
  pub used : ℕ

abbrev pub refuse : Refusal → ℕ → Option Decided
refuse refusal used = Some (record { request = refused refusal; used = used })

-- by HTTP/1.0, or by a field, the connection ends after this request
abbrev pub ends_after : RequestHead → Bool
ends_after h = (h.minor == 0) || asks_close (map name_and_value h.fields)

abbrev pub asked_with : RequestHead → List ℕ → Asked
asked_with h body = record { method = h.method; target = h.target; body = body; closes = ends_after h }

-- these bytes follow a head of n bytes, and the body has k of them
abbrev pub with_body : ℕ → List ℕ → RequestHead → Result ℕ Refusal → Option Decided
with_body n after h (Err refusal) = refuse refusal n
with_body n after h (Ok k) =
    if nat_lt (length after) k then None
    else Some (record { request = asked (asked_with h (take k after)); used = n + k })

-- these bytes follow a head of n bytes, which httparse reads, or doesn't
abbrev pub after_head : ℕ → List ℕ → Option RequestHead → Option Decided
after_head n after None = refuse BadHead n
after_head n after (Some h) = with_body n after h (framing h.method (map name_and_value h.fields))

-- the head ends after n bytes, or not within the limit
abbrev pub by_end : List ℕ → Option ℕ → Option Decided
by_end bytes None = if nat_lt (length bytes) HEAD_LIMIT then None else refuse HeadTooLarge HEAD_LIMIT
by_end bytes (Some n) =
    if nat_lt LINE_LIMIT (line_feeds (take n bytes)) then refuse HeadTooLarge n
    else after_head n (drop n bytes) (head_of (take n bytes))

-- none: more bytes have to come first
unfoldable pub first_request : List ℕ → Option Decided
first_request bytes = by_end bytes (head_length (take HEAD_LIMIT bytes))
