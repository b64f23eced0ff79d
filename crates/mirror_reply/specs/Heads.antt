-- What the bytes received from a mirror begin with.
-- Source: RFC 9112, sections 2.1 and 4, as far as httparse's grammar takes it; the limits are this project's.
use Rattle.std.specs.Prelude.{◌≡◌, ◌⊎◌, ℕ, ◌<◌, ◌≤◌, List, [], length, take, Option, Some, None, map}
use Rattle.httparse.specs.Grammar.{ReadsResponse, ResponseHead, print_response}
use Rattle.httparse.specs.Spans.{name_and_value}
use Rattle.http_messages.specs.Fields.{FieldPair}
use Rattle.http_messages.specs.HeadEnds.{head_length}
use Rattle.mirror_reply.specs.declared.limits.TheConstants.{FIELD_LIMIT, HEAD_LIMIT}

-- the bytes are this head, with no empty line before it and within the limits, and then these bytes
pub record HasHead (received : List ℕ) (h : ResponseHead) (after : List ℕ) : Type 0 where
  pub reads : ReadsResponse received h after
  pub starts : h.blank ≡ []
  pub short : length (print_response h) ≤ HEAD_LIMIT
  pub few : length h.fields ≤ FIELD_LIMIT

-- what some bytes begin with: less than a head, no head at all, or a head with bytes after it
pub data Beginning : Type 0 where
  unfinished no_head : Beginning
  head : ResponseHead → List ℕ → Beginning

-- how many bytes come up to the first empty line and with it, if it comes in time
abbrev pub head_end : List ℕ → Option ℕ
head_end received = head_length (take HEAD_LIMIT received)

-- it comes too late, or what comes up to it isn't a head
abbrev pub HasNoHead : List ℕ → Type 0
HasNoHead received =
    ((head_end received ≡ None) × (HEAD_LIMIT ≤ length received))
    ⊎ ((n : ℕ) × (head_end received ≡ Some n) × ((h : ResponseHead) (after : List ℕ) → ¬ (HasHead received h after)))

abbrev pub BeginsWith : List ℕ → Beginning → Type 0
BeginsWith received unfinished = (head_end received ≡ None) × (length received < HEAD_LIMIT)
BeginsWith received no_head = HasNoHead received
BeginsWith received (head h after) = HasHead received h after

-- the fields of a head: their names and values
abbrev pub fields_of : ResponseHead → List FieldPair
fields_of h = map name_and_value h.fields
