-- What a response is worth, by the bytes of its head.
-- Source: RFC 9112, sections 2.1 and 4, as far as httparse's grammar takes it; the limit is this project's.
use Rattle.std.specs.Prelude.{◌≡◌, ◌≤◌, ◌⊎◌, ℕ, List, [], Option, length, map}
use Rattle.httparse.specs.Grammar.{ReadsResponse, ResponseHead, status_code}
use Rattle.httparse.specs.Spans.{name_and_value}
use Rattle.http_messages.specs.Fields.{FieldPair}
use Rattle.http_ranges.specs.Judgements.{judged}
use Rattle.http_ranges.specs.declared.byte_range.ByteRange.{ByteRange}
use Rattle.http_ranges.specs.declared.judging.Judgement.{Judgement}
use Rattle.http_ranges.specs.declared.judging.Judgement.TheVariants.{Refused}
use Rattle.http_ranges.specs.declared.limits.TheConstants.{FIELD_LIMIT}
use Rattle.http_ranges.specs.declared.not_given.NotGiven.TheVariants.{Malformed}

-- the bytes are this head and nothing else, within the limit
pub record IsHead (bytes : List ℕ) (h : ResponseHead) : Type 0 where
  pub reads : ReadsResponse bytes h []
  pub starts : h.blank ≡ []
  pub few : length h.fields ≤ FIELD_LIMIT

abbrev pub HasNone : List ℕ → Type 0
HasNone bytes = (h : ResponseHead) → ¬ (IsHead bytes h)

-- the fields of a head: their names and values
abbrev pub fields_of : ResponseHead → List FieldPair
fields_of h = map name_and_value h.fields

-- it is worth what its status and its fields say, and nothing where the bytes are no head
abbrev pub IsJudged : List ℕ → ByteRange → Option ℕ → Judgement → Type 0
IsJudged bytes asked size judgement =
    ((h : ResponseHead) × IsHead bytes h × (judgement ≡ judged asked size h.minor (status_code h) (fields_of h)))
    ⊎ (HasNone bytes × (judgement ≡ Refused Malformed))
