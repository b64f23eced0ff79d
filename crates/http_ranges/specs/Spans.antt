-- Parts of a file that are asked for together.
-- Source: this project.
use Rattle.std.specs.Prelude.{◌≡◌, ◌⊎◌, ◌≤◌, ◌<◌, ◌+◌, ◌-◌, ◌^◌, ℕ, Bool, ◌&&◌, ◌||◌, List, [], ◌∷◌, if◌then◌else◌, max, min, nat_le, nat_lt}
use Rattle.http_ranges.specs.declared.limits.TheConstants.{GAP_LIMIT, SPAN_LIMIT}
use Rattle.http_ranges.specs.declared.span.Span.{Span}

-- they overlap, or the gap between them and what they make together are small enough; no number passes 2^64 - 1
abbrev pub joins : Span → Span → Bool
joins last span =
    nat_le last.start span.start
    && (nat_lt span.start last.end
    || (nat_le span.start (min (last.end + GAP_LIMIT) (2 ^ 64 - 1)) && nat_le span.end (min (last.start + SPAN_LIMIT) (2 ^ 64 - 1))))

abbrev pub merged : Span → Span → Span
merged last span = record { start = last.start; end = max last.end span.end }

abbrev pub joined_from : Span → List Span → List Span
joined_from last [] = last ∷ []
joined_from last (span ∷ spans) =
    if joins last span then joined_from (merged last span) spans else last ∷ joined_from span spans

abbrev pub joined : List Span → List Span
joined [] = []
joined (span ∷ spans) = joined_from span spans

-- ---- what is true of them

-- it is in one of these
abbrev pub CoveredBy : List Span → Span → Type 0
CoveredBy [] span = ⊥
CoveredBy (other ∷ others) span = ((other.start ≤ span.start) × (span.end ≤ other.end)) ⊎ CoveredBy others span

-- this byte is in one of these, or in the gap after one
abbrev pub IsNear : List Span → ℕ → Type 0
IsNear [] byte = ⊥
IsNear (span ∷ spans) byte =
    ((span.start ≤ byte) × (byte < span.end)) ⊎ ((span.end ≤ byte) × (byte < span.end + GAP_LIMIT)) ⊎ IsNear spans byte

-- one of these ends there
abbrev pub EndsOne : List Span → ℕ → Type 0
EndsOne [] end = ⊥
EndsOne (span ∷ spans) end = (span.end ≡ end) ⊎ EndsOne spans end

-- each of its bytes is in one of these or in the gap after one, and it ends with one
pub record IsDrawn (spans : List Span) (span : Span) : Type 0 where
  pub near : (byte : ℕ) → span.start ≤ byte → byte < span.end → IsNear spans byte
  pub ends : EndsOne spans span.end

-- each starts there or later, and no earlier than the one before it
abbrev pub StartFrom : ℕ → List Span → Type 0
StartFrom low [] = Unit {0}
StartFrom low (span ∷ spans) = (low ≤ span.start) × StartFrom span.start spans

abbrev pub AreInOrder : List Span → Type 0
AreInOrder spans = StartFrom 0 spans

-- each starts where the one before it ends, or later; the first one there, or later
abbrev pub RiseFrom : ℕ → List Span → Type 0
RiseFrom low [] = Unit {0}
RiseFrom low (span ∷ spans) = (low ≤ span.start) × RiseFrom span.end spans

abbrev pub Rises : List Span → Type 0
Rises spans = RiseFrom 0 spans

abbrev pub IsShort : Span → Type 0
IsShort span = span.end ≤ span.start + SPAN_LIMIT

-- each starts where the one before it ends, or later, and none is too long
abbrev pub ApartFrom : ℕ → List Span → Type 0
ApartFrom low [] = Unit {0}
ApartFrom low (span ∷ spans) =
    ((low ≤ span.start) × (span.start ≤ span.end) × IsShort span) × ApartFrom span.end spans

abbrev pub AreApart : List Span → Type 0
AreApart spans = ApartFrom 0 spans
