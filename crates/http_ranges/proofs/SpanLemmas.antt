-- What is true of joined spans.
use Rattle.std.proofs.Common.{◌≡◌, ◌≤◌, ◌<◌, ◌+◌, ◌^◌, ◌-◌, ◌⊎◌, ℕ, Bool, true, false, List, [], ◌∷◌, ◌++◌, ap, sym, refl, inl, inr, subst, arith}
use Rattle.std.specs.Prelude.{◌&&◌, ◌||◌, if◌then◌else◌, max, min, nat_le, nat_lt}
use Rattle.std.specs.List.{AllByRecursion}
use Rattle.std.proofs.lemmas.Bool.{cases_lt}
use Rattle.std.proofs.lemmas.Bool.Decides.{nat_tests}
use Rattle.http_ranges.specs.Spans.{ApartFrom, AreApart, AreInOrder, CoveredBy, EndsOne, IsDrawn, IsNear, IsShort, RiseFrom, Rises, StartFrom, joined, joined_from, joins, merged}
use Rattle.http_ranges.specs.declared.limits.TheConstants.{GAP_LIMIT, SPAN_LIMIT}
use Rattle.http_ranges.specs.declared.span.Span.{Span}

-- what is true where two are joined, and where they aren't
pub data JoinsIf (last span : Span) : Type 0 where
  overlap : last.start ≤ span.start → span.start < last.end → JoinsIf last span
  close : last.start ≤ span.start → span.start ≤ last.end + GAP_LIMIT → span.end ≤ last.start + SPAN_LIMIT → JoinsIf last span

joins-yes : (last span : Span) → joins last span ≡ true → JoinsIf last span
joins-yes last span holds = go (cases_lt span.start last.end)
  where
    below : last.start ≤ span.start
    below = grind (arith, nat_tests, holds)

    go : (span.start < last.end) ⊎ (last.end ≤ span.start) → JoinsIf last span
    go (inl inside) = overlap below inside
    go (inr outside) = close below (grind (arith, nat_tests, holds, outside)) (grind (arith, nat_tests, holds, outside))

joins-no : (last span : Span) → last.start ≤ span.start → joins last span ≡ false → last.end ≤ span.start
joins-no last span below fails = go (cases_lt span.start last.end)
  where
    go : (span.start < last.end) ⊎ (last.end ≤ span.start) → last.end ≤ span.start
    go (inl inside) = absurd (grind (arith, nat_tests, fails, inside, below))
    go (inr outside) = outside

joins-order : (last span : Span) → joins last span ≡ true → last.start ≤ span.start
joins-order last span holds = go (joins-yes last span holds)
  where
    go : JoinsIf last span → last.start ≤ span.start
    go (overlap below inside) = below
    go (close below few short) = below

-- ---- covered

front-covered : (last : Span) (rest : List Span) (span : Span) → last.start ≤ span.start → span.end ≤ last.end → CoveredBy (joined_from last rest) span
front-covered last [] span low high = inl (low, high)
front-covered last (next ∷ rest) span low high =
    elim (joins last next) as (λ c. CoveredBy (if c then joined_from (merged last next) rest else last ∷ joined_from next rest) span) [
      | true ↦ front-covered (merged last next) rest span low (omega arith)
      | false ↦ inl (low, high)
    ]

more-covered : (last : Span) (spans places : List Span) → AllByRecursion (CoveredBy spans) places → AllByRecursion (CoveredBy (last ∷ spans)) places
more-covered last spans [] all = tt
more-covered last spans (place ∷ places) all = (inr all.0, more-covered last spans places all.1)

rest-covered : (last : Span) (rest : List Span) → AllByRecursion (CoveredBy (joined_from last rest)) rest
rest-covered last [] = tt
rest-covered last (next ∷ rest) =
    elim (joins last next) as (λ c. joins last next ≡ c → AllByRecursion (CoveredBy (if c then joined_from (merged last next) rest else last ∷ joined_from next rest)) (next ∷ rest)) [
      | true ↦ λ holds.
          (front-covered (merged last next) rest next (joins-order last next holds) (omega arith), rest-covered (merged last next) rest)
      | false ↦ λ fails.
          (inr (front-covered next rest next (omega arith) (omega arith)), more-covered last (joined_from next rest) rest (rest-covered next rest))
    ] refl

pub all-covered : (sorted : List Span) → AllByRecursion (CoveredBy (joined sorted)) sorted
all-covered [] = tt
all-covered (last ∷ rest) = (front-covered last rest last (omega arith) (omega arith), rest-covered last rest)

-- ---- drawn

near-append : (a b : List Span) (byte : ℕ) → IsNear a byte → IsNear (a ++ b) byte
near-append [] b byte near = absurd near
near-append (x ∷ a) b byte (inl inside) = inl inside
near-append (x ∷ a) b byte (inr (inl behind)) = inr (inl behind)
near-append (x ∷ a) b byte (inr (inr later)) = inr (inr (near-append a b byte later))

near-last : (a : List Span) (x : Span) (byte : ℕ) → x.start ≤ byte → byte < x.end → IsNear (a ++ x ∷ []) byte
near-last [] x byte low high = inl (low, high)
near-last (y ∷ a) x byte low high = inr (inr (near-last a x byte low high))

near-gap : (a : List Span) (end byte : ℕ) → EndsOne a end → end ≤ byte → byte < end + GAP_LIMIT → IsNear a byte
near-gap [] end byte ends low high = absurd ends
near-gap (x ∷ a) end byte (inl is) low high = inr (inl (omega arith, omega arith))
near-gap (x ∷ a) end byte (inr later) low high = inr (inr (near-gap a end byte later low high))

ends-append : (a b : List Span) (end : ℕ) → EndsOne a end → EndsOne (a ++ b) end
ends-append [] b end ends = absurd ends
ends-append (x ∷ a) b end (inl is) = inl is
ends-append (x ∷ a) b end (inr later) = inr (ends-append a b end later)

ends-last : (a : List Span) (x : Span) → EndsOne (a ++ x ∷ []) x.end
ends-last [] x = inl refl
ends-last (y ∷ a) x = inr (ends-last a x)

drawn-append : (a b : List Span) (span : Span) → IsDrawn a span → IsDrawn (a ++ b) span
drawn-append a b span is = record {
  near = λ byte low high. near-append a b byte (is.near byte low high);
  ends = ends-append a b span.end is.ends;
}

drawn-one : (a : List Span) (span : Span) → IsDrawn (a ++ span ∷ []) span
drawn-one a span = record { near = λ byte low high. near-last a span byte low high; ends = ends-last a span }

drawn-merged : (a : List Span) (last span : Span) → IsDrawn a last → JoinsIf last span → IsDrawn (a ++ span ∷ []) (merged last span)
drawn-merged a last span is joined = record { near = near; ends = ends (cases_lt last.end span.end) }
  where
    gap : (byte : ℕ) → last.end ≤ byte → byte < span.start → JoinsIf last span → IsNear (a ++ span ∷ []) byte
    gap byte low high (overlap below inside) = absurd (omega arith)
    gap byte low high (close below few short) = near-append a (span ∷ []) byte (near-gap a last.end byte is.ends low (omega arith))

    inside : (byte : ℕ) → byte < span.end → last.end ≤ byte → (byte < span.start) ⊎ (span.start ≤ byte) → IsNear (a ++ span ∷ []) byte
    inside byte high low (inl before) = gap byte low before joined
    inside byte high low (inr after) = near-last a span byte after high

    near-at : (byte : ℕ) → last.start ≤ byte → byte < max last.end span.end → (byte < last.end) ⊎ (last.end ≤ byte) → IsNear (a ++ span ∷ []) byte
    near-at byte low high (inl front) = near-append a (span ∷ []) byte (is.near byte low front)
    near-at byte low high (inr back) = inside byte (omega arith) back (cases_lt byte span.start)

    near : (byte : ℕ) → last.start ≤ byte → byte < max last.end span.end → IsNear (a ++ span ∷ []) byte
    near byte low high = near-at byte low high (cases_lt byte last.end)

    ends : (last.end < span.end) ⊎ (span.end ≤ last.end) → EndsOne (a ++ span ∷ []) (max last.end span.end)
    ends (inl more) = let same : span.end ≡ max last.end span.end = omega arith in subst (EndsOne (a ++ span ∷ [])) same (ends-last a span)
    ends (inr less) = let same : last.end ≡ max last.end span.end = omega arith in subst (EndsOne (a ++ span ∷ [])) same (ends-append a (span ∷ []) last.end is.ends)

append-step : (a : List Span) (x : Span) (b : List Span) → (a ++ x ∷ []) ++ b ≡ a ++ x ∷ b
append-step [] x b = refl
append-step (y ∷ a) x b = ap (λ (t : List Span). y ∷ t) (append-step a x b)

rest-drawn : (done : List Span) (last : Span) (rest : List Span) → IsDrawn done last → AllByRecursion (IsDrawn (done ++ rest)) (joined_from last rest)
rest-drawn done last [] is = (drawn-append done [] last is, tt)
rest-drawn done last (next ∷ rest) is =
    let same : (done ++ next ∷ []) ++ rest ≡ done ++ next ∷ rest = append-step done next rest in
    elim (joins last next) as (λ c. joins last next ≡ c → AllByRecursion (IsDrawn (done ++ next ∷ rest)) (if c then joined_from (merged last next) rest else last ∷ joined_from next rest)) [
      | true ↦ λ holds.
          subst (λ (t : List Span). AllByRecursion (IsDrawn t) (joined_from (merged last next) rest)) same
          (rest-drawn (done ++ next ∷ []) (merged last next) rest (drawn-merged done last next is (joins-yes last next holds)))
      | false ↦ λ fails. (
        drawn-append done (next ∷ rest) last is,
        subst (λ (t : List Span). AllByRecursion (IsDrawn t) (joined_from next rest)) same
            (rest-drawn (done ++ next ∷ []) next rest (drawn-one done next)),
      )
    ] refl

pub all-drawn : (sorted : List Span) → AllByRecursion (IsDrawn sorted) (joined sorted)
all-drawn [] = tt
all-drawn (last ∷ rest) = rest-drawn (last ∷ []) last rest (drawn-one [] last)

-- ---- in order

start-lower : (high low : ℕ) (spans : List Span) → low ≤ high → StartFrom high spans → StartFrom low spans
start-lower high low [] below is = tt
start-lower high low (span ∷ spans) below is = (omega (arith, is.0), is.1)

rest-rises : (low : ℕ) (last : Span) (rest : List Span) → low ≤ last.start → StartFrom last.start rest → RiseFrom low (joined_from last rest)
rest-rises low last [] below order = (below, tt)
rest-rises low last (next ∷ rest) below order =
    elim (joins last next) as (λ c. joins last next ≡ c → RiseFrom low (if c then joined_from (merged last next) rest else last ∷ joined_from next rest)) [
      | true ↦ λ holds. rest-rises low (merged last next) rest below (start-lower next.start last.start rest order.0 order.1)
      | false ↦ λ fails. (below, rest-rises last.end next rest (joins-no last next order.0 fails) order.1)
    ] refl

pub all-rise : (sorted : List Span) → AreInOrder sorted → Rises (joined sorted)
all-rise [] order = tt
all-rise (last ∷ rest) order = rest-rises 0 last rest (omega arith) order.1

-- ---- short

apart-lower : (high low : ℕ) (spans : List Span) → low ≤ high → ApartFrom high spans → ApartFrom low spans
apart-lower high low [] below is = tt
apart-lower high low (span ∷ spans) below is = ((omega (arith, is.0.0), is.0.1, is.0.2), is.1)

merged-short : (last next : Span) → last.end ≤ next.start → next.start ≤ next.end → JoinsIf last next → IsShort (merged last next)
merged-short last next apart rises (overlap below inside) = absurd (omega arith)
merged-short last next apart rises (close below few fits) = omega arith

rest-short : (last : Span) (rest : List Span) → IsShort last → ApartFrom last.end rest → AllByRecursion IsShort (joined_from last rest)
rest-short last [] short apart = (short, tt)
rest-short last (next ∷ rest) short apart =
    let end : max last.end next.end ≤ next.end = omega (arith, apart.0.0, apart.0.1) in
    elim (joins last next) as (λ c. joins last next ≡ c → AllByRecursion IsShort (if c then joined_from (merged last next) rest else last ∷ joined_from next rest)) [
      | true ↦ λ holds.
          rest-short (merged last next) rest (merged-short last next apart.0.0 apart.0.1 (joins-yes last next holds)) (apart-lower next.end (max last.end next.end) rest end apart.1)
      | false ↦ λ fails. (short, rest-short next rest apart.0.2 apart.1)
    ] refl

pub all-short : (sorted : List Span) → AreApart sorted → AllByRecursion IsShort (joined sorted)
all-short [] apart = tt
all-short (last ∷ rest) apart = rest-short last rest apart.0.2 apart.1
