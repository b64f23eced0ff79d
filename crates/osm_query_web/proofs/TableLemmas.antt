-- Reading a table from its front.
use Rattle.std.proofs.Common.{◌≡◌, ◌∙◌, append-nil, ℕ, ◌+◌, ◌-◌, ◌%◌, ◌^◌, ◌<◌, ◌≤◌, ◌↔◌, List, [], ◌∷◌, ◌++◌, append_assoc, ap, arith, drop, length, length-drop, min, subst, sym}
use Rattle.osm_query_web.proofs.SpanLemmas.{spans_in-long, spans_in-short}
use Rattle.osm_query_web.specs.Pieces.{AreApart, IsTable, total_len}
use Rattle.osm_query_web.specs.Spans.{FitsSize, first_span, spans_in}
use Rattle.osm_query_web.specs.declared.piece.Piece.{Piece}
use Rattle.osm_query_web.specs.declared.span.Span.{Span}
use Rattle.osm_query_web.specs.internal.Reading.{pieces_from}

-- what is left of a table is that of pieces, none of which begins before `least`, and that have the bytes that aren't taken
pub record IsRest (size len least taken : ℕ) (left : List ℕ) : Type 0 where
  pub whole : length left % 16 ≡ 0
  pub apart : AreApart size least (spans_in left)
  pub len_is : taken + total_len (spans_in left) ≡ len

-- the largest number of eight bytes
abbrev pub most : ℕ
most = 2 ^ 64 - 1

-- a piece begins no later than the last byte, so it makes no difference that the number stops there
apart_from : (size least : ℕ) → size < 2 ^ 64 → (spans : List Span) → AreApart size (min least most) spans ↔ AreApart size least spans
apart_from size least short [] = (λ all. all, λ all. all)
apart_from size least short (span ∷ spans) = (
  (λ all. (omega (arith, all.0, all.1, all.2), all.1, all.2, all.3)),
  (λ all. (omega (arith, all.0), all.1, all.2, all.3)),
)

module _ (size len least taken : ℕ) (left rest : List ℕ) (span : Span) (long : 16 ≤ length left) (is : span ≡ first_span left) (rest_is : rest ≡ drop 16 left) where
  spans_are : spans_in left ≡ span ∷ spans_in rest
  spans_are = spans_in-long left long ∙ ap (λ (s : Span). s ∷ spans_in (drop 16 left)) (sym is) ∙ ap (λ (l : List ℕ). span ∷ spans_in l) (sym rest_is)

  len_is : length rest ≡ length left - 16
  len_is = ap length rest_is ∙ length-drop 16 left

  -- the first one may stand where it does,
  pub first_stands : IsRest size len least taken left → (least ≤ span.start) × (0 < span.len) × FitsSize size span
  first_stands are =
      let apart = subst (AreApart size least) spans_are are.apart in (apart.0, apart.1, apart.2)

  -- and if it may, what is left is a table just if what is left after it is one
  pub one_less : size < 2 ^ 64 → (least ≤ span.start) × (0 < span.len) × FitsSize size span
      → IsRest size len (min (span.start + span.len + 1) most) (taken + span.len) rest ↔ IsRest size len least taken left
  one_less short stands = (
    (λ after. record {
      whole = omega (arith, after.whole, len_is);
      apart = subst (AreApart size least) (sym spans_are) (stands.0, stands.1, stands.2, (apart_from size (span.start + span.len + 1) short (spans_in rest)).0 after.apart);
      len_is = omega (arith, after.len_is, ap total_len spans_are);
    }),
    (λ before. record {
      whole = omega (arith, before.whole, len_is);
      apart = (let apart = subst (AreApart size least) spans_are before.apart in (apart_from size (span.start + span.len + 1) short (spans_in rest)).1 apart.3);
      len_is = omega (arith, before.len_is, ap total_len spans_are);
    }),
  )

-- where nothing is left for a piece, it is one if nothing is left, and all bytes are taken
pub ended : (size len least taken : ℕ) (left : List ℕ) → length left < 16 → IsRest size len least taken left ↔ ((length left ≡ 0) × (taken ≡ len))
ended size len least taken left short =
    let none = spans_in-short left short in (
      (λ are. (omega (arith, are.whole), omega (arith, are.len_is, ap total_len none))),
      (λ done. record {
        whole = omega (arith, done.0);
        apart = subst (AreApart size least) (sym none) tt;
        len_is = omega (arith, done.1, ap total_len none);
      }),
    )

-- the whole table is what is left before the first
pub at_first : (size len : ℕ) (table : List ℕ) → IsRest size len 0 0 table ↔ IsTable size len table
at_first size len table = (
  (λ are. record { whole = are.whole; apart = are.apart; len_is = omega (arith, are.len_is) }),
  (λ are. record { whole = are.whole; apart = are.apart; len_is = omega (arith, are.len_is) }),
)

-- ---- listing

-- These pieces and those that are left of the table are all of them, and the bytes of those that are left begin at `at`.
pub record IsListed (table : List ℕ) (pieces : List Piece) (at : ℕ) (left : List ℕ) : Type 0 where
  pub all : pieces ++ pieces_from at (spans_in left) ≡ pieces_from 0 (spans_in table)
  pub total : at + total_len (spans_in left) ≡ total_len (spans_in table)

module _ (table : List ℕ) (pieces : List Piece) (at : ℕ) (left rest : List ℕ) (span : Span) (long : 16 ≤ length left) (is : span ≡ first_span left) (rest_is : rest ≡ drop 16 left) (are : IsListed table pieces at left) where
  next_are : spans_in left ≡ span ∷ spans_in rest
  next_are = spans_in-long left long ∙ ap (λ (s : Span). s ∷ spans_in (drop 16 left)) (sym is) ∙ ap (λ (l : List ℕ). span ∷ spans_in l) (sym rest_is)

  pub next_fits : at + span.len ≤ total_len (spans_in table)
  next_fits = omega (arith, are.total, ap total_len next_are)

  pub one_more_listed : IsListed table (pieces ++ record { span = span; at = at } ∷ []) (at + span.len) rest
  one_more_listed = record {
    all = append_assoc pieces (record { span = span; at = at } ∷ []) (pieces_from (at + span.len) (spans_in rest)) ∙ ap (λ (spans : List Span). pieces ++ pieces_from at spans) (sym next_are) ∙ are.all;
    total = omega (arith, are.total, ap total_len next_are);
  }

pub all_listed : (table : List ℕ) (pieces : List Piece) (at : ℕ) (left : List ℕ) → length left < 16 → IsListed table pieces at left → pieces ≡ pieces_from 0 (spans_in table)
all_listed table pieces at left short are =
    sym (append-nil pieces) ∙ ap (λ (spans : List Span). pieces ++ pieces_from at spans) (sym (spans_in-short left short)) ∙ are.all
