-- Pieces: which one has a span, and whose bytes they are.
use Rattle.std.proofs.Common.{◌≡◌, ◌∙◌, ℕ, zero, suc, ◌+◌, ◌-◌, ◌<◌, ◌≤◌, ◌⊎◌, inl, inr, List, [], ◌∷◌, ◌++◌, Bool, true, false, not, Option, Some, None, ◌↔◌, IsTrue, is_some, nat_le, append_assoc, ap, arith, drop, get_or, length, length-append, length-drop, refl, subst, sym, take}
use Rattle.std.proofs.lemmas.Bool.{cases_lt, false≢true, leb-false, leb-true}
use Rattle.std.proofs.lemmas.List.{drop-drop, drop-take, drop_at, length-take-le, take-take, take_at}
use Rattle.std.proofs.lemmas.List.Sorted.{IsNonDecreasingBy-from_all_adjacent, IsPartitionedBy-leb}
use Rattle.std.specs.List.{AllAdjacentBelow, AllByRecursion, Contains, flat_map}
use Rattle.std.specs.List.Sorted.{IsNonDecreasingBy, IsPartitionPoint, IsPartitionedBy}
use Rattle.std.specs.Option.{IfNone, IfSome}
use Rattle.osm_keys.proofs.shared.Members.{first_or_in_rest}
use Rattle.osm_query_web.specs.Pieces.{AreApart, IsMissing, IsPartsOf, IsWanted, total_len}
use Rattle.osm_query_web.specs.Spans.{Has, FitsSize, in_span}
use Rattle.osm_query_web.specs.declared.piece.Piece.{Piece}
use Rattle.osm_query_web.specs.declared.pieces.Pieces.{Pieces}
use Rattle.osm_query_web.specs.declared.span.Span.{Span}
use Rattle.osm_query_web.specs.internal.Reading.{AreOf, ArePiecesOf, IsPieceOf, pieces_from}

-- ---- lists

-- what is so of each of a list is so of what it contains
pub of_each : {X : Type 0} (P : X → Type 0) (xs : List X) (x : X) → AllByRecursion P xs → Contains xs x → P x
of_each P [] x all has = absurd (omega (arith, has.1))
of_each P (y ∷ xs) x all has = elim (first_or_in_rest y xs x has) [ inl same ↦ subst P same all.0 | inr more ↦ of_each P xs x all.1 more ]

-- what is so at each index is so of each
each_of : {X : Type 0} (P : X → Type 0) (xs : List X) → ((k : ℕ) (d : X) → k < length xs → P (get_or xs k d)) → AllByRecursion P xs
each_of P [] at = tt
each_of P (x ∷ xs) at = (at 0 x (omega arith), each_of P xs (λ k d lt. at (suc k) d (omega arith)))

-- ---- which one has a span

-- the end of the first is before the start of the second
abbrev IsBefore : Piece → Piece → Type 0
IsBefore a b = a.span.start + a.span.len < b.span.start

next_after : (size least at : ℕ) (spans : List Span) → AreApart size least spans → (k : ℕ) (d : Piece) → suc k < length (pieces_from at spans)
    → IsBefore (get_or (pieces_from at spans) k d) (get_or (pieces_from at spans) (suc k) d)
next_after size least at [] all k d lt = absurd (omega arith)
next_after size least at (span ∷ []) all k d lt = absurd (omega arith)
next_after size least at (span ∷ (other ∷ spans)) all zero d lt = omega (arith, all.3.0)
next_after size least at (span ∷ (other ∷ spans)) all (suc k) d lt = next_after size (span.start + span.len + 1) (at + span.len) (other ∷ spans) all.3 k d (omega arith)

one_more : (k : ℕ) → suc k ≡ k + 1
one_more k = omega arith

apart_pieces : (size least at : ℕ) (spans : List Span) → AreApart size least spans → AllAdjacentBelow IsBefore (pieces_from at spans) (length (pieces_from at spans))
apart_pieces size least at spans all k d lt =
    subst (λ (n : ℕ). IsBefore (get_or (pieces_from at spans) k d) (get_or (pieces_from at spans) n d)) (one_more k) (next_after size least at spans all k d (omega arith))

-- each is before the next
abbrev AreApartIn : List Piece → Type 0
AreApartIn pieces = AllAdjacentBelow IsBefore pieces (length pieces)

apart_in : (spans : List Span) (pieces : Pieces) → AreOf spans pieces → AreApartIn pieces.pieces.items
apart_in spans pieces are = subst AreApartIn (sym are.are) (apart_pieces pieces.size 0 0 spans are.apart)

starts_rise : (pieces : List Piece) → AreApartIn pieces → IsNonDecreasingBy (λ (piece : Piece). piece.span.start) pieces
starts_rise pieces apart =
    IsNonDecreasingBy-from_all_adjacent (λ (piece : Piece). piece.span.start) pieces (λ k d lt. omega (arith, apart k d lt))

-- it begins there or before
abbrev pub begins_by : ℕ → Piece → Bool
begins_by start piece = nat_le piece.span.start start

-- just so many at the front begin there or before
abbrev pub IsBegun : ℕ → List Piece → ℕ → Type 0
IsBegun start pieces count = IsPartitionPoint (λ (piece : Piece). begins_by start piece ≡ true) (λ (piece : Piece). begins_by start piece ≡ false) pieces count

-- those that do are at the front
pub begun_first : (spans : List Span) (pieces : Pieces) (list : List Piece) (start : ℕ) → AreOf spans pieces → list ≡ pieces.pieces.items → IsPartitionedBy (begins_by start) list
begun_first spans pieces list start are is =
    IsPartitionedBy-leb (λ (piece : Piece). piece.span.start) list start (starts_rise list (subst AreApartIn (sym is) (apart_in spans pieces are)))

-- where a search found how many begin at a place or before it, no piece has all of a span from there on but the last of them
none_has : (pieces : List Piece) (wanted : Span) (count : ℕ) → AreApartIn pieces → IsBegun wanted.start pieces count → count ≤ length pieces
    → ((d : Piece) → 0 < count → ¬ Has (get_or pieces (count - 1) d).span wanted)
    → AllByRecursion (λ (p : Piece). ¬ Has p.span wanted) pieces
none_has pieces wanted count apart point within last = each_of (λ (p : Piece). ¬ Has p.span wanted) pieces none
  where
    before : (k : ℕ) (d : Piece) → k + 1 < count → ¬ Has (get_or pieces k d).span wanted
    before k d lt has =
        let next = apart k d (omega arith) in
        let starts = leb-true _ _ (point.0 (k + 1) d (omega arith) lt) in
        absurd (omega (arith, has.0, has.1, next, starts))

    after : (k : ℕ) (d : Piece) → count ≤ k → k < length pieces → ¬ Has (get_or pieces k d).span wanted
    after k d le lt has = let starts = leb-false _ _ (point.1 k d le lt) in absurd (omega (arith, has.0, starts))

    here : (k : ℕ) (d : Piece) → k + 1 ≡ count → ¬ Has (get_or pieces k d).span wanted
    here k d is = let same : count - 1 ≡ k = omega arith in subst (λ (n : ℕ). ¬ Has (get_or pieces n d).span wanted) same (last d (omega arith))

    cases : (k : ℕ) (d : Piece) → k < length pieces → (k + 1 < count) ⊎ (count ≤ k + 1) → (k < count) ⊎ (count ≤ k) → ¬ Has (get_or pieces k d).span wanted
    cases k d lt (inl sooner) either = before k d sooner
    cases k d lt (inr later) (inl front) = here k d (omega arith)
    cases k d lt (inr later) (inr back) = after k d back lt

    none : (k : ℕ) (d : Piece) → k < length pieces → ¬ Has (get_or pieces k d).span wanted
    none k d lt = cases k d lt (cases_lt (k + 1) count) (cases_lt k count)

-- so none of the spans has it
spans_of : (P : Span → Type 0) (at : ℕ) (spans : List Span) → AllByRecursion (λ (p : Piece). P p.span) (pieces_from at spans) → AllByRecursion P spans
spans_of P at [] all = tt
spans_of P at (span ∷ spans) all = (all.0, spans_of P (at + span.len) spans all.1)

pieces_of : (P : Span → Type 0) (at : ℕ) (spans : List Span) → AllByRecursion P spans → AllByRecursion (λ (p : Piece). P p.span) (pieces_from at spans)
pieces_of P at [] all = tt
pieces_of P at (span ∷ spans) all = (all.0, pieces_of P (at + span.len) spans all.1)

none_of : (spans : List Span) (pieces : Pieces) (wanted : Span) → AreOf spans pieces → AllByRecursion (λ (p : Piece). ¬ Has p.span wanted) pieces.pieces.items
    → IsMissing spans wanted
none_of spans pieces wanted are none =
    spans_of (λ (span : Span). ¬ Has span wanted) 0 spans (subst (λ (l : List Piece). AllByRecursion (λ (p : Piece). ¬ Has p.span wanted) l) are.are none)

pub missing_if : (spans : List Span) (pieces : Pieces) (wanted : Span) (list : List Piece) (count : ℕ) → AreOf spans pieces → list ≡ pieces.pieces.items → IsBegun wanted.start list count → count ≤ length list
    → ((d : Piece) → 0 < count → ¬ Has (get_or pieces.pieces.items (count - 1) d).span wanted) → IsMissing spans wanted
missing_if spans pieces wanted list count are is begun within last =
    let begun_here = subst (λ (l : List Piece). IsBegun wanted.start l count) is begun in
    none_of spans pieces wanted are (none_has pieces.pieces.items wanted count (apart_in spans pieces are) begun_here (omega (arith, ap length is)) last)

-- a piece that has it is one of the spans
some_of : (spans : List Span) (pieces : Pieces) (wanted : Span) (piece : Piece) → AreOf spans pieces → Contains pieces.pieces.items piece → Has piece.span wanted
    → ¬ IsMissing spans wanted
some_of spans pieces wanted piece are among has none =
    let all = subst (λ (l : List Piece). AllByRecursion (λ (p : Piece). ¬ Has p.span wanted) l) (sym are.are) (pieces_of (λ (span : Span). ¬ Has span wanted) 0 spans none) in
    of_each (λ (p : Piece). ¬ Has p.span wanted) pieces.pieces.items piece all among has

-- so a span is wanted just where none has it
pub wanted_if : (spans : List Span) (pieces : Pieces) (span : Span) (holder : Option Piece) (none : Bool) → AreOf spans pieces → 0 < span.len → FitsSize pieces.size span → is_some holder ≡ not none
    → IfSome holder (λ piece. Contains pieces.pieces.items piece × Has piece.span span) → IfNone holder (IsMissing spans span)
    → IsTrue none ↔ IsWanted pieces.size spans span
wanted_if spans pieces span (Some piece) false are some within is found missing = ((λ yes. absurd (false≢true yes)), (λ wanted. absurd (some_of spans pieces span piece are found.0 found.1 wanted.missing)))
wanted_if spans pieces span (Some piece) true are some within is found missing = cc
wanted_if spans pieces span None false are some within is found missing = cc
wanted_if spans pieces span None true are some within is found missing = ((λ yes. record { some = some; within = within; missing = missing }), (λ wanted. refl))

-- ---- whose bytes they are

-- each piece ends within all the bytes
ends : (at : ℕ) (spans : List Span) → AllByRecursion (λ (p : Piece). p.at + p.span.len ≤ at + total_len spans) (pieces_from at spans)
ends at [] = tt
ends at (span ∷ spans) =
    let longer : (at + span.len) + total_len spans ≡ at + total_len (span ∷ spans) = omega arith in
    (omega arith, subst (λ (n : ℕ). AllByRecursion (λ (p : Piece). p.at + p.span.len ≤ n) (pieces_from (at + span.len) spans)) longer (ends (at + span.len) spans))

pub ends_within : (spans : List Span) (pieces : Pieces) (piece : Piece) → AreOf spans pieces → total_len spans ≡ length pieces.bytes.now → Contains pieces.pieces.items piece → piece.at + piece.span.len ≤ length pieces.bytes.now
ends_within spans pieces piece are len among =
    let all = subst (λ (l : List Piece). AllByRecursion (λ (p : Piece). p.at + p.span.len ≤ 0 + total_len spans) l) (sym are.are) (ends 0 spans) in
    omega (arith, of_each (λ (p : Piece). p.at + p.span.len ≤ 0 + total_len spans) pieces.pieces.items piece all among, len)

in_span_len : (file : List ℕ) (span : Span) → span.start + span.len ≤ length file → length (in_span file span) ≡ span.len
in_span_len file span within = length-take-le span.len (drop span.start file) (omega (arith, length-drop span.start file))

each_piece : (file front bytes : List ℕ) (size least at : ℕ) (spans : List Span) → length file ≡ size → length front ≡ at → AreApart size least spans
    → bytes ≡ front ++ flat_map (in_span file) spans → AllByRecursion (IsPieceOf bytes file) (pieces_from at spans)
each_piece file front bytes size least at [] size_is at_is all is = tt
each_piece file front bytes size least at (span ∷ spans) size_is at_is all is =
    let part = in_span file span in
    let more = flat_map (in_span file) spans in
    let long : length part ≡ span.len = in_span_len file span (omega (arith, all.2)) in
    let whole = ap (λ (l : List ℕ). take span.len (drop at l)) is in
    let dropped = ap (λ (l : List ℕ). take span.len l) (drop_at front (part ++ more) at at_is) in
    let longer : length (front ++ part) ≡ at + span.len = omega (arith, length-append front part) in (
      whole ∙ dropped ∙ take_at part more span.len long,
      each_piece file (front ++ part) bytes size (span.start + span.len + 1) (at + span.len) spans size_is longer all.3 (is ∙ sym (append_assoc front part more)),
    )

-- the pieces that were read are those of each file of which the bytes are the parts
pub pieces_of_file : (size : ℕ) (bytes file : List ℕ) (spans : List Span) (pieces : Pieces) → pieces.size ≡ size → pieces.bytes.now ≡ bytes → AreOf spans pieces → IsPartsOf size spans bytes file → ArePiecesOf pieces file
pieces_of_file size bytes file spans pieces size_is bytes_are are parts = record {
  size_is = parts.size_is ∙ sym size_is;
  each =
      subst (λ (l : List Piece). AllByRecursion (IsPieceOf pieces.bytes.now file) l) (sym are.are)
      (each_piece file [] pieces.bytes.now pieces.size 0 0 spans (parts.size_is ∙ sym size_is) refl are.apart (bytes_are ∙ parts.bytes_are));
}

-- a part of a part
sub : (x : List ℕ) (k len all : ℕ) → k + len ≤ all → take len (drop k (take all x)) ≡ take len (drop k x)
sub x k len all fits =
    let more : k + (all - k) ≡ all = omega arith in
    ap (λ (n : ℕ). take len (drop k (take n x))) (sym more) ∙ ap (λ (l : List ℕ). take len l) (drop-take k (all - k) x) ∙ take-take len (all - k) (drop k x) (omega arith)

-- the bytes in a span that a piece has are those of the file
pub part_of : (bytes file : List ℕ) (piece : Piece) (wanted : Span) → Has piece.span wanted → IsPieceOf bytes file piece
    → take wanted.len (drop (piece.at + (wanted.start - piece.span.start)) bytes) ≡ in_span file wanted
part_of bytes file piece wanted has is =
    let k = wanted.start - piece.span.start in
    let len = wanted.len in
    let fits : k + len ≤ piece.span.len = omega (arith, has.0, has.1) in
    let there : piece.span.start + k ≡ wanted.start = omega (arith, has.0) in
    ap (λ (l : List ℕ). take len l) (sym (drop-drop k piece.at bytes)) ∙ sym (sub (drop piece.at bytes) k len piece.span.len fits)
    ∙ ap (λ (l : List ℕ). take len (drop k l)) is ∙ sub (drop piece.span.start file) k len piece.span.len fits
    ∙ ap (λ (l : List ℕ). take len l) (drop-drop k piece.span.start file) ∙ ap (λ (n : ℕ). take len (drop n file)) there
