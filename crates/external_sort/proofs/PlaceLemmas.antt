-- Records that stand in a buffer.
use Rattle.std.proofs.Common.{◌≡◌, ◌∙◌, sym, ap, subst, refl, suc, ℕ, ◌+◌, ◌-◌, ◌<◌, ◌≤◌, false, List, [], ◌∷◌, ◌++◌, length, get_or, map, take, arith, slice_range, append-nil, length-append, is_lt}
use Rattle.std.specs.List.{All, flat_map, sum_by}
use Rattle.std.specs.List.Sorted.{IsPermutation, IsSortedByKey}
use Rattle.std.specs.Cmp.Lexicographic.{slice_cmp}
use Rattle.std.specs.Ordering.{nat_cmp}
use Rattle.std.proofs.lemmas.Cmp.{nat_list_cmp_total}
use Rattle.std.proofs.lemmas.List.{flat_map_more, map_more, map_push}
use Rattle.std.proofs.lemmas.List.Elements.{All-get_or, All-head, All-map, All-push, All-tail, All-weaker, recursion_from_All}
use Rattle.std.proofs.lemmas.List.Sorted.{All-permutation, ranks_by, sorted_far, sum_by-IsPermutation}
use Rattle.std.proofs.lemmas.List.Sums.{sum_by-append, sum_by-cons}
use Rattle.external_sort.specs.Records.{Entry, Fits, Rises, entry, is_below}
use Rattle.external_sort.specs.internal.Places.{IsBatch, IsPlace, entry_at, key_at, place_after, place_len}
use Rattle.external_sort.specs.internal.Spelling.{spelled}
use Rattle.external_sort.specs.declared.place.Place.{Place}
use Rattle.external_sort.proofs.Parts.{length_part, part_grows, seam}
use Rattle.external_sort.proofs.SpellingLemmas.{key_there, spelled_len, value_there}

pub place_spelled_len : (bytes : List ℕ) (p : Place) → IsPlace bytes p → length (spelled (entry_at bytes p)) ≡ place_len p
place_spelled_len bytes p h = ap length (sym h.text) ∙ length_part bytes (p.key_start - 6) p.end h.within

-- the records take what their places say
pub total_len : (bytes : List ℕ) (ps : List Place) → All (IsPlace bytes) ps → length (flat_map spelled (map (entry_at bytes) ps)) ≡ sum_by place_len ps
total_len bytes [] h = refl
total_len bytes (p ∷ ps) h =
    let here = place_spelled_len bytes p (All-head (IsPlace bytes) p ps h) in
    let later = total_len bytes ps (All-tail (IsPlace bytes) p ps h) in
    omega (arith, length-append (spelled (entry_at bytes p)) (flat_map spelled (map (entry_at bytes) ps)), here, later, sum_by-cons place_len p ps)

pub batch_sorted : (bytes : List ℕ) (ps qs : List Place) → IsBatch bytes ps → IsPermutation ps qs → IsBatch bytes qs
batch_sorted bytes ps qs h perm = record {
  each = All-permutation (IsPlace bytes) ps qs perm h.each;
  whole = sum_by-IsPermutation place_len ps qs perm ∙ h.whole;
}

pub batch_fits : (bytes : List ℕ) (ps : List Place) → IsBatch bytes ps → All Fits (map (entry_at bytes) ps)
batch_fits bytes ps h = All-map Fits (entry_at bytes) ps (All-weaker (IsPlace bytes) (λ p. Fits (entry_at bytes p)) (λ p at. at.fits) ps h.each)

sorted_tail : (bytes : List ℕ) (p : Place) (ps : List Place) → IsSortedByKey (key_at bytes) (slice_cmp nat_cmp) (p ∷ ps) → IsSortedByKey (key_at bytes) (slice_cmp nat_cmp) ps
sorted_tail bytes p ps up k d low high =
    let e : suc k + 1 ≡ suc (k + 1) = omega arith in
    let lt : suc k + 1 < length (p ∷ ps) = omega arith in
    subst (λ (n : ℕ). is_lt (slice_cmp nat_cmp (key_at bytes (get_or (p ∷ ps) n d)) (key_at bytes (get_or ps k d))) ≡ false) e (up (suc k) d (omega arith) lt)

below_none : (bytes : List ℕ) (p : Place) (ps : List Place) → IsSortedByKey (key_at bytes) (slice_cmp nat_cmp) (p ∷ ps) → All (λ q. is_below (entry_at bytes q) (entry_at bytes p) ≡ false) ps
below_none bytes p ps up k d lt = sorted_far (λ (a b : Place). is_lt (slice_cmp nat_cmp (key_at bytes a) (key_at bytes b))) (ranks_by nat_list_cmp_total (key_at bytes)) (p ∷ ps) up 0 (suc k) d (omega arith) (omega arith)

pub rises_sorted : (bytes : List ℕ) (ps : List Place) → IsSortedByKey (key_at bytes) (slice_cmp nat_cmp) ps → Rises (map (entry_at bytes) ps)
rises_sorted bytes [] up = tt
rises_sorted bytes (p ∷ ps) up = (
  recursion_from_All (λ f. is_below f (entry_at bytes p) ≡ false) (map (entry_at bytes) ps) (All-map (λ f. is_below f (entry_at bytes p) ≡ false) (entry_at bytes) ps (below_none bytes p ps up)),
  rises_sorted bytes ps (sorted_tail bytes p ps up),
)

-- more bytes after the records
pub entry_grows : (bytes more : List ℕ) (p : Place) → IsPlace bytes p → entry_at (bytes ++ more) p ≡ entry_at bytes p
entry_grows bytes more p h =
    let value_in : p.value_start ≤ length bytes = omega (arith, h.high, h.within) in
    let key = part_grows bytes more p.key_start p.value_start h.value value_in in
    let value = part_grows bytes more p.value_start p.end h.high h.within in
    ap (λ (k : List ℕ). entry k (slice_range (bytes ++ more) p.value_start p.end)) key ∙ ap (λ (v : List ℕ). entry (key_at bytes p) v) value

pub place_grows : (bytes more : List ℕ) (p : Place) → IsPlace bytes p → IsPlace (bytes ++ more) p
place_grows bytes more p h =
    let same = entry_grows bytes more p h in
    let up : p.key_start - 6 ≤ p.end = omega (arith, h.value, h.high) in
    record {
      low = h.low;
      value = h.value;
      high = h.high;
      within = omega (arith, h.within, length-append bytes more);
      text = part_grows bytes more (p.key_start - 6) p.end up h.within ∙ h.text ∙ ap spelled (sym same);
      fits = subst (λ (e : Entry). Fits e) (sym same) h.fits;
    }

pub entries_grow : (bytes more : List ℕ) (ps : List Place) → All (IsPlace bytes) ps → map (entry_at (bytes ++ more)) ps ≡ map (entry_at bytes) ps
entries_grow bytes more [] h = refl
entries_grow bytes more (p ∷ ps) h =
    ap (λ (e : Entry). e ∷ map (entry_at (bytes ++ more)) ps) (entry_grows bytes more p (All-head (IsPlace bytes) p ps h)) ∙ ap (λ (es : List Entry). entry_at bytes p ∷ es) (entries_grow bytes more ps (All-tail (IsPlace bytes) p ps h))

-- a record after the others
pub entry_there : (bytes : List ℕ) (e : Entry) → entry_at (bytes ++ spelled e) (place_after (length bytes) (length e.key) (length e.value)) ≡ e
entry_there bytes e =
    let nil : bytes ++ spelled e ≡ bytes ++ (spelled e ++ []) = ap (λ (l : List ℕ). bytes ++ l) (sym (append-nil (spelled e))) in
    let at = place_after (length bytes) (length e.key) (length e.value) in
    ap (λ (l : List ℕ). entry_at l at) nil ∙ ap (λ (k : List ℕ). entry k (slice_range (bytes ++ (spelled e ++ [])) at.value_start at.end)) (key_there bytes e []) ∙ ap (λ (v : List ℕ). entry e.key v) (value_there bytes e [])

pub place_there : (bytes : List ℕ) (e : Entry) → Fits e → IsPlace (bytes ++ spelled e) (place_after (length bytes) (length e.key) (length e.value))
place_there bytes e fits =
    let same = entry_there bytes e in
    let at = place_after (length bytes) (length e.key) (length e.value) in
    let start : at.key_start - 6 ≡ length bytes = omega arith in
    let nil : bytes ++ spelled e ≡ bytes ++ (spelled e ++ []) = ap (λ (l : List ℕ). bytes ++ l) (sym (append-nil (spelled e))) in
    let long : length bytes + length (spelled e) ≡ at.end = omega (arith, spelled_len e) in
    let whole : slice_range (bytes ++ spelled e) (length bytes) at.end ≡ spelled e =
    ap (λ (l : List ℕ). slice_range l (length bytes) at.end) nil ∙ seam bytes (spelled e) [] (length bytes) at.end refl long in
    record {
      low = omega arith;
      value = omega arith;
      high = omega arith;
      within = omega (arith, length-append bytes (spelled e), spelled_len e);
      text = ap (λ (n : ℕ). slice_range (bytes ++ spelled e) n at.end) start ∙ whole ∙ ap spelled (sym same);
      fits = subst (λ (f : Entry). Fits f) (sym same) fits;
    }

pub batch_pushed : (bytes : List ℕ) (ps : List Place) (e : Entry) → IsBatch bytes ps → Fits e → IsBatch (bytes ++ spelled e) (ps ++ place_after (length bytes) (length e.key) (length e.value) ∷ [])
batch_pushed bytes ps e h fits =
    let at = place_after (length bytes) (length e.key) (length e.value) in
    let old = All-weaker (IsPlace bytes) (IsPlace (bytes ++ spelled e)) (place_grows bytes (spelled e)) ps h.each in
    let more : place_len at ≡ 6 + length e.key + length e.value = omega arith in
    record {
      each = All-push (IsPlace (bytes ++ spelled e)) ps at old (place_there bytes e fits);
      whole = omega (arith, sum_by-append place_len ps (at ∷ []), sum_by-cons place_len at [], h.whole, more, length-append bytes (spelled e), spelled_len e);
    }

pub entries_pushed : (bytes : List ℕ) (ps : List Place) (e : Entry) → IsBatch bytes ps → map (entry_at (bytes ++ spelled e)) (ps ++ place_after (length bytes) (length e.key) (length e.value) ∷ []) ≡ map (entry_at bytes) ps ++ e ∷ []
entries_pushed bytes ps e h =
    let at = place_after (length bytes) (length e.key) (length e.value) in
    map_push (entry_at (bytes ++ spelled e)) ps at
    ∙ ap (λ (es : List Entry). es ++ entry_at (bytes ++ spelled e) at ∷ []) (entries_grow bytes (spelled e) ps h.each)
    ∙ ap (λ (f : Entry). map (entry_at bytes) ps ++ f ∷ []) (entry_there bytes e)

-- one record more is written
pub one_more : (bytes : List ℕ) (ps : List Place) (i : ℕ) (d : Place) (before : List ℕ) → All (IsPlace bytes) ps → i < length ps
    → (before ++ flat_map spelled (map (entry_at bytes) (take i ps))) ++ slice_range bytes ((get_or ps i d).key_start - 6) (get_or ps i d).end ≡ before ++ flat_map spelled (map (entry_at bytes) (take (i + 1) ps))
one_more bytes ps i d before h lt =
    let p = get_or ps i d in
    let text = (All-get_or (IsPlace bytes) ps i d lt h).text in
    ap (λ (l : List ℕ). (before ++ flat_map spelled (map (entry_at bytes) (take i ps))) ++ l) text
    ∙ flat_map_more spelled before (map (entry_at bytes) (take i ps)) (entry_at bytes p)
    ∙ ap (λ (es : List Entry). before ++ flat_map spelled es) (sym (map_more (entry_at bytes) ps i d lt))
