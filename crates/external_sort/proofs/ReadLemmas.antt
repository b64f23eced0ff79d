-- Reading on in a run.
use Rattle.std.proofs.Common.{◌≡◌, ◌∙◌, sym, ap, refl, ℕ, ◌+◌, ◌≤◌, true, List, [], ◌∷◌, ◌++◌, length, take, drop, arith, slice_range, append_assoc, length-append}
use Rattle.std.specs.List.{All, flat_map}
use Rattle.std.specs.Int.{w16, w32, from_be_bytes}
use Rattle.std.proofs.lemmas.List.{drop-drop, drop_all, take-append-drop}
use Rattle.std.proofs.lemmas.List.Elements.{All-head}
use Rattle.external_sort.specs.Records.{Entry, Fits, entry}
use Rattle.external_sort.specs.Runs.{run_at}
use Rattle.external_sort.specs.internal.Reading.{HasLeft, Moves, head, rest}
use Rattle.external_sort.specs.internal.Spelling.{spelled}
use Rattle.external_sort.specs.declared.run_reader.RunReader.{RunReader}
use Rattle.external_sort.proofs.SpellingLemmas.{Parsed, key_len_read, parsed, spelled_len, value_len_read}

-- what is read goes from what is left to the window
pub read_on : (w run : List ℕ) (o n : ℕ) → (w ++ take n (drop o run)) ++ drop (o + n) run ≡ w ++ drop o run
read_on w run o n =
    append_assoc w (take n (drop o run)) (drop (o + n) run)
    ∙ ap (λ (l : List ℕ). w ++ (take n (drop o run) ++ l)) (sym (drop-drop n o run))
    ∙ ap (λ (l : List ℕ). w ++ l) (take-append-drop n (drop o run))

none_spelled : (es : List Entry) → flat_map spelled es ≡ [] → es ≡ []
none_spelled [] h = refl
none_spelled (e ∷ es) h = absurd (omega (arith, ap length h, length-append (spelled e) (flat_map spelled es), spelled_len e))

-- nothing is read and nothing is left
pub at_end : (runs : List (List ℕ)) (r : RunReader) (es : List Entry) → HasLeft runs r es → drop r.record_end r.window ≡ [] → r.len ≤ r.offset → es ≡ []
at_end runs r es h empty past =
    let none : drop r.offset (run_at r.run runs) ≡ [] = drop_all r.offset (run_at r.run runs) (omega (arith, h.len)) in
    none_spelled es (sym h.text ∙ ap (λ (l : List ℕ). l ++ drop r.offset (run_at r.run runs)) empty ∙ none)

head_is : (r : RunReader) (e : Entry) (after tail : List ℕ) → r.key_end ≡ 6 + length e.key → r.record_end ≡ 6 + length e.key + length e.value → Parsed r.window after e tail → head r ≡ e
head_is r e after tail ke re p =
    ap (λ (n : ℕ). entry (slice_range r.window 6 n) (slice_range r.window n r.record_end)) ke
    ∙ ap (λ (n : ℕ). entry (slice_range r.window 6 (6 + length e.key)) (slice_range r.window (6 + length e.key) n)) re
    ∙ ap (λ (k : List ℕ). entry k (slice_range r.window (6 + length e.key) (6 + length e.key + length e.value))) p.key
    ∙ ap (λ (v : List ℕ). entry e.key v) p.value

-- the first window has the lengths, the second one the record
pub moved : (runs : List (List ℕ)) (r s : RunReader) (w after : List ℕ) (es : List Entry) → All Fits es → HasLeft runs r es
    → w ++ after ≡ drop r.record_end r.window ++ drop r.offset (run_at r.run runs)
    → 6 ≤ length w
    → s.key_end ≡ 6 + from_be_bytes w16 (take 2 w)
    → s.record_end ≡ s.key_end + from_be_bytes w32 (take 4 (drop 2 w))
    → s.record_end ≤ length s.window
    → rest runs s ≡ w ++ after
    → s.run ≡ r.run → s.len ≡ r.len
    → Moves true runs s es
moved runs r s w after [] fit h same long key end within rest_is run len =
    absurd (omega (arith, ap length (same ∙ h.text), length-append w after))
moved runs r s w after (e ∷ es) fit h same long key end within rest_is run len =
    let fits = All-head Fits e es fit in
    let tail = flat_map spelled es in
    let text : w ++ after ≡ spelled e ++ tail = same ∙ h.text in
    let kl = key_len_read w after e tail fits text long in
    let vl = value_len_read w after e tail fits text long in
    let ke : s.key_end ≡ 6 + length e.key = key ∙ ap (λ (n : ℕ). 6 + n) kl in
    let re : s.record_end ≡ 6 + length e.key + length e.value = omega (arith, end, ke, vl) in
    let left = drop s.offset (run_at s.run runs) in
    let p = parsed s.window left e tail (rest_is ∙ text) (omega (arith, re, within)) in (
      es,
      ap (λ (f : Entry). f ∷ es) (sym (head_is s e left tail ke re p)),
      record {
        text = ap (λ (n : ℕ). drop n s.window ++ left) re ∙ p.left;
        len = len ∙ h.len ∙ ap (λ (n : ℕ). length (run_at n runs)) (sym run);
      },
    )

-- ---- what a store has to give

-- where something is left, the lengths of a record are
pub header_there : (runs : List (List ℕ)) (r : RunReader) (w : List ℕ) (es : List Entry) → HasLeft runs r es → w ≡ drop r.record_end r.window → 1 ≤ length (w ++ drop r.offset (run_at r.run runs))
    → 6 ≤ length (w ++ drop r.offset (run_at r.run runs))
header_there runs r w es h is some = at es (ap (λ (l : List ℕ). l ++ drop r.offset (run_at r.run runs)) is ∙ h.text)
  where
    at : (fs : List Entry) → w ++ drop r.offset (run_at r.run runs) ≡ flat_map spelled fs → 6 ≤ length (w ++ drop r.offset (run_at r.run runs))
    at [] e = absurd (omega (arith, some, ap length e))
    at (f ∷ fs) e = omega (arith, ap length e, length-append (spelled f) (flat_map spelled fs), spelled_len f)

-- where its lengths were read, the whole record is
pub record_there : (runs : List (List ℕ)) (r : RunReader) (w after : List ℕ) (key_end record_end : ℕ) (es : List Entry) → All Fits es → HasLeft runs r es
    → w ++ after ≡ drop r.record_end r.window ++ drop r.offset (run_at r.run runs)
    → 6 ≤ length w
    → key_end ≡ 6 + from_be_bytes w16 (take 2 w)
    → record_end ≡ key_end + from_be_bytes w32 (take 4 (drop 2 w))
    → record_end ≤ length (w ++ after)
record_there runs r w after key_end record_end [] fit h same long key end =
    absurd (omega (arith, ap length (same ∙ h.text), length-append w after, long))
record_there runs r w after key_end record_end (e ∷ es) fit h same long key end =
    let fits = All-head Fits e es fit in
    let tail = flat_map spelled es in
    let text : w ++ after ≡ spelled e ++ tail = same ∙ h.text in
    let kl = key_len_read w after e tail fits text long in
    let vl = value_len_read w after e tail fits text long in
    omega (arith, key, end, kl, vl, ap length text, length-append (spelled e) tail, spelled_len e)
