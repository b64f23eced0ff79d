-- The beginning of a merge.
use Rattle.std.proofs.Common.{◌≡◌, ◌∙◌, sym, ap, refl, ℕ, ◌+◌, ◌<◌, ◌≤◌, true, List, [], ◌∷◌, ◌++◌, length, get_or, drop, arith, None}
use Rattle.std.specs.List.{All, AllByRecursion, flat_map}
use Rattle.std.specs.List.Sorted.{IsPermutation}
use Rattle.std.specs.BinaryHeap.{IsHeap, heap_items}
use Rattle.std.specs.declared.collections.BinaryHeap.{BinaryHeap}
use Rattle.std.specs.declared.alloc.Global.{Global}
use Rattle.std.specs.Ordering.{nat_cmp}
use Rattle.std.proofs.lemmas.Cmp.{by_ranked, ranked}
use Rattle.std.proofs.lemmas.List.{get_or-map, get_or_past, length-map}
use Rattle.std.proofs.lemmas.List.Elements.{All-append, All-cons, All-nil}
use Rattle.std.proofs.lemmas.List.Sorted.{All-permutation, sum_by_pushed}
use Rattle.external_sort.specs.Records.{Entry, Fits, Rises}
use Rattle.external_sort.specs.Runs.{run_at}
use Rattle.external_sort.specs.internal.Merging.{AreRuns, Begins, Ready, Stands, entries, of_run, one_if}
use Rattle.external_sort.specs.internal.Reading.{Begun, HasLeft, Moves, head}
use Rattle.external_sort.specs.internal.Spelling.{spelled}
use Rattle.external_sort.specs.internal.Tagged.{UpTo, turns_of}
use Rattle.external_sort.specs.internal.Turns.{turn_cmp}
use Rattle.external_sort.specs.declared.run_reader.RunReader.{RunReader}
use Rattle.external_sort.proofs.MergeLemmas.{by_run, one_other, one_same}
use Rattle.external_sort.proofs.TurnLemmas.{entries_rise, turns_in_order, turns_of_run, turns_permutation}

text_at : (runs : List (List ℕ)) (lens : List ℕ) (kept : List (List Entry)) (i : ℕ) → AreRuns runs lens kept → i < length kept → run_at i runs ≡ flat_map spelled (get_or kept i [])
text_at runs lens kept i h lt = ap (λ (rs : List (List ℕ)). get_or rs i []) h.text ∙ get_or-map (λ (es : List Entry). flat_map spelled es) kept i [] [] lt

len_at : (runs : List (List ℕ)) (lens : List ℕ) (kept : List (List Entry)) (i : ℕ) → AreRuns runs lens kept → i < length kept → get_or lens i 0 ≡ length (run_at i runs)
len_at runs lens kept i h lt =
    ap (λ (l : List ℕ). get_or l i 0) h.long ∙ get_or-map (λ (es : List Entry). length (flat_map spelled es)) kept i [] 0 lt
    ∙ ap length (sym (text_at runs lens kept i h lt))

pub as_many : (runs : List (List ℕ)) (lens : List ℕ) (kept : List (List Entry)) → AreRuns runs lens kept → length lens ≡ length kept
as_many runs lens kept h = ap length h.long ∙ length-map kept (λ (es : List Entry). length (flat_map spelled es))

-- a reader before the first record has all of the run left
pub begun_left : (runs : List (List ℕ)) (lens : List ℕ) (kept : List (List Entry)) (i : ℕ) (r : RunReader) → AreRuns runs lens kept → i < length kept → Begun i (get_or lens i 0) r → HasLeft runs r (get_or kept r.run [])
begun_left runs lens kept i r h lt b =
    let nil : List ℕ = [] in
    let run = run_at r.run runs in
    let run_is : run ≡ flat_map spelled (get_or kept r.run []) = ap (λ (n : ℕ). run_at n runs) b.run ∙ text_at runs lens kept i h lt ∙ ap (λ (n : ℕ). flat_map spelled (get_or kept n [])) (sym b.run) in
    record {
      text = ap (λ (w : List ℕ). drop r.record_end w ++ drop r.offset run) b.window ∙ ap (λ (n : ℕ). drop n nil ++ drop r.offset run) b.end ∙ ap (λ (n : ℕ). drop n run) b.offset ∙ run_is;
      len = b.len ∙ len_at runs lens kept i h lt ∙ ap (λ (n : ℕ). length (run_at n runs)) (sym b.run);
    }

-- ---- one run more

pub begin_yes : (runs : List (List ℕ)) (kept : List (List Entry)) (i : ℕ) (s : RunReader) (rs us : List RunReader) → AllByRecursion Rises kept → UpTo runs kept i rs → s.run ≡ i → Moves true runs s (get_or kept i []) → IsPermutation (s ∷ rs) us → UpTo runs kept (i + 1) us
begin_yes runs kept i s rs us rise h run moves perm =
    let (left, first, has) = moves in
    let own : of_run s.run (turns_of kept) ≡ head s ∷ left = turns_of_run s.run kept rise ∙ ap (λ (n : ℕ). get_or kept n []) run ∙ first in
    let count = λ (n : ℕ). sum_by_pushed (one_if n) s rs us perm in
    record {
      at = All-permutation (Stands runs (turns_of kept)) (s ∷ rs) us perm (All-cons (Stands runs (turns_of kept)) s rs (left, own, has) h.at);
      once = λ n. by_run s.run n
          (λ holds same. omega (arith, count n, one_same n s holds, h.later n (omega (arith, same, run))))
          (λ fails. omega (arith, count n, one_other n s fails, h.once n));
      none = λ n lt e. by_run s.run n
          (λ holds _. absurd (omega (arith, count n, e, one_same n s holds)))
          (λ fails. let below : n < i = grind arith in h.none n below (omega (arith, count n, e)));
      later = λ n up. by_run s.run n
          (λ _ same. absurd (omega (arith, same, run, up)))
          (λ fails. omega (arith, count n, one_other n s fails, h.later n (omega (arith, up))));
    }

pub begin_no : (runs : List (List ℕ)) (kept : List (List Entry)) (i : ℕ) (rs : List RunReader) → AllByRecursion Rises kept → UpTo runs kept i rs → get_or kept i [] ≡ [] → UpTo runs kept (i + 1) rs
begin_no runs kept i rs rise h past = record {
  at = h.at;
  once = h.once;
  none = λ n lt e. by_run n i
      (λ _ same. turns_of_run n kept rise ∙ ap (λ (m : ℕ). get_or kept m []) same ∙ past)
      (λ fails. let below : n < i = grind arith in h.none n below e);
  later = λ n up. h.later n (omega (arith, up));
}

pub up_to_none : (runs : List (List ℕ)) (kept : List (List Entry)) (rs : List RunReader) → rs ≡ [] → UpTo runs kept 0 rs
up_to_none runs kept [] e = record { at = All-nil (Stands runs (turns_of kept)); once = λ n. omega arith; none = λ n lt _. absurd (omega (arith, lt)); later = λ n _. refl }
up_to_none runs kept (r ∷ rs) e = absurd (cc e)

-- ---- all runs

all_begun : (runs : List (List ℕ)) (kept : List (List Entry)) (i : ℕ) (rs : List RunReader) → AllByRecursion Rises kept → UpTo runs kept i rs → length kept ≤ i → Ready runs (turns_of kept) rs
all_begun runs kept i rs rise h whole =
    let past = λ (n : ℕ) (up : i ≤ n). turns_of_run n kept rise ∙ get_or_past kept n [] (omega (arith, up, whole)) in
    record {
      at = h.at;
      once = h.once;
      none = λ n e. by_ranked (n < i) (n ≡ i) (i < n) (nat_cmp n i) (ranked n i (nat_cmp n i) refl)
          (λ _ lt. h.none n lt e) (λ _ same. past n (omega (arith, same))) (λ _ gt. past n (omega (arith, gt)));
    }

all_fit : (kept : List (List Entry)) → AllByRecursion (All Fits) kept → All Fits (flat_map (λ es. es) kept)
all_fit [] h = All-nil Fits
all_fit (es ∷ kept) h = All-append Fits es (flat_map (λ fs. fs) kept) h.0 (all_fit kept h.1)

pub begins : {S : Type 0} (runs : S → List (List ℕ)) (store : S) (heap : BinaryHeap RunReader Global) (lens : List ℕ) (kept : List (List Entry)) (i : ℕ)
    → AreRuns (runs store) lens kept → UpTo (runs store) kept i (heap_items heap) → length kept ≤ i → IsHeap turn_cmp (heap_items heap) → Begins runs (record { store = store; heap = heap; current = None }) kept
begins runs store heap lens kept i h up whole sound = record {
  records = entries (turns_of kept);
  permutation = turns_permutation kept;
  rises = entries_rise (turns_of kept) (turns_in_order kept);
  merging = record {
    turns = turns_of kept;
    is = refl;
    order = turns_in_order kept;
    fit = All-permutation Fits (flat_map (λ es. es) kept) (entries (turns_of kept)) (turns_permutation kept) (all_fit kept h.fit);
    heap = sound;
    state = all_begun (runs store) kept i (heap_items heap) h.rise up whole;
  };
  none = refl;
}
