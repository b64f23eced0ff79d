-- Steps of a merge.
use Rattle.std.proofs.Common.{◌≡◌, ◌∙◌, sym, ap, subst, refl, ℕ, ◌+◌, ◌<◌, ◌≤◌, ◌==◌, Bool, true, false, cond, List, [], ◌∷◌, length, arith, is_lt, Option, Some, None, IfSome, IfNone, Ordering, Less, Equal, Greater}
use Rattle.std.specs.List.{All, AllByRecursion}
use Rattle.std.specs.List.Sorted.{IsPermutation}
use Rattle.std.specs.BinaryHeap.{IsHeap, IsUpperBound, heap_items}
use Rattle.std.specs.Option.{is_some}
use Rattle.std.specs.declared.collections.BinaryHeap.{BinaryHeap}
use Rattle.std.specs.declared.alloc.Global.{Global}
use Rattle.std.specs.Cmp.{IsTotalOrder}
use Rattle.std.specs.Cmp.Lexicographic.{slice_cmp}
use Rattle.std.specs.Ordering.{nat_cmp, ordering_reverse, ordering_then}
use Rattle.std.proofs.lemmas.Cmp.{by_ranked, nat_cmp_total, nat_list_cmp_total, on_total, ranked, then_total}
use Rattle.std.proofs.lemmas.List.{nil_from_length}
use Rattle.std.proofs.lemmas.List.Elements.{All-cons, All-head, All-nil, All-tail}
use Rattle.std.proofs.lemmas.List.Sorted.{All-permutation, sum_by_popped, sum_by_pushed}
use Rattle.std.proofs.lemmas.List.Sums.{sum_by-cons}
use Rattle.external_sort.specs.Records.{Entry, Fits}
use Rattle.external_sort.specs.internal.Merging.{Given, Goes, InOrder, Ready, Stands, Turn, entries, number, of_run, one_if, place_cmp, turn}
use Rattle.external_sort.specs.internal.Reading.{HasLeft, Moves, head}
use Rattle.external_sort.specs.internal.Turns.{turn_cmp}
use Rattle.external_sort.specs.declared.run_reader.RunReader.{RunReader}

-- ---- tests of runs

-- what is so of equal runs, and of others
pub by_run : (m n : ℕ) {G : Type 0} → ((m == n) ≡ true → m ≡ n → G) → ((m == n) ≡ false → G) → G
by_run m n {G} same other =
    let go : (b : Bool) → (m == n) ≡ b → G = elim [ true ↦ λ e. same e (grind arith) | false ↦ λ e. other e ] in
    go (m == n) refl

pub itself : (n : ℕ) → (n == n) ≡ true
itself n = grind arith

pub of_same : (n : ℕ) (t : Turn) (ts : List Turn) → (t.run == n) ≡ true → of_run n (t ∷ ts) ≡ t.entry ∷ of_run n ts
of_same n t ts e = ap (λ (b : Bool). cond b (t.entry ∷ of_run n ts) (of_run n ts)) e

pub of_other : (n : ℕ) (t : Turn) (ts : List Turn) → (t.run == n) ≡ false → of_run n (t ∷ ts) ≡ of_run n ts
of_other n t ts e = ap (λ (b : Bool). cond b (t.entry ∷ of_run n ts) (of_run n ts)) e

pub one_same : (n : ℕ) (r : RunReader) → (r.run == n) ≡ true → one_if n r ≡ 1
one_same n r e = ap (λ (b : Bool). cond b 1 0) e

pub one_other : (n : ℕ) (r : RunReader) → (r.run == n) ≡ false → one_if n r ≡ 0
one_other n r e = ap (λ (b : Bool). cond b 1 0) e

pub one_of : (n : ℕ) (r s : RunReader) → r.run ≡ s.run → one_if n r ≡ one_if n s
one_of n r s e = ap (λ (m : ℕ). cond (m == n) 1 0) e

-- ---- a reader goes on, or is at its end

pub ready_again : (runs : List (List ℕ)) (ts : List Turn) (r s : RunReader) (rs us : List RunReader) → Given runs ts r rs → Moves true runs s (of_run r.run ts) → s.run ≡ r.run → IsPermutation (s ∷ rs) us → Ready runs ts us
ready_again runs ts r s rs us h moves run perm =
    let (left, first, has) = moves in
    let stands : Stands runs ts s = (left, ap (λ (n : ℕ). of_run n ts) run ∙ first, has) in
    let count = λ (n : ℕ). sum_by_pushed (one_if n) s rs us perm in
    let same = λ (n : ℕ). one_of n s r run in
    record {
      at = All-permutation (Stands runs ts) (s ∷ rs) us perm (All-cons (Stands runs ts) s rs stands h.at);
      once = λ n. omega (arith, count n, same n, h.once n);
      none = λ n e. h.none n (omega (arith, count n, same n, e));
    }

pub ready_without : (runs : List (List ℕ)) (ts : List Turn) (r : RunReader) (rs : List RunReader) → Given runs ts r rs → of_run r.run ts ≡ [] → Ready runs ts rs
ready_without runs ts r rs h past = record {
  at = h.at;
  once = λ n. omega (arith, h.once n);
  none = λ n e. by_run r.run n
      (λ _ same. subst (λ (m : ℕ). of_run m ts ≡ []) same past)
      (λ other. h.none n (omega (arith, one_other n r other, e)));
}

-- ---- the next reader

pub none_ready : (runs : List (List ℕ)) (ts : List Turn) → Ready runs ts [] → ts ≡ []
none_ready runs [] h = refl
none_ready runs (t ∷ ts) h = let e : t.entry ∷ of_run t.run ts ≡ [] = sym (of_same t.run t ts (itself t.run)) ∙ h.none t.run refl in cc

-- a reader of a run that has one
found : (P Q : RunReader → Type 0) (n : ℕ) (rs : List RunReader) → All P rs → AllByRecursion Q rs → 1 ≤ number n rs → (r : RunReader) × (r.run ≡ n) × P r × Q r
found P Q n [] p q some = absurd (omega (arith, some))
found P Q n (r ∷ rs) p q some =
    by_run r.run n
    (λ _ same. (r, same, All-head P r rs p, q.0))
    (λ other. found P Q n rs (All-tail P r rs p) q.1 (omega (arith, some, sum_by-cons (one_if n) r rs, one_other n r other)))

-- what is so of all turns is so of the first of a run
first_of : (P : Turn → Type 0) (n : ℕ) (ts : List Turn) (e : Entry) (left : List Entry) → AllByRecursion P ts → of_run n ts ≡ e ∷ left → P (turn e n)
first_of P n [] e left h is = let z : [] ≡ e ∷ left = is in absurd (cc z)
first_of P n (t ∷ ts) e left h is =
    by_run t.run n
    (λ yes same. let here : t.entry ∷ of_run n ts ≡ e ∷ left = sym (of_same n t ts yes) ∙ is in
    let entry_is : t.entry ≡ e = cc here in
    subst (λ (m : ℕ). P (turn e m)) same (subst (λ (f : Entry). P (turn f t.run)) entry_is h.0))
    (λ other. first_of P n ts e left h.1 (sym (of_other n t ts other) ∙ is))

pub place_total : IsTotalOrder place_cmp
place_total = then_total (on_total (λ (t : Turn). t.entry.key) nat_list_cmp_total) (on_total (λ (t : Turn). t.run) nat_cmp_total)

equal_from : (o p : Ordering) → o ≡ ordering_reverse p → is_lt o ≡ false → is_lt p ≡ false → o ≡ Equal
equal_from Less p e no_less no_more = absurd (cc no_less)
equal_from Equal p e no_less no_more = refl
equal_from Greater Less e no_less no_more = absurd (cc no_more)
equal_from Greater Equal e no_less no_more = absurd (cc e)
equal_from Greater Greater e no_less no_more = absurd (cc e)

second_equal : (o p : Ordering) → ordering_then o p ≡ Equal → p ≡ Equal
second_equal Less p e = absurd (cc e)
second_equal Equal p e = e
second_equal Greater p e = absurd (cc e)

-- of two turns of which neither comes before the other
same_run : (a b : Turn) → is_lt (place_cmp a b) ≡ false → is_lt (place_cmp b a) ≡ false → a.run ≡ b.run
same_run a b no_less no_more =
    let tied = equal_from (place_cmp a b) (place_cmp b a) (place_total.antisymm a b) no_less no_more in
    let runs : nat_cmp a.run b.run ≡ Equal = second_equal (slice_cmp nat_cmp a.entry.key b.entry.key) (nat_cmp a.run b.run) tied in
    by_ranked (a.run < b.run) (a.run ≡ b.run) (b.run < a.run) (nat_cmp a.run b.run) (ranked a.run b.run (nat_cmp a.run b.run) refl)
    (λ less _. absurd (cc (less, runs))) (λ _ same. same) (λ more _. absurd (cc (more, runs)))

-- the reader with the first turn is of the first turn's run
first_turn : (runs : List (List ℕ)) (t : Turn) (ts : List Turn) (r : RunReader) (us rs : List RunReader) → Ready runs (t ∷ ts) us → InOrder (t ∷ ts) → IsPermutation us (r ∷ rs) → IsUpperBound turn_cmp r rs → t.run ≡ r.run
first_turn runs t ts r us rs h order perm top =
    let at = All-permutation (Stands runs (t ∷ ts)) us (r ∷ rs) perm h.at in
    by_run r.run t.run (λ _ same. sym same) (λ other.
    let count : number t.run rs + one_if t.run r ≡ number t.run us = sum_by_popped (one_if t.run) r us rs perm in
    let some : 1 ≤ number t.run us = by_run 0 (number t.run us)
    (λ _ zero. let e : t.entry ∷ of_run t.run ts ≡ [] = sym (of_same t.run t ts (itself t.run)) ∙ h.none t.run (sym zero) in absurd (cc e))
    (λ more. grind arith) in
    let (s, run, stands, bound) = found (Stands runs (t ∷ ts)) (λ y. is_lt (turn_cmp r y) ≡ false) t.run rs (All-tail (Stands runs (t ∷ ts)) r rs at) top (omega (arith, count, some, one_other t.run r other)) in
    let (left, own, _) = All-head (Stands runs (t ∷ ts)) r rs at in
    let (after, its, _) = stands in
    let head_is : head s ≡ t.entry =
    let e : head s ∷ after ≡ t.entry ∷ of_run t.run ts = sym its ∙ ap (λ (n : ℕ). of_run n (t ∷ ts)) run ∙ of_same t.run t ts (itself t.run) in cc e in
    let turn_is : turn (head s) s.run ≡ t = ap (λ (e : Entry). turn e s.run) head_is ∙ ap (λ (n : ℕ). turn t.entry n) run in
    let not_t : (t.run == r.run) ≡ false = grind arith in
    let later = first_of (λ u. is_lt (place_cmp u t) ≡ false) r.run ts (head r) left order.0 (sym (of_other r.run t ts not_t) ∙ own) in
    let before : is_lt (place_cmp t (turn (head r) r.run)) ≡ false = subst (λ (u : Turn). is_lt (place_cmp u (turn (head r) r.run)) ≡ false) turn_is bound in
    same_run t (turn (head r) r.run) before later)

-- the readers of other runs still stand
others_stand : (runs : List (List ℕ)) (t : Turn) (ts : List Turn) (rs : List RunReader) → All (Stands runs (t ∷ ts)) rs → number t.run rs ≡ 0 → All (Stands runs ts) rs
others_stand runs t ts [] h none = All-nil (Stands runs ts)
others_stand runs t ts (r ∷ rs) h none =
    let (left, own, has) = All-head (Stands runs (t ∷ ts)) r rs h in
    let count : number t.run (r ∷ rs) ≡ one_if t.run r + number t.run rs = sum_by-cons (one_if t.run) r rs in
    by_run t.run r.run
    (λ _ same. absurd (omega (arith, count, none, one_same t.run r (subst (λ (n : ℕ). (n == t.run) ≡ true) same (itself t.run)))))
    (λ other. All-cons (Stands runs ts) r rs (left, sym (of_other r.run t ts other) ∙ own, has)
    (others_stand runs t ts rs (All-tail (Stands runs (t ∷ ts)) r rs h) (omega (arith, count, none))))

pub next_given : (runs : List (List ℕ)) (ts : List Turn) (r : RunReader) (us rs : List RunReader) → Ready runs ts us → InOrder ts → IsPermutation us (r ∷ rs) → IsUpperBound turn_cmp r rs
    → (later : List Turn) × (ts ≡ turn (head r) r.run ∷ later) × Given runs later r rs
next_given runs [] r us rs h order perm top =
    let (left, own, _) = All-head (Stands runs []) r rs (All-permutation (Stands runs []) us (r ∷ rs) perm h.at) in
    let e : [] ≡ head r ∷ left = own in absurd (cc e)
next_given runs (t ∷ ts) r us rs h order perm top =
    let run = first_turn runs t ts r us rs h order perm top in
    let at = All-permutation (Stands runs (t ∷ ts)) us (r ∷ rs) perm h.at in
    let (left, own, has) = All-head (Stands runs (t ∷ ts)) r rs at in
    let yes : (t.run == r.run) ≡ true = subst (λ (n : ℕ). (t.run == n) ≡ true) run (itself t.run) in
    let here : t.entry ∷ of_run r.run ts ≡ head r ∷ left = sym (of_same r.run t ts yes) ∙ own in
    let entry_is : t.entry ≡ head r = cc here in
    let left_is : left ≡ of_run r.run ts = cc here in
    let count = λ (n : ℕ). sum_by_popped (one_if n) r us rs perm in
    let own_one : one_if t.run r ≡ 1 = one_same t.run r (subst (λ (n : ℕ). (n == t.run) ≡ true) run (itself t.run)) in
    let none_else : number t.run rs ≡ 0 = omega (arith, count t.run, h.once t.run, own_one) in (
      ts,
      ap (λ (e : Entry). turn e t.run ∷ ts) entry_is ∙ ap (λ (n : ℕ). turn (head r) n ∷ ts) run,
      record {
        at = others_stand runs t ts rs (All-tail (Stands runs (t ∷ ts)) r rs at) none_else;
        own = subst (λ (es : List Entry). HasLeft runs r es) left_is has;
        once = λ n. omega (arith, count n, h.once n);
        none = λ n e. by_run t.run n
            (λ _ same. absurd (omega (arith, e, one_same n r (subst (λ (m : ℕ). (m == n) ≡ true) (sym same ∙ run) (itself n)))))
            (λ other. sym (of_other n t ts other) ∙ h.none n (omega (arith, count n, e)));
      },
    )

-- the records of a run are records
pub of_run_all : (P : Entry → Type 0) (n : ℕ) (ts : List Turn) → All P (entries ts) → All P (of_run n ts)
of_run_all P n [] h = All-nil P
of_run_all P n (t ∷ ts) h =
    let later = of_run_all P n ts (All-tail P t.entry (entries ts) h) in
    by_run t.run n
    (λ yes _. subst (λ (es : List Entry). All P es) (sym (of_same n t ts yes)) (All-cons P t.entry (of_run n ts) (All-head P t.entry (entries ts) h) later))
    (λ other. subst (λ (es : List Entry). All P es) (sym (of_other n t ts other)) later)

-- ---- the step

pub next_goes : {S : Type 0} (runs : S → List (List ℕ)) (store : S) (heap : BinaryHeap RunReader Global) (popped : Option RunReader) (us : List RunReader) (size : ℕ) (records : List Entry) (ts : List Turn)
    → records ≡ entries ts → InOrder ts → All Fits records → Ready (runs store) ts us → size ≡ length us
    → IfSome popped (λ r. IsPermutation us (r ∷ heap_items heap)) → IfSome popped (λ r. IsUpperBound turn_cmp r (heap_items heap)) → IfSome popped (λ _. IsHeap turn_cmp (heap_items heap)) → IfNone popped (size ≡ 0)
    → Goes runs (is_some popped) (record { store = store; heap = heap; current = popped }) records
next_goes runs store heap None us size records ts is order fit ready len perm top sound none =
    let empty : us ≡ [] = nil_from_length us (sym len ∙ none) in
    is ∙ ap entries (none_ready (runs store) ts (subst (λ (rs : List RunReader). Ready (runs store) ts rs) empty ready))
next_goes runs store heap (Some r) us size records ts is order fit ready len perm top sound none =
    let (later, ts_is, given) = next_given (runs store) ts r us (heap_items heap) ready order perm top in
    let split : records ≡ head r ∷ entries later = is ∙ ap entries ts_is in
    let order_is = subst InOrder ts_is order in
    let fit_is = subst (λ (es : List Entry). All Fits es) split fit in
    (r, entries later, split, refl, record { turns = later; is = refl; order = order_is.1; fit = All-tail Fits (head r) (entries later) fit_is; heap = sound; state = given })
