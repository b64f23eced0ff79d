-- The order in which a merge gives the records of runs.
use Rattle.std.proofs.Common.{◌≡◌, ◌∙◌, sym, ap, subst, refl, suc, zero, ℕ, ◌+◌, ◌≤◌, ◌==◌, Bool, true, false, cond, List, [], ◌∷◌, ◌++◌, get_or, map, arith, is_lt, Ordering, Less, Equal, Greater}
use Rattle.std.specs.List.{AllByRecursion, flat_map}
use Rattle.std.specs.List.Sorted.{IsPermutation}
use Rattle.std.specs.Cmp.Lexicographic.{slice_cmp}
use Rattle.std.specs.Ordering.{is_gt, nat_cmp, ordering_reverse, ordering_then}
use Rattle.std.proofs.lemmas.Cmp.{nat_cmp_total, tied_itself, upto}
use Rattle.std.proofs.lemmas.List.{append-nil, map-append}
use Rattle.std.proofs.lemmas.List.Elements.{All-from_recursion, recursion_from_All}
use Rattle.std.proofs.lemmas.List.Sorted.{All-permutation, IsPermutation-append_comm, IsPermutation-append_left, IsPermutation-cons, IsPermutation-map, IsPermutation-refl, IsPermutation-trans}
use Rattle.external_sort.specs.Records.{Entry, Rises, is_below}
use Rattle.external_sort.specs.internal.Merging.{InOrder, Turn, entries, of_run, place_cmp, turn}
use Rattle.external_sort.specs.internal.Tagged.{in_order, put, tag, turns_of}
use Rattle.external_sort.proofs.MergeLemmas.{by_run, itself, of_other, of_same, place_total}

-- ---- permutations

-- what is so of a test, and of its opposite
by_bool : (b : Bool) {G : Type 0} → (b ≡ true → G) → (b ≡ false → G) → G
by_bool true {G} holds fails = holds refl
by_bool false {G} holds fails = fails refl

put_yes : (t u : Turn) (us : List Turn) → is_lt (place_cmp u t) ≡ true → put t (u ∷ us) ≡ u ∷ put t us
put_yes t u us e = ap (λ (b : Bool). cond b (u ∷ put t us) (t ∷ u ∷ us)) e

put_no : (t u : Turn) (us : List Turn) → is_lt (place_cmp u t) ≡ false → put t (u ∷ us) ≡ t ∷ u ∷ us
put_no t u us e = ap (λ (b : Bool). cond b (u ∷ put t us) (t ∷ u ∷ us)) e

swapped : (t u : Turn) (us : List Turn) → IsPermutation (t ∷ u ∷ us) (u ∷ t ∷ us)
swapped t u us = IsPermutation-append_left us (t ∷ u ∷ []) (u ∷ t ∷ []) (IsPermutation-append_comm (t ∷ []) (u ∷ []))

put_permutation : (t : Turn) (us : List Turn) → IsPermutation (t ∷ us) (put t us)
put_permutation t [] = IsPermutation-refl (t ∷ [])
put_permutation t (u ∷ us) =
    by_bool (is_lt (place_cmp u t))
    (λ holds. subst (λ (l : List Turn). IsPermutation (t ∷ u ∷ us) l) (sym (put_yes t u us holds))
    (IsPermutation-trans (t ∷ u ∷ us) (u ∷ t ∷ us) (u ∷ put t us) (swapped t u us) (IsPermutation-cons u (t ∷ us) (put t us) (put_permutation t us))))
    (λ fails. subst (λ (l : List Turn). IsPermutation (t ∷ u ∷ us) l) (sym (put_no t u us fails)) (IsPermutation-refl (t ∷ u ∷ us)))

order_permutation : (ts : List Turn) → IsPermutation ts (in_order ts)
order_permutation [] = IsPermutation-refl []
order_permutation (t ∷ ts) = IsPermutation-trans (t ∷ ts) (t ∷ in_order ts) (put t (in_order ts)) (IsPermutation-cons t ts (in_order ts) (order_permutation ts)) (put_permutation t (in_order ts))

untagged : (n : ℕ) (es : List Entry) → entries (map (λ e. turn e n) es) ≡ es
untagged n [] = refl
untagged n (e ∷ es) = ap (λ (l : List Entry). e ∷ l) (untagged n es)

tagged_entries : (n : ℕ) (kept : List (List Entry)) → entries (tag n kept) ≡ flat_map (λ es. es) kept
tagged_entries n [] = refl
tagged_entries n (es ∷ kept) =
    map-append (λ (t : Turn). t.entry) (map (λ e. turn e n) es) (tag (suc n) kept)
    ∙ ap (λ (l : List Entry). l ++ entries (tag (suc n) kept)) (untagged n es)
    ∙ ap (λ (l : List Entry). es ++ l) (tagged_entries (suc n) kept)

pub turns_permutation : (kept : List (List Entry)) → IsPermutation (flat_map (λ es. es) kept) (entries (turns_of kept))
unfolding turns_of
turns_permutation kept =
    subst (λ (l : List Entry). IsPermutation l (entries (in_order (tag 0 kept)))) (tagged_entries 0 kept)
    (IsPermutation-map (λ (t : Turn). t.entry) (tag 0 kept) (in_order (tag 0 kept)) (order_permutation (tag 0 kept)))

-- ---- the order

reversed_gt : (o : Ordering) → is_gt (ordering_reverse o) ≡ is_lt o
reversed_gt Less = refl
reversed_gt Equal = refl
reversed_gt Greater = refl

reversed_lt : (o : Ordering) → is_lt (ordering_reverse o) ≡ is_gt o
reversed_lt Less = refl
reversed_lt Equal = refl
reversed_lt Greater = refl

gt_from_lt : (a b : Turn) → is_lt (place_cmp a b) ≡ false → is_gt (place_cmp b a) ≡ false
gt_from_lt a b h = ap is_gt (place_total.antisymm b a) ∙ reversed_gt (place_cmp a b) ∙ h

lt_from_gt : (a b : Turn) → is_gt (place_cmp b a) ≡ false → is_lt (place_cmp a b) ≡ false
lt_from_gt a b h = ap is_lt (place_total.antisymm a b) ∙ reversed_lt (place_cmp b a) ∙ h

not_below : (a b c : Turn) → is_lt (place_cmp a b) ≡ false → is_lt (place_cmp b c) ≡ false → is_lt (place_cmp a c) ≡ false
not_below a b c ab bc = lt_from_gt a c (upto place_total c b a (gt_from_lt b c bc) (gt_from_lt a b ab))

not_both : (o p : Ordering) → p ≡ ordering_reverse o → is_lt o ≡ true → is_lt p ≡ false
not_both Less p e h = ap is_lt e
not_both Equal p e h = absurd (cc h)
not_both Greater p e h = absurd (cc h)

all_weaker : {X : Type 0} (P Q : X → Type 0) → ((x : X) → P x → Q x) → (xs : List X) → AllByRecursion P xs → AllByRecursion Q xs
all_weaker P Q f [] h = tt
all_weaker P Q f (x ∷ xs) h = (f x h.0, all_weaker P Q f xs h.1)

all_moved : {X : Type 0} (P : X → Type 0) (xs ys : List X) → IsPermutation xs ys → AllByRecursion P xs → AllByRecursion P ys
all_moved P xs ys perm h = recursion_from_All P ys (All-permutation P xs ys perm (All-from_recursion P xs h))

put_in_order : (t : Turn) (us : List Turn) → InOrder us → InOrder (put t us)
put_in_order t [] h = (tt, tt)
put_in_order t (u ∷ us) h =
    by_bool (is_lt (place_cmp u t))
    (λ holds. let here : is_lt (place_cmp t u) ≡ false = not_both (place_cmp u t) (place_cmp t u) (place_total.antisymm t u) holds in
    let all = all_moved (λ v. is_lt (place_cmp v u) ≡ false) (t ∷ us) (put t us) (put_permutation t us) (here, h.0) in
    subst InOrder (sym (put_yes t u us holds)) (all, put_in_order t us h.1))
    (λ fails. let all = all_weaker (λ v. is_lt (place_cmp v u) ≡ false) (λ v. is_lt (place_cmp v t) ≡ false) (λ v below. not_below v u t below fails) us h.0 in
    subst InOrder (sym (put_no t u us fails)) ((fails, all), h))

order_in_order : (ts : List Turn) → InOrder (in_order ts)
order_in_order [] = tt
order_in_order (t ∷ ts) = put_in_order t (in_order ts) (order_in_order ts)

pub turns_in_order : (kept : List (List Entry)) → InOrder (turns_of kept)
unfolding turns_of
turns_in_order kept = order_in_order (tag 0 kept)

first_decides : (o p : Ordering) → is_lt (ordering_then o p) ≡ false → is_lt o ≡ false
first_decides Less p h = h
first_decides Equal p h = refl
first_decides Greater p h = refl

entries_rise_after : (t : Turn) (ts : List Turn) → AllByRecursion (λ u. is_lt (place_cmp u t) ≡ false) ts → AllByRecursion (λ f. is_below f t.entry ≡ false) (entries ts)
entries_rise_after t [] h = tt
entries_rise_after t (u ∷ ts) h = (first_decides (slice_cmp nat_cmp u.entry.key t.entry.key) (nat_cmp u.run t.run) h.0, entries_rise_after t ts h.1)

pub entries_rise : (ts : List Turn) → InOrder ts → Rises (entries ts)
entries_rise [] h = tt
entries_rise (t ∷ ts) h = (entries_rise_after t ts h.0, entries_rise ts h.1)

-- ---- the records of one run

-- it stands before those of its run
abbrev Leads : Turn → Turn → Type 0
Leads t v = v.run ≡ t.run → is_lt (place_cmp v t) ≡ false

abbrev Grouped : List Turn → Type 0
Grouped [] = Unit {0}
Grouped (t ∷ ts) = AllByRecursion (Leads t) ts × Grouped ts

put_of_run : (n : ℕ) (t : Turn) (us : List Turn) → AllByRecursion (Leads t) us → of_run n (put t us) ≡ of_run n (t ∷ us)
put_of_run n t [] h = refl
put_of_run n t (u ∷ us) h =
    by_bool (is_lt (place_cmp u t))
    (λ holds. let go = put_of_run n t us h.1 in
    ap (of_run n) (put_yes t u us holds) ∙ by_run t.run n
    (λ t_holds t_same. by_run u.run n
    (λ _ u_same. absurd (let z : is_lt (place_cmp u t) ≡ false = h.0 (u_same ∙ sym t_same) in cc (holds, z)))
    (λ u_no. of_other n u (put t us) u_no ∙ go ∙ of_same n t us t_holds ∙ ap (λ (es : List Entry). t.entry ∷ es) (sym (of_other n u us u_no)) ∙ sym (of_same n t (u ∷ us) t_holds)))
    (λ t_no. by_run u.run n
    (λ u_yes _. of_same n u (put t us) u_yes ∙ ap (λ (es : List Entry). u.entry ∷ es) (go ∙ of_other n t us t_no) ∙ sym (of_same n u us u_yes) ∙ sym (of_other n t (u ∷ us) t_no))
    (λ u_no. of_other n u (put t us) u_no ∙ go ∙ of_other n t us t_no ∙ sym (of_other n u us u_no) ∙ sym (of_other n t (u ∷ us) t_no))))
    (λ fails. ap (of_run n) (put_no t u us fails))

order_of_run : (n : ℕ) (ts : List Turn) → Grouped ts → of_run n (in_order ts) ≡ of_run n ts
order_of_run n [] h = refl
order_of_run n (t ∷ ts) h =
    put_of_run n t (in_order ts) (all_moved (Leads t) ts (in_order ts) (order_permutation ts) h.0)
    ∙ ap (λ (es : List Entry). cond (t.run == n) (t.entry ∷ es) es) (order_of_run n ts h.1)

run_above : (n m : ℕ) (es : List Entry) (ts : List Turn) → n ≤ m → AllByRecursion (λ v. n ≤ v.run) ts → AllByRecursion (λ v. n ≤ v.run) (map (λ e. turn e m) es ++ ts)
run_above n m [] ts le h = h
run_above n m (e ∷ es) ts le h = (le, run_above n m es ts le h)

tag_above : (n m : ℕ) (kept : List (List Entry)) → n ≤ m → AllByRecursion (λ v. n ≤ v.run) (tag m kept)
tag_above n m [] le = tt
tag_above n m (es ∷ kept) le = run_above n m es (tag (suc m) kept) le (tag_above n (suc m) kept (omega arith))

then_tied : (o p : Ordering) → is_lt o ≡ false → p ≡ Equal → is_lt (ordering_then o p) ≡ false
then_tied Less p h tie = absurd (cc h)
then_tied Equal p h tie = ap is_lt tie
then_tied Greater p h tie = refl

same_run_below : (e f : Entry) (n : ℕ) → is_below f e ≡ false → is_lt (place_cmp (turn f n) (turn e n)) ≡ false
same_run_below e f n h =
    let tie : nat_cmp n n ≡ Equal = tied_itself nat_cmp_total n in
    then_tied (slice_cmp nat_cmp f.key e.key) (nat_cmp n n) h tie

leads_entries : (e : Entry) (n : ℕ) (es : List Entry) (ts : List Turn) → AllByRecursion (λ f. is_below f e ≡ false) es → AllByRecursion (Leads (turn e n)) ts → AllByRecursion (Leads (turn e n)) (map (λ f. turn f n) es ++ ts)
leads_entries e n [] ts h rest = rest
leads_entries e n (f ∷ es) ts h rest = ((λ _. same_run_below e f n h.0), leads_entries e n es ts h.1 rest)

leads_later : (e : Entry) (n : ℕ) (ts : List Turn) → AllByRecursion (λ v. suc n ≤ v.run) ts → AllByRecursion (Leads (turn e n)) ts
leads_later e n ts h = all_weaker (λ v. suc n ≤ v.run) (Leads (turn e n)) (λ v up same. absurd (omega (arith, up, same))) ts h

grouped_run : (n : ℕ) (es : List Entry) (ts : List Turn) → Rises es → AllByRecursion (λ v. suc n ≤ v.run) ts → Grouped ts → Grouped (map (λ e. turn e n) es ++ ts)
grouped_run n [] ts rise up h = h
grouped_run n (e ∷ es) ts rise up h = (leads_entries e n es ts rise.0 (leads_later e n ts up), grouped_run n es ts rise.1 up h)

tag_grouped : (n : ℕ) (kept : List (List Entry)) → AllByRecursion Rises kept → Grouped (tag n kept)
tag_grouped n [] h = tt
tag_grouped n (es ∷ kept) h = grouped_run n es (tag (suc n) kept) h.0 (tag_above (suc n) (suc n) kept (omega arith)) (tag_grouped (suc n) kept h.1)

above_none : (n : ℕ) (ts : List Turn) → AllByRecursion (λ v. suc n ≤ v.run) ts → of_run n ts ≡ []
above_none n [] h = refl
above_none n (t ∷ ts) h = by_run t.run n (λ _ same. absurd (omega (arith, same, h.0))) (λ fails. of_other n t ts fails ∙ above_none n ts h.1)

of_own : (n : ℕ) (es : List Entry) (ts : List Turn) → of_run n (map (λ e. turn e n) es ++ ts) ≡ es ++ of_run n ts
of_own n [] ts = refl
of_own n (e ∷ es) ts = of_same n (turn e n) (map (λ f. turn f n) es ++ ts) (itself n) ∙ ap (λ (l : List Entry). e ∷ l) (of_own n es ts)

of_others : (n m : ℕ) (es : List Entry) (ts : List Turn) → (m == n) ≡ false → of_run n (map (λ e. turn e m) es ++ ts) ≡ of_run n ts
of_others n m [] ts fails = refl
of_others n m (e ∷ es) ts fails = of_other n (turn e m) (map (λ f. turn f m) es ++ ts) fails ∙ of_others n m es ts fails

tag_of_run : (n i q : ℕ) (kept : List (List Entry)) → q ≡ n + i → of_run q (tag n kept) ≡ get_or kept i []
tag_of_run n i q [] e = refl
tag_of_run n zero q (es ∷ kept) e =
    let same : q ≡ n = omega (arith, e) in
    ap (λ (m : ℕ). of_run m (tag n (es ∷ kept))) same ∙ of_own n es (tag (suc n) kept)
    ∙ ap (λ (l : List Entry). es ++ l) (above_none n (tag (suc n) kept) (tag_above (suc n) (suc n) kept (omega arith))) ∙ append-nil es
tag_of_run n (suc i) q (es ∷ kept) e =
    let up : q ≡ suc n + i = omega (arith, e) in
    let fails : (n == q) ≡ false = by_run n q (λ _ same. absurd (omega (arith, same, up))) (λ fails. fails) in
    of_others q n es (tag (suc n) kept) fails ∙ tag_of_run (suc n) i q kept up

pub turns_of_run : (n : ℕ) (kept : List (List Entry)) → AllByRecursion Rises kept → of_run n (turns_of kept) ≡ get_or kept n []
unfolding turns_of
turns_of_run n kept rise = order_of_run n (tag 0 kept) (tag_grouped 0 kept rise) ∙ tag_of_run 0 n n kept (omega arith)
