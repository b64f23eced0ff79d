-- Entries that are put in the order of their keys, run by run.
use Rattle.std.proofs.Common.{◌≡◌, ◌≢◌, ◌+◌, ◌<◌, ℕ, get_or, arith, Bool, false, List, [], ◌∷◌, ◌++◌, drop, length, take, inl, inr, refl, sym, ap, ◌∙◌, subst}
use Rattle.std.specs.List.{All, AllByRecursion, Contains, dedup}
use Rattle.std.specs.List.Sorted.{IsPermutation, IsSortedByKey, IsStrictlySortedBy}
use Rattle.std.specs.Ordering.{is_eq, is_lt, ordering_reverse}
use Rattle.std.specs.Cmp.{IsEquivalence}
use Rattle.std.specs.Prelude.{bytes_eq}
use Rattle.std.specs.declared.cmp.Ordering.{Ordering}
use Rattle.std.specs.declared.cmp.Ordering.TheVariants.{Less, Equal, Greater}
use Rattle.std.proofs.lemmas.Cmp.{nat_list_cmp_total, on_total}
use Rattle.std.proofs.lemmas.List.{append-nil, append_assoc, get_or-append-add, get_or-drop, get_or_default, get_or-take, length-append, length-drop, length-take-le, map-append, take-append-drop, take_more}
use Rattle.std.proofs.lemmas.List.Elements.{All-contains, Contains-append_cases, Contains-append_left, Contains-append_right, Contains-get_or}
use Rattle.std.proofs.lemmas.List.Kept.{Any-dedup, Contains-from_dedup, IsStrictlySortedBy-dedup}
use Rattle.std.proofs.lemmas.List.Sorted.{Contains-permutation, IsPermutation-sym, ranks_by, sorted_far}
use Rattle.std.proofs.lemmas.Map.Text.{is_eq-slice_cmp}
use Rattle.std.proofs.lemmas.Slice.Eq.{bytes_eq-Decides}
use Rattle.std.specs.Cmp.Lexicographic.{nat_list_eq_equiv}
use Rattle.tree_node.specs.Order.{IsBelow, order}
use Rattle.tree_node.specs.declared.item.Item.{Item}
use Rattle.osm_index.specs.declared.prefixed_entry.PrefixedEntry.{PrefixedEntry}
use Rattle.osm_index.specs.internal.PrefixedEntries.{HasStart, IsByFirstBytes, IsRun, IsByNextBytes, items_of, numbers_and_key, numbers_of}
use Rattle.osm_index.specs.internal.KeyOrder.{AppendsInOrder, HaveOneStart, IsInOrder}
use Rattle.osm_index.proofs.PrefixLemmas.{lower_start, second_order}
use Rattle.osm_keys.proofs.shared.Members.{from_map, here, in_map, in_rest, none}

-- ---- lists that are made entry by entry

pub one_more : (prefixed new : List PrefixedEntry) (x : PrefixedEntry) (entries : List Item) (i : ℕ) (d : Item) → i < length entries → new ≡ prefixed ++ x ∷ []
    → items_of prefixed ≡ take i entries → x.item ≡ get_or entries i d → items_of new ≡ take (i + 1) entries
one_more prefixed new x entries i d inside pushed before is =
    ap items_of pushed ∙ map-append (λ (entry : PrefixedEntry). entry.item) prefixed (x ∷ []) ∙ ap (λ (items : List Item). items ++ x.item ∷ []) before
    ∙ ap (λ (item : Item). take i entries ++ item ∷ []) is ∙ sym (take_more entries i d inside)

pub one_more_of : (prefixed new : List PrefixedEntry) (x : PrefixedEntry) (run : List PrefixedEntry) (i : ℕ) (d : PrefixedEntry) → i < length run → new ≡ prefixed ++ x ∷ []
    → items_of prefixed ≡ items_of (take i run) → x.item ≡ (get_or run i d).item → items_of new ≡ items_of (take (i + 1) run)
one_more_of prefixed new x run i d inside pushed before is =
    ap items_of pushed ∙ map-append (λ (entry : PrefixedEntry). entry.item) prefixed (x ∷ []) ∙ ap (λ (items : List Item). items ++ x.item ∷ []) before
    ∙ ap (λ (item : Item). items_of (take i run) ++ item ∷ []) is ∙ sym (map-append (λ (entry : PrefixedEntry). entry.item) (take i run) (get_or run i d ∷ []))
    ∙ ap items_of (sym (take_more run i d inside))

-- ---- one run

-- entries whose keys have one start, sorted by the numbers after it, are sorted by their keys
pub sorted_by_keys : (high low : ℕ) (entries : List PrefixedEntry) → All (λ entry. HasStart high low entry.item) entries → All IsByNextBytes entries
    → IsSortedByKey numbers_and_key order entries → IsSortedByKey (λ (entry : PrefixedEntry). entry.item.key.now) order entries
sorted_by_keys high low entries starts seconds sorted = λ k d from within.
    let x = get_or entries (k + 1) d in
    let y = get_or entries k d in
    let x_start = starts (k + 1) d (omega (arith, within)) in
    let y_start = starts k d (omega (arith, within)) in
    ap is_lt (sym (second_order high low x.high x.low y.high y.low x.item.key.now y.item.key.now x_start.0 y_start.0 x_start.1 y_start.1 (seconds (k + 1) d (omega (arith, within))) (seconds k d (omega (arith, within)))))
    ∙ sorted k d from within

-- two entries have one key
abbrev pub one_key : PrefixedEntry → PrefixedEntry → Bool
one_key second first = bytes_eq second.item.key.now first.item.key.now

one_key_equiv : IsEquivalence one_key
one_key_equiv = record {
  refl = λ x. nat_list_eq_equiv.refl x.item.key.now;
  symm = λ x y. nat_list_eq_equiv.symm x.item.key.now y.item.key.now;
  congr = λ x y z. nat_list_eq_equiv.congr x.item.key.now y.item.key.now z.item.key.now;
}

below_all : (x : PrefixedEntry) (xs : List PrefixedEntry) → AllByRecursion (λ (y : PrefixedEntry). order x.item.key.now y.item.key.now ≡ Less) xs
    → AllByRecursion (λ (y : Item). order x.item.key.now y.key.now ≡ Less) (items_of xs)
below_all x [] h = tt
below_all x (y ∷ ys) h = (h.0, below_all x ys h.1)

items_rise : (xs : List PrefixedEntry) → IsStrictlySortedBy (λ (x y : PrefixedEntry). order x.item.key.now y.item.key.now) xs
    → IsStrictlySortedBy (λ (x y : Item). order x.key.now y.key.now) (items_of xs)
unfolding IsStrictlySortedBy
items_rise [] h = tt
items_rise (x ∷ xs) h = (below_all x xs h.0, items_rise xs h.1)

-- sorted by their keys, and each key once
pub in_order : (run entries sorted : List PrefixedEntry) → items_of entries ≡ items_of run → IsPermutation entries sorted
    → IsSortedByKey (λ (entry : PrefixedEntry). entry.item.key.now) order sorted → IsInOrder (items_of run) (items_of (dedup one_key sorted))
in_order run entries sorted same p h = record {
  rising = items_rise (dedup one_key sorted) (IsStrictlySortedBy-dedup (on_total (λ (entry : PrefixedEntry). entry.item.key.now) nat_list_cmp_total) {E = one_key} (λ x y. sym (is_eq-slice_cmp x.item.key.now y.item.key.now)) sorted h);
  drawn = λ x inside.
      let found = from_map (λ (entry : PrefixedEntry). entry.item) (dedup one_key sorted) x inside in
      let there = Contains-permutation sorted entries found.0 (IsPermutation-sym _ _ p) (Contains-from_dedup one_key sorted found.0 found.1) in
      let is_there : Contains (items_of entries) found.0.item = in_map (λ (entry : PrefixedEntry). entry.item) entries found.0 there in
      subst (λ (items : List Item). Contains items x) same (subst (λ (y : Item). Contains (items_of entries) y) (sym found.2) is_there);
  kept = λ x inside.
      let found = from_map (λ (entry : PrefixedEntry). entry.item) entries x (subst (λ (items : List Item). Contains items x) (sym same) inside) in
      let there = Contains-permutation entries sorted found.0 p found.1 in
      let kept = Any-dedup one_key_equiv sorted found.0 there in
      let entry = kept.1 in
      let is_kept : Contains (dedup one_key sorted) entry = (kept.0, kept.2, kept.3) in
      let keys : found.0.item.key.now ≡ entry.item.key.now = (bytes_eq-Decides found.0.item.key.now entry.item.key.now).0 kept.4 in
      (entry.item, in_map (λ (entry : PrefixedEntry). entry.item) (dedup one_key sorted) entry is_kept, ap (λ (item : Item). item.key.now) found.2 ∙ keys);
}

-- the clauses of a run hold of the entries beside the second numbers
pub starts_of_items : (high low : ℕ) (run entries : List PrefixedEntry) → items_of entries ≡ items_of run → All (λ entry. HasStart high low entry.item) run
    → All (λ entry. HasStart high low entry.item) entries
starts_of_items high low run entries same starts k d within =
    let x = get_or entries k d in
    let there : Contains (items_of entries) x.item = in_map (λ (entry : PrefixedEntry). entry.item) entries x (Contains-get_or entries k d within) in
    let found = from_map (λ (entry : PrefixedEntry). entry.item) run x.item (subst (λ (items : List Item). Contains items x.item) same there) in
    subst (HasStart high low) (sym found.2) (All-contains (λ (entry : PrefixedEntry). HasStart high low entry.item) run found.0 starts found.1)

-- a run of one entry
pub alone : (entry : PrefixedEntry) → IsInOrder (items_of (entry ∷ [])) (entry.item ∷ [])
unfolding IsStrictlySortedBy
alone entry = record {
  rising = (tt, tt);
  drawn = λ x inside. inside;
  kept = λ x inside. (x, inside, refl);
}

pub alone_of : (run : List PrefixedEntry) → length run ≡ 1 → IsInOrder (items_of run) (items_of run)
alone_of [] one = absurd (omega (arith, one))
alone_of (x ∷ []) one = alone x
alone_of (x ∷ y ∷ run) one = absurd (omega (arith, one))

-- ---- one run after another

all_append : {X : Type 0} (P : X → Type 0) (xs ys : List X) → AllByRecursion P xs → AllByRecursion P ys → AllByRecursion P (xs ++ ys)
all_append P [] ys h g = g
all_append P (x ∷ xs) ys h g = (h.0, all_append P xs ys h.1 g)

all_of : {X : Type 0} (P : X → Type 0) (ys : List X) → ((y : X) → Contains ys y → P y) → AllByRecursion P ys
all_of P [] h = tt
all_of P (y ∷ ys) h = (h y (here y ys), all_of P ys (λ z inside. h z (in_rest y ys z inside)))

rising_append : (xs ys : List Item) → IsStrictlySortedBy (λ (x y : Item). order x.key.now y.key.now) xs → IsStrictlySortedBy (λ (x y : Item). order x.key.now y.key.now) ys
    → ((x y : Item) → Contains xs x → Contains ys y → IsBelow x.key.now y.key.now) → IsStrictlySortedBy (λ (x y : Item). order x.key.now y.key.now) (xs ++ ys)
unfolding IsStrictlySortedBy
rising_append [] ys h g below = g
rising_append (x ∷ xs) ys h g below = (
  all_append (λ (y : Item). order x.key.now y.key.now ≡ Less) xs ys h.0 (all_of (λ (y : Item). order x.key.now y.key.now ≡ Less) ys (λ y inside. below x y (here x xs) inside)),
  rising_append xs ys h.1 g (λ z y z_in y_in. below z y (in_rest x xs z z_in) y_in),
)

joined : (xs us ys vs : List Item) → IsInOrder xs us → IsInOrder ys vs → ((x y : Item) → Contains xs x → Contains ys y → IsBelow x.key.now y.key.now) → IsInOrder (xs ++ ys) (us ++ vs)
joined xs us ys vs first second below = record {
  rising = rising_append us vs first.rising second.rising (λ x y x_in y_in. below x y (first.drawn x x_in) (second.drawn y y_in));
  drawn = λ x inside.
      elim (Contains-append_cases us vs x inside) [
        | inl l ↦ Contains-append_left xs ys x (first.drawn x l)
        | inr r ↦ Contains-append_right xs ys x (second.drawn x r)
      ];
  kept = λ x inside.
      elim (Contains-append_cases xs ys x inside) [
        | inl l ↦ let kept = first.kept x l in (kept.0, Contains-append_left us vs kept.0 kept.1, kept.2)
        | inr r ↦ let kept = second.kept x r in (kept.0, Contains-append_right us vs kept.0 kept.1, kept.2)
      ];
}

none_in_order : IsInOrder [] []
unfolding IsStrictlySortedBy
none_in_order = record {
  rising = tt;
  drawn = λ x inside. inside;
  kept = λ x inside. (x, inside, refl);
}

-- all but the rest were appended
pub record IsSoFar (all rest : List PrefixedEntry) (before entries : List Item) : Type 0 where
  pub done : List PrefixedEntry
  pub split : all ≡ done ++ rest
  pub appended : AppendsInOrder (items_of done) before entries
  pub apart : (x y : PrefixedEntry) → Contains done x → Contains rest y → IsBelow (numbers_of x) (numbers_of y)

pub begins : (all : List PrefixedEntry) (before : List Item) → IsSoFar all all before before
begins all before = record {
  done = [];
  split = refl;
  appended = ([], sym (append-nil before), none_in_order);
  apart = λ x y x_in y_in. absurd (none x x_in);
}

sorted_rest : (done rest : List PrefixedEntry) → IsSortedByKey numbers_of order (done ++ rest) → IsSortedByKey numbers_of order rest
sorted_rest done rest sorted = λ k d from within.
    let long = length-append done rest in
    let here = sorted (length done + k) d (omega arith) (omega (arith, long, within)) in
    let next : get_or (done ++ rest) (length done + k + 1) d ≡ get_or rest (k + 1) d = ap (λ (n : ℕ). get_or (done ++ rest) n d) {x = length done + k + 1} {y = length done + (k + 1)} (omega arith) ∙ get_or-append-add done rest (k + 1) d in
    rw (next, get_or-append-add done rest k d) at here

first_rest : (done rest : List PrefixedEntry) → All IsByFirstBytes (done ++ rest) → All IsByFirstBytes rest
first_rest done rest first k d within =
    let long = length-append done rest in
    subst IsByFirstBytes (get_or-append-add done rest k d) (first (length done + k) d (omega (arith, long, within)))

same_of : (a b : List ℕ) → order a b ≡ Equal → a ≡ b
same_of a b e = (bytes_eq-Decides a b).0 (sym (is_eq-slice_cmp a b) ∙ ap is_eq e)

is_below : (a b : List ℕ) → is_lt (order b a) ≡ false → b ≢ a → IsBelow a b
is_below a b not_less apart = decide (order b a) refl
  where
    decide : (o : Ordering) → order b a ≡ o → IsBelow a b
    decide Less e = absurd (cc)
    decide Equal e = absurd (apart (same_of b a e))
    decide Greater e = nat_list_cmp_total.antisymm a b ∙ ap ordering_reverse e

below_then : (a b c : List ℕ) → IsBelow a b → is_lt (order c b) ≡ false → IsBelow a c
below_then a b c below not_less = decide (order c b) refl
  where
    decide : (o : Ordering) → order c b ≡ o → IsBelow a c
    decide Less e = absurd (cc)
    decide Equal e = subst (IsBelow a) (sym (same_of c b e)) below
    decide Greater e = nat_list_cmp_total.trans a b c below (nat_list_cmp_total.antisymm b c ∙ ap ordering_reverse e)

module _ (rest : List PrefixedEntry) (n : ℕ) (sorted : IsSortedByKey numbers_of order rest) (is_run : IsRun rest n) where
  -- the next entry after a run has higher numbers, and those after it no lower ones
  run_apart : (x y : PrefixedEntry) → Contains (take n rest) x → Contains (drop n rest) y → IsBelow (numbers_of x) (numbers_of y)
  run_apart x y x_in y_in =
      let within = is_run.within in
      let some = is_run.some in
      let i = x_in.0 in
      let j = y_in.0 in
      let i_within : i < n = omega (arith, x_in.1, length-take-le n rest within) in
      let j_within : n + j < length rest = omega (arith, y_in.1, length-drop n rest) in
      let far = sorted_far _ (ranks_by nat_list_cmp_total numbers_of) rest sorted in
      let x_is : get_or rest i x ≡ x = sym (get_or-take n rest i x i_within) ∙ x_in.2 in
      let y_is : get_or rest (n + j) x ≡ y = get_or_default rest (n + j) x y j_within ∙ sym (get_or-drop n rest j y) ∙ y_in.2 in
      let first : numbers_of x ≡ numbers_of (get_or rest 0 x) = ap numbers_of (sym x_is) ∙ is_run.same i x i_within in
      let rises : IsBelow (numbers_of (get_or rest 0 x)) (numbers_of (get_or rest n x)) = is_below (numbers_of (get_or rest 0 x)) (numbers_of (get_or rest n x)) (far 0 n x (omega arith) (omega (arith, j_within))) (is_run.ends x (omega (arith, j_within))) in
      let then : IsBelow (numbers_of (get_or rest 0 x)) (numbers_of (get_or rest (n + j) x)) = below_then (numbers_of (get_or rest 0 x)) (numbers_of (get_or rest n x)) (numbers_of (get_or rest (n + j) x)) rises (far n (n + j) x (omega arith) j_within) in
      subst (λ (zs : List ℕ). IsBelow zs (numbers_of y)) (sym first) (subst (λ (z : PrefixedEntry). IsBelow (numbers_of (get_or rest 0 x)) (numbers_of z)) y_is then)

one_start : (rest : List PrefixedEntry) (n : ℕ) → IsRun rest n → All IsByFirstBytes rest → HaveOneStart (take n rest)
one_start [] n is_run first = absurd (omega (arith, is_run.some, is_run.within))
one_start (head ∷ others) n is_run first = (
  head.high,
  head.low,
  λ k d within.
      let k_within : k < n = omega (arith, within, length-take-le n (head ∷ others) is_run.within) in
      let same : numbers_of (get_or (head ∷ others) k d) ≡ numbers_of head = is_run.same k d k_within in
      let one : HasStart (get_or (head ∷ others) k d).high (get_or (head ∷ others) k d).low (get_or (head ∷ others) k d).item = first k d (omega (arith, k_within, is_run.within)) in
      let is : get_or (take n (head ∷ others)) k d ≡ get_or (head ∷ others) k d = get_or-take n (head ∷ others) k d k_within in
      let high : (get_or (head ∷ others) k d).high ≡ head.high = ap front_of same in
      let low : (get_or (head ∷ others) k d).low ≡ head.low = ap back_of same in
      subst (λ (z : PrefixedEntry). HasStart head.high head.low z.item) (sym is)
      (subst (λ (m : ℕ). HasStart head.high m (get_or (head ∷ others) k d).item) low
      (subst (λ (m : ℕ). HasStart m (get_or (head ∷ others) k d).low (get_or (head ∷ others) k d).item) high one)),
)
  where
    front_of : List ℕ → ℕ
    front_of xs = get_or xs 0 0

    back_of : List ℕ → ℕ
    back_of xs = get_or xs 1 0

-- entries whose numbers are below have keys that are
first_below : (x y : PrefixedEntry) → IsByFirstBytes x → IsByFirstBytes y → IsBelow (numbers_of x) (numbers_of y) → IsBelow x.item.key.now y.item.key.now
first_below x y x_first y_first below = lower_start x.high x.low y.high y.low x.item.key.now y.item.key.now x_first.0 y_first.0 x_first.1 y_first.1 below

-- a run more was appended
pub goes_on : (all rest : List PrefixedEntry) (n : ℕ) (before mid after : List Item) → IsSortedByKey numbers_of order all → All IsByFirstBytes all
    → IsSoFar all rest before mid → IsRun rest n → (HaveOneStart (take n rest) → AppendsInOrder (items_of (take n rest)) mid after)
    → IsSoFar all (drop n rest) before after
goes_on all rest n before mid after sorted first so is_run appends =
    let run = take n rest in
    let cut : run ++ drop n rest ≡ rest = take-append-drop n rest in
    let rest_sorted = sorted_rest so.done rest (subst (λ (xs : List PrefixedEntry). IsSortedByKey numbers_of order xs) so.split sorted) in
    let all_first : All IsByFirstBytes (so.done ++ rest) = subst (λ (xs : List PrefixedEntry). All IsByFirstBytes xs) so.split first in
    let rest_first = first_rest so.done rest all_first in
    let in_all : (x : PrefixedEntry) → Contains so.done x → IsByFirstBytes x = λ x inside. All-contains IsByFirstBytes (so.done ++ rest) x all_first (Contains-append_left so.done rest x inside) in
    let in_rest_too : (x : PrefixedEntry) → Contains run x → Contains rest x = λ x inside. subst (λ (xs : List PrefixedEntry). Contains xs x) cut (Contains-append_left run (drop n rest) x inside) in
    let in_rest_after : (x : PrefixedEntry) → Contains (drop n rest) x → Contains rest x = λ x inside. subst (λ (xs : List PrefixedEntry). Contains xs x) cut (Contains-append_right run (drop n rest) x inside) in
    let new = appends (one_start rest n is_run rest_first) in
    let old = so.appended in
    record {
      done = so.done ++ run;
      split = so.split ∙ ap (λ (xs : List PrefixedEntry). so.done ++ xs) (sym cut) ∙ sym (append_assoc so.done run (drop n rest));
      appended = (
        old.0 ++ new.0,
        new.1 ∙ ap (λ (xs : List Item). xs ++ new.0) old.1 ∙ append_assoc before old.0 new.0,
        subst (λ (xs : List Item). IsInOrder xs (old.0 ++ new.0)) (sym (map-append (λ (entry : PrefixedEntry). entry.item) so.done run))
            (joined (items_of so.done) old.0 (items_of run) new.0 old.2 new.2 (λ x y x_in y_in.
            let xs = from_map (λ (entry : PrefixedEntry). entry.item) so.done x x_in in
            let ys = from_map (λ (entry : PrefixedEntry). entry.item) run y y_in in
            let y_rest = in_rest_too ys.0 ys.1 in
            rw (xs.2, ys.2) (first_below xs.0 ys.0 (in_all xs.0 xs.1) (All-contains IsByFirstBytes rest ys.0 rest_first y_rest) (so.apart xs.0 ys.0 xs.1 y_rest)))),
      );
      apart = λ x y x_in y_in.
          elim (Contains-append_cases so.done run x x_in) [
            | inl l ↦ so.apart x y l (in_rest_after y y_in)
            | inr r ↦ run_apart rest n rest_sorted is_run x y r y_in
          ];
    }

-- what was sorted by the numbers is that of the entries themselves
pub of_all : (old new : List Item) (entries sorted : List PrefixedEntry) → items_of entries ≡ old → IsPermutation entries sorted → AppendsInOrder (items_of sorted) [] new → IsInOrder old new
of_all old new entries sorted same p appended =
    let order_of : IsInOrder (items_of sorted) new = subst (λ (xs : List Item). IsInOrder (items_of sorted) xs) (sym appended.1) appended.2 in
    record {
      rising = order_of.rising;
      drawn = λ x inside.
          let found = from_map (λ (entry : PrefixedEntry). entry.item) sorted x (order_of.drawn x inside) in
          let there = in_map (λ (entry : PrefixedEntry). entry.item) entries found.0 (Contains-permutation sorted entries found.0 (IsPermutation-sym _ _ p) found.1) in
          subst (λ (xs : List Item). Contains xs x) same (subst (λ (y : Item). Contains (items_of entries) y) (sym found.2) there);
      kept = λ x inside.
          let found = from_map (λ (entry : PrefixedEntry). entry.item) entries x (subst (λ (xs : List Item). Contains xs x) (sym same) inside) in
          let there = in_map (λ (entry : PrefixedEntry). entry.item) sorted found.0 (Contains-permutation entries sorted found.0 p found.1) in
          order_of.kept x (subst (λ (y : Item). Contains (items_of sorted) y) (sym found.2) there);
    }
