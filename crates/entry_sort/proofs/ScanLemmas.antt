-- The least line that repeats a reference is found.
use Rattle.std.proofs.Common.{◌≡◌, ◌⊎◌, inl, inr, ℕ, ◌<◌, ◌≤◌, nat_lt, Bool, true, false, cond, List, [], ◌∷◌, ◌++◌, length, map, take, Option, Some, None, MatchOption, refl, sym, ap, subst, ◌∙◌, arith, append_assoc, append-nil}
use Rattle.std.specs.Int.{w64, from_be_bytes, to_be_bytes}
use Rattle.std.specs.List.{AllByRecursion, Contains}
use Rattle.std.specs.List.Sorted.{IsPermutation}
use Rattle.std.specs.Ordering.{is_lt}
use Rattle.std.proofs.lemmas.List.{map-append}
use Rattle.std.proofs.lemmas.List.Elements.{Contains-append_cases, Contains-append_left, Contains-append_right}
use Rattle.std.proofs.lemmas.List.Sorted.{Contains-permutation, IsPermutation-sym}
use Rattle.std.proofs.lemmas.Nat.{from_be_bytes-to_be_bytes_8}
use Rattle.tree_node.specs.Order.{order}
use Rattle.tree_node.specs.internal.OrderLemmas.{order_itself}
use Rattle.osm_keys.proofs.shared.Members.{first_or_in_rest, here, in_rest, none}
use Rattle.external_sort.specs.Records.{Entry, Rises}
use Rattle.entry_sort.specs.internal.Once.{is_new}
use Rattle.entry_sort.specs.internal.Names.{IsLeast, IsLeastRepeat, Repeats, least_of, line_of, scan, start, stepped}
use Rattle.entry_sort.specs.declared.repeat_scan.RepeatScan.{RepeatScan}
use Rattle.entry_sort.proofs.OnceLemmas.{same_key}

lt_true : (a b : ℕ) → nat_lt a b ≡ true → a < b
lt_true a b t = grind arith

lt_false : (a b : ℕ) → nat_lt a b ≡ false → b ≤ a
lt_false a b f = grind arith

-- ---- one record more

in_more : (names : List Entry) (e y : Entry) → Contains names y → Contains (names ++ e ∷ []) y
in_more names e y h = Contains-append_left names (e ∷ []) y h

the_more : (names : List Entry) (e : Entry) → Contains (names ++ e ∷ []) e
the_more names e = Contains-append_right names (e ∷ []) e (here e [])

pub more_cases : (names : List Entry) (e y : Entry) → Contains (names ++ e ∷ []) y → Contains names y ⊎ (e ≡ y)
more_cases names e y h =
    elim (Contains-append_cases names (e ∷ []) y h) [
      | inl old ↦ inl old
      | inr last ↦ elim (first_or_in_rest e [] y last) [ inl same ↦ inr same | inr never ↦ absurd (none y never) ]
    ]

still_repeats : (names : List Entry) (e y : Entry) → Repeats names y → Repeats (names ++ e ∷ []) y
still_repeats names e y r = record { there = in_more names e y r.there; earlier = r.earlier; earlier_there = in_more names e r.earlier r.earlier_there; same = r.same; before = r.before }

-- what repeats then is one that repeated before, or is the new one, or repeats the new one
data Kind (names : List Entry) (e y : Entry) : Type 0 where
  Old : Repeats names y → Kind names e y
  New : e ≡ y → (w : Entry) → Contains names w → w.key ≡ e.key → (line_of w) < (line_of e) → Kind names e y
  OfNew : Contains names y → e.key ≡ y.key → (line_of e) < (line_of y) → Kind names e y

kinds : (names : List Entry) (e y : Entry) → Repeats (names ++ e ∷ []) y → Kind names e y
kinds names e y r = at (more_cases names e y r.there) (more_cases names e r.earlier r.earlier_there)
  where
    at : Contains names y ⊎ (e ≡ y) → Contains names r.earlier ⊎ (e ≡ r.earlier) → Kind names e y
    at (inl h) (inl k) = Old (record { there = h; earlier = r.earlier; earlier_there = k; same = r.same; before = r.before })
    at (inl h) (inr k) = OfNew h (ap (λ (n : Entry). n.key) k ∙ r.same) (subst (λ (n : Entry). line_of n < (line_of y)) (sym k) r.before)
    at (inr h) (inl k) = New h r.earlier k (r.same ∙ ap (λ (n : Entry). n.key) (sym h)) (subst (λ (n : Entry). (line_of r.earlier) < (line_of n)) (sym h) r.before)
    at (inr h) (inr k) = absurd (omega (arith, r.before, ap (λ (n : Entry). line_of n) (sym k ∙ h)))

-- the same ones repeat
same_least : (old new : List Entry) (found : Option ℕ) → ((y : Entry) → Repeats old y → Repeats new y) → ((y : Entry) → Repeats new y → Repeats old y) → IsLeastRepeat old found → IsLeastRepeat new found
same_least old new None f g h = λ y r. h y (g y r)
same_least old new (Some line) f g h = record { one = h.one; repeats = f h.one h.repeats; line_is = h.line_is; least = λ y r. h.least y (g y r) }

lesser : (old new : List Entry) (first : ℕ) (x : Entry) (b : Bool) → nat_lt (line_of x) first ≡ b → IsLeast old first → Repeats new x → ((y : Entry) → Repeats old y → Repeats new y) → ((y : Entry) → Repeats new y → Repeats old y ⊎ ((line_of x) ≤ (line_of y)))
    → IsLeast new (cond b (line_of x) first)
lesser old new first x true t h rx f g =
    let lt : line_of x < first = lt_true (line_of x) first t in
    record { one = x; repeats = rx; line_is = refl; least = λ y r. elim (g y r) [ inl o ↦ (let le = h.least y o in omega (arith, le, lt)) | inr le ↦ le ] }
lesser old new first x false t h rx f g =
    let le' : first ≤ line_of x = lt_false (line_of x) first t in
    record { one = h.one; repeats = f h.one h.repeats; line_is = h.line_is; least = λ y r. elim (g y r) [ inl o ↦ h.least y o | inr le ↦ omega (arith, le, le') ] }

-- one more repeats
more_least : (old new : List Entry) (found : Option ℕ) (x : Entry) → IsLeastRepeat old found → Repeats new x → ((y : Entry) → Repeats old y → Repeats new y) → ((y : Entry) → Repeats new y → Repeats old y ⊎ ((line_of x) ≤ (line_of y)))
    → IsLeast new (least_of found (line_of x))
more_least old new None x h rx f g = record { one = x; repeats = rx; line_is = refl; least = λ y r. elim (g y r) [ inl o ↦ absurd (h y o) | inr le ↦ le ] }
more_least old new (Some first) x h rx f g = lesser old new first x (nat_lt (line_of x) first) refl h rx f g

-- ---- the scan

-- the last reference, and its least line
record At (names : List Entry) (key : List ℕ) (line : ℕ) : Type 0 where
  one : Entry
  there : Contains names one
  key_is : one.key ≡ key
  line_is : (line_of one) ≡ line
  least : (z : Entry) → Contains names z → z.key ≡ key → line ≤ (line_of z)
  top : (z : Entry) → Contains names z → is_lt (order key z.key) ≡ false

record Scanned (names : List Entry) (s : RepeatScan) : Type 0 where
  found : IsLeastRepeat names s.found
  at : MatchOption s.last (names ≡ []) (λ (key : List ℕ). At names key s.least)

module _ (names : List Entry) (e : Entry) (rises : (z : Entry) → Contains names z → is_lt (order e.key z.key) ≡ false) where
  all : List Entry
  all = names ++ e ∷ []

  fresh : (last : Option (List ℕ)) (least : ℕ) → MatchOption last (names ≡ []) (λ (key : List ℕ). At names key least) → is_new last e.key ≡ true → (z : Entry) → Contains names z → z.key ≡ e.key → ⊥
  fresh None least empty t z h same = none z (subst (λ (ns : List Entry). Contains ns z) empty h)
  fresh (Some key) least at t z h same =
      let below : is_lt (order key e.key) ≡ false = subst (λ (k : List ℕ). is_lt (order key k) ≡ false) same (at.top z h) in
      let both : true ≡ false = sym t ∙ below in
      cc

  itself : is_lt (order e.key e.key) ≡ false
  itself = ap is_lt (order_itself e.key)

  -- the first line of a reference
  first_line : (z : Entry) → Contains (names ++ e ∷ []) z → is_lt (order e.key z.key) ≡ false
  first_line z h = elim (more_cases names e z h) [ inl old ↦ rises z old | inr same ↦ subst (λ (n : Entry). is_lt (order e.key n.key) ≡ false) same itself ]

  new_one : (s : RepeatScan) → Scanned names s → is_new s.last e.key ≡ true → Scanned (names ++ e ∷ []) (record { last = Some e.key; least = (line_of e); found = s.found })
  new_one s h t =
      let apart = fresh s.last s.least h.at t in
      record {
        found = same_least names (names ++ e ∷ []) s.found (still_repeats names e)
            (λ y r. elim (kinds names e y r) [
              | Old o ↦ o
              | New is w has same lt ↦ absurd (apart w has same)
              | OfNew has same lt ↦ absurd (apart y has (sym same))
            ])
            h.found;
        at = record {
          one = e;
          there = the_more names e;
          key_is = refl;
          line_is = refl;
          least = λ z k same. elim (more_cases names e z k) [ inl old ↦ absurd (apart z old same) | inr is ↦ omega (arith, ap (λ (n : Entry). line_of n) is) ];
          top = first_line;
        };
      }

  module _ (key : List ℕ) (line : ℕ) (h : At names key line) (f : is_lt (order key e.key) ≡ false) where
    one_key : key ≡ e.key
    one_key = same_key key e.key f (subst (λ (k : List ℕ). is_lt (order e.key k) ≡ false) h.key_is (rises h.one h.there))

    on_top : (z : Entry) → Contains (names ++ e ∷ []) z → is_lt (order key z.key) ≡ false
    on_top z k = elim (more_cases names e z k) [ inl old ↦ h.top z old | inr same ↦ subst (λ (n : Entry). is_lt (order key n.key) ≡ false) same f ]

    -- the least line stays
    stays : line ≤ (line_of e) → At (names ++ e ∷ []) key line
    stays le = record {
      one = h.one;
      there = in_more names e h.one h.there;
      key_is = h.key_is;
      line_is = h.line_is;
      least = λ z k same. elim (more_cases names e z k) [ inl old ↦ h.least z old same | inr is ↦ omega (arith, le, ap (λ (n : Entry). line_of n) is) ];
      top = on_top;
    }

    -- the new one has a lesser line
    falls : (line_of e) < line → At (names ++ e ∷ []) key (line_of e)
    falls lt = record {
      one = e;
      there = the_more names e;
      key_is = sym one_key;
      line_is = refl;
      least = λ z k same. elim (more_cases names e z k) [ inl old ↦ (let le = h.least z old same in omega (arith, le, lt)) | inr is ↦ omega (arith, ap (λ (n : Entry). line_of n) is) ];
      top = on_top;
    }

    higher : (found : Option ℕ) → IsLeastRepeat names found → line < (line_of e) → IsLeast (names ++ e ∷ []) (least_of found (line_of e))
    higher found least lt = more_least names (names ++ e ∷ []) found e least
        (record { there = the_more names e; earlier = h.one; earlier_there = in_more names e h.one h.there; same = h.key_is ∙ one_key; before = omega (arith, lt, h.line_is) })
        (still_repeats names e)
        (λ y r. elim (kinds names e y r) [
          | Old o ↦ inl o
          | New is w has same below ↦ inr (omega (arith, ap (λ (n : Entry). line_of n) is))
          | OfNew has same below ↦ inr (omega (arith, below))
        ])

    lower : (found : Option ℕ) → IsLeastRepeat names found → (line_of e) < line → IsLeast (names ++ e ∷ []) (least_of found line)
    lower found least lt = subst (λ (n : ℕ). IsLeast (names ++ e ∷ []) (least_of found n)) h.line_is (more_least names (names ++ e ∷ []) found h.one least
        (record { there = in_more names e h.one h.there; earlier = e; earlier_there = the_more names e; same = sym one_key ∙ sym h.key_is; before = omega (arith, lt, h.line_is) })
        (still_repeats names e)
        (λ y r. elim (kinds names e y r) [
          | Old o ↦ inl o
          | New is w has same below ↦ absurd (let le = h.least w has (same ∙ sym one_key) in omega (arith, le, below, lt))
          | OfNew has same below ↦ inr (let le = h.least y has (sym same ∙ sym one_key) in omega (arith, le, h.line_is))
        ]))

    level : (found : Option ℕ) → IsLeastRepeat names found → line ≡ (line_of e) → IsLeastRepeat (names ++ e ∷ []) found
    level found least eq = same_least names (names ++ e ∷ []) found (still_repeats names e)
        (λ y r. elim (kinds names e y r) [
          | Old o ↦ o
          | New is w has same below ↦ absurd (let le = h.least w has (same ∙ sym one_key) in omega (arith, le, below, eq))
          | OfNew has same below ↦ record { there = has; earlier = h.one; earlier_there = h.there; same = h.key_is ∙ one_key ∙ same; before = omega (arith, below, eq, h.line_is) }
        ])
        least

  -- a reference that came before
  old_one : (last : Option (List ℕ)) (least : ℕ) (found : Option ℕ) → IsLeastRepeat names found → MatchOption last (names ≡ []) (λ (key : List ℕ). At names key least) → is_new last e.key ≡ false
      → (a b : Bool) → nat_lt least (line_of e) ≡ a → nat_lt (line_of e) least ≡ b
      → Scanned (names ++ e ∷ []) (cond a (record { last = last; least = least; found = Some (least_of found (line_of e)) }) (cond b (record { last = last; least = (line_of e); found = Some (least_of found least) }) (record { last = last; least = least; found = found })))
  old_one None least found h at f a b p q = cc
  old_one (Some key) least found h at f true b p q =
      let lt : least < line_of e = lt_true least (line_of e) p in
      record { found = higher key least at f found h lt; at = stays key least at f (omega (arith, lt)) }
  old_one (Some key) least found h at f false true p q =
      let lt : line_of e < least = lt_true (line_of e) least q in
      record { found = lower key least at f found h lt; at = falls key least at f lt }
  old_one (Some key) least found h at f false false p q =
      let eq : least ≡ line_of e = omega (arith, lt_false least (line_of e) p, lt_false (line_of e) least q) in
      record { found = level key least at f found h eq; at = stays key least at f (omega (arith, eq)) }

  step : (s : RepeatScan) → Scanned names s → Scanned (names ++ e ∷ []) (stepped s e.key (line_of e))
  step s h = at (is_new s.last e.key) refl
    where
      at : (b : Bool) → is_new s.last e.key ≡ b → Scanned (names ++ e ∷ []) (stepped s e.key (line_of e))
      at true t = rw t (new_one s h t)
      at false f = rw f (old_one s.last s.least s.found h.found h.at f (nat_lt s.least (line_of e)) (nat_lt (line_of e) s.least) refl refl)

-- ---- all of them

-- none is below one before it
none_below : (done : List Entry) (e : Entry) (rest : List Entry) → Rises (done ++ e ∷ rest) → (z : Entry) → Contains done z → is_lt (order e.key z.key) ≡ false
none_below [] e rest r z h = absurd (none z h)
none_below (x ∷ done) e rest r z h =
    elim (first_or_in_rest x done z h) [
      | inl same ↦ subst (λ (n : Entry). is_lt (order e.key n.key) ≡ false) same (last done r.0)
      | inr more ↦ none_below done e rest r.1 z more
    ]
  where
    last : (ds : List Entry) → AllByRecursion (λ (f : Entry). is_lt (order f.key x.key) ≡ false) (ds ++ e ∷ rest) → is_lt (order e.key x.key) ≡ false
    last [] a = a.0
    last (d ∷ ds) a = last ds a.1

scanned : (done rest : List Entry) (s : RepeatScan) → Rises (done ++ rest) → Scanned done s → Scanned (done ++ rest) (scan s rest)
scanned done [] s r h = subst (λ (ns : List Entry). Scanned ns s) (sym (append-nil done)) h
scanned done (e ∷ rest) s r h =
    let next = stepped s e.key (line_of e) in
    let moved : (done ++ e ∷ []) ++ rest ≡ done ++ e ∷ rest = append_assoc done (e ∷ []) rest in
    let one : Scanned (done ++ e ∷ []) next = step done e (none_below done e rest r) s h in
    let all = scanned (done ++ e ∷ []) rest next (subst Rises (sym moved) r) one in
    subst (λ (ns : List Entry). Scanned ns (scan next rest)) moved all

nothing : IsLeastRepeat [] None
nothing = λ x r. none x r.there

-- what the scan of all records finds
pub scan_finds : (records : List Entry) → Rises records → IsLeastRepeat records (scan start records).found
scan_finds records r = (scanned [] records start r (record { found = nothing; at = refl })).found

moved_repeats : (old new : List Entry) → ((z : Entry) → Contains old z → Contains new z) → (y : Entry) → Repeats old y → Repeats new y
moved_repeats old new f y r = record { there = f y r.there; earlier = r.earlier; earlier_there = f r.earlier r.earlier_there; same = r.same; before = r.before }

-- the order of the names is of no account
pub least_moves : (names sorted : List Entry) (found : Option ℕ) → IsPermutation names sorted → IsLeastRepeat sorted found → IsLeastRepeat names found
least_moves names sorted found p h =
    same_least sorted names found
    (moved_repeats sorted names (λ z k. Contains-permutation sorted names z (IsPermutation-sym names sorted p) k))
    (moved_repeats names sorted (λ z k. Contains-permutation names sorted z p k)) h
