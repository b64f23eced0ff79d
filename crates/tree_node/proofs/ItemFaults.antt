-- Items that are at fault, as a reader that goes from left to right meets them.
use Rattle.std.proofs.Common.{◌≡◌, ◌≢◌, ℕ, zero, suc, ◌+◌, ◌-◌, ◌<◌, Bool, true, false, cond, List, [], ◌∷◌, ◌++◌, ◌⊎◌, length, Option, Some, Result, Ok, Err, refl, sym, ap, subst, ◌∙◌, append_assoc, arith, inl, inr}
use Rattle.std.specs.Prelude.{IfSome}
use Rattle.std.specs.List.{flat_map, AllByRecursion}
use Rattle.std.proofs.lemmas.Bool.{cases_Bool}
use Rattle.std.proofs.lemmas.List.{drop_at}
use Rattle.std.proofs.lemmas.List.Concat.{flat_map-cons}
use Rattle.tree_node.specs.declared.fault.NodeFault.{NodeFault}
use Rattle.tree_node.specs.declared.fault.NodeFault.TheVariants.{CutShort, BytesAfter, BadCount, NotRising, BadTreeOrLevel}
use Rattle.tree_node.specs.Nodes.{AreBytes}
use Rattle.tree_node.specs.Order.{IsBelow}
use Rattle.tree_node.specs.Faults.{Form, Rise, BeginsWith, HasNoItem, ItemsFault}
use Rattle.tree_node.specs.Fronts.{◌>>=◌}
use Rattle.tree_node.specs.internal.Reading.{is_above}
use Rattle.tree_node.proofs.shared.FieldLemmas.{AreBytes-drop, Takes}
use Rattle.tree_node.proofs.shared.NodeLaws.{above_is, above_true}

-- a reader of one item, and one of items in turn
pub record IsReader {X : Type 0} (form : Form X) (at : List ℕ → Result (X × List ℕ) NodeFault) (after : ℕ → Option (List ℕ) → List ℕ → Result (List ℕ) NodeFault) : Type 0 where
  pub takes : (bytes : List ℕ) (x : X × List ℕ) → AreBytes bytes → at bytes ≡ Ok x → Takes bytes (form.spell x.0) x.1 × form.Shaped x.0 × form.InRange x.0
  pub again : (x : X) (rest : List ℕ) → form.Shaped x → form.InRange x → at (form.spell x ++ rest) ≡ Ok (x, rest)
  pub far : (x : X) (rest : List ℕ) → form.Shaped x → ¬ form.InRange x → at (form.spell x ++ rest) ≡ Err BadCount
  pub fails : (bytes : List ℕ) (e : NodeFault) → AreBytes bytes → at bytes ≡ Err e
      → ((e ≡ CutShort) × HasNoItem form bytes) ⊎ ((e ≡ BadCount) × ((x : X) × (rest : List ℕ) × (bytes ≡ form.spell x ++ rest) × form.Shaped x × ¬ form.InRange x))
  pub none : (low : Option (List ℕ)) (bytes : List ℕ) → after 0 low bytes ≡ Ok bytes
  pub some : (n : ℕ) (low : Option (List ℕ)) (bytes : List ℕ)
      → after (suc n) low bytes ≡ (at bytes >>= λ first. cond (is_above low (form.key first.0)) (after n (Some (form.key first.0)) first.1) (Err NotRising))

-- a step that did not fail
abbrev done : {A : Type 0} → A → Result A NodeFault
done x = Ok x

-- a step that failed
abbrev fault_of : {A : Type 0} → NodeFault → Result A NodeFault
fault_of e = Err e

-- two equal failures have equal faults
err_is : {A : Type 0} (d e : NodeFault) → fault_of {A = A} d ≡ Err e → d ≡ e
err_is d e p = cc

-- a step that did not fail has no fault
not_both : {A : Type 0} (x : A) (e : NodeFault) → done x ≡ Err e → ⊥
not_both x e p = absurd cc

-- what comes after some bytes is of bytes too
pub AreBytes-after : (front rest : List ℕ) → AreBytes (front ++ rest) → AreBytes rest
AreBytes-after front rest fits = subst (λ (t : List ℕ). AreBytes t) (drop_at front rest (length front) refl) (AreBytes-drop (length front) (front ++ rest) fits)

module _ {X : Type 0} (form : Form X) (at : List ℕ → Result (X × List ℕ) NodeFault) (after : ℕ → Option (List ℕ) → List ℕ → Result (List ℕ) NodeFault) (reader : IsReader form at after) where
  -- one item more in front
  begins_cons : (low : Option (List ℕ)) (bytes : List ℕ) (x : X) (rest : List ℕ) (xs : List X) (end : List ℕ) → bytes ≡ form.spell x ++ rest
      → form.Shaped x → form.InRange x → IfSome low (λ l. IsBelow l (form.key x)) → BeginsWith form (Some (form.key x)) rest xs end → BeginsWith form low bytes (x ∷ xs) end
  begins_cons low bytes x rest xs end is shaped in_range above begins = record {
    parts = is ∙ ap (λ (t : List ℕ). form.spell x ++ t) begins.parts ∙ sym (append_assoc (form.spell x) (flat_map form.spell xs) end) ∙ ap (λ (t : List ℕ). t ++ end) (sym (flat_map-cons form.spell x xs));
    fit = ((shaped, in_range), begins.fit);
    rise = (above, begins.rise);
  }

  -- bytes begin with no items
  begins_none : (low : Option (List ℕ)) (bytes : List ℕ) → BeginsWith form low bytes [] bytes
  begins_none low bytes = record { parts = refl; fit = tt; rise = tt }

  -- a fault after one item is a fault of the whole
  fault_cons : (low : Option (List ℕ)) (n : ℕ) (bytes : List ℕ) (x : X) (rest : List ℕ) (e : NodeFault) → bytes ≡ form.spell x ++ rest
      → form.Shaped x → form.InRange x → IfSome low (λ l. IsBelow l (form.key x)) → ItemsFault form (Some (form.key x)) n rest e → ItemsFault form low (suc n) bytes e
  fault_cons low n bytes x rest CutShort is shaped in_range above (xs, end, begins, lt, none) =
      (x ∷ xs, end, begins_cons low bytes x rest xs end is shaped in_range above begins, omega arith, none)
  fault_cons low n bytes x rest BytesAfter is shaped in_range above (xs, end, begins, len, more) =
      (x ∷ xs, end, begins_cons low bytes x rest xs end is shaped in_range above begins, ap suc len, more)
  fault_cons low n bytes x rest BadCount is shaped in_range above (xs, y, end, begins, lt, fine, not_in) =
      (x ∷ xs, y, end, begins_cons low bytes x rest xs (form.spell y ++ end) is shaped in_range above begins, omega arith, fine, not_in)
  fault_cons low n bytes x rest NotRising is shaped in_range above (xs, y, end, begins, lt, fine, in2, not_up) =
      (x ∷ xs, y, end, begins_cons low bytes x rest xs (form.spell y ++ end) is shaped in_range above begins, omega arith, fine, in2, λ up. not_up up.1)
  fault_cons low n bytes x rest BadTreeOrLevel is shaped in_range above none = none

  -- the same for one item, where it is known of the others
  module _ (n : ℕ) (low : Option (List ℕ)) (bytes : List ℕ) (e : NodeFault) (fits : AreBytes bytes)
      (others : (l : Option (List ℕ)) (b : List ℕ) → AreBytes b → after n l b ≡ Err e → ItemsFault form l n b e) where
    first_fault : ((e ≡ CutShort) × HasNoItem form bytes) ⊎ ((e ≡ BadCount) × ((x : X) × (rest : List ℕ) × (bytes ≡ form.spell x ++ rest) × form.Shaped x × ¬ form.InRange x))
        → ItemsFault form low (suc n) bytes e
    first_fault (inl (short, none)) = subst (λ (d : NodeFault). ItemsFault form low (suc n) bytes d) (sym short) ([], bytes, begins_none low bytes, omega arith, none)
    first_fault (inr (count, (x, rest, parts, shaped, not_in))) =
        subst (λ (d : NodeFault). ItemsFault form low (suc n) bytes d) (sym count) ([], x, rest, record { parts = parts; fit = tt; rise = tt }, omega arith, shaped, not_in)

    -- where the first item was read
    above : (x : X) (rest : List ℕ) → at bytes ≡ Ok (x, rest) → (b : Bool) → is_above low (form.key x) ≡ b → cond b (after n (Some (form.key x)) rest) (Err NotRising) ≡ Err e → ItemsFault form low (suc n) bytes e
    above x rest read true up q =
        let took = reader.takes bytes (x, rest) fits read in
        fault_cons low n bytes x rest e took.0.parts took.1 took.2 (above_is low (form.key x) up) (others (Some (form.key x)) rest took.0.rest_fits q)
    above x rest read false down q =
        let took = reader.takes bytes (x, rest) fits read in
        subst (λ (d : NodeFault). ItemsFault form low (suc n) bytes d) (err_is {A = List ℕ} NotRising e q)
        ([], x, rest, record { parts = took.0.parts; fit = tt; rise = tt }, omega arith, took.1, took.2, λ up. let t = above_true low (form.key x) up.0 in absurd cc)

    -- whatever came of the first item
    stops_by : (o : Result (X × List ℕ) NodeFault) → at bytes ≡ o → (o >>= λ first. cond (is_above low (form.key first.0)) (after n (Some (form.key first.0)) first.1) (Err NotRising)) ≡ Err e → ItemsFault form low (suc n) bytes e
    stops_by (Err d) read q = first_fault (reader.fails bytes e fits (read ∙ ap (λ (x : NodeFault). fault_of {A = X × List ℕ} x) (err_is {A = List ℕ} d e q)))
    stops_by (Ok (x, rest)) read q = above x rest read (is_above low (form.key x)) refl q

  -- the fault at which the reader stops is a fault of the items
  pub stops : (n : ℕ) (low : Option (List ℕ)) (bytes : List ℕ) (e : NodeFault) → AreBytes bytes → after n low bytes ≡ Err e → ItemsFault form low n bytes e
  stops zero low bytes e fits is = absurd (not_both bytes e (sym (reader.none low bytes) ∙ is))
  stops (suc n) low bytes e fits is =
      stops_by n low bytes e fits (λ l b f q. stops n l b e f q) (at bytes) refl (sym (reader.some n low bytes) ∙ is)

  -- ---- the other way

  -- the key of the last item, or the one before them all
  abbrev last_of : Option (List ℕ) → List X → Option (List ℕ)
  last_of low [] = low
  last_of low (x ∷ xs) = last_of (Some (form.key x)) xs

  -- a good item is read
  one_read : (n : ℕ) (low : Option (List ℕ)) (x : X) (rest : List ℕ) → form.Shaped x → form.InRange x → is_above low (form.key x) ≡ true
      → after (suc n) low (form.spell x ++ rest) ≡ after n (Some (form.key x)) rest
  one_read n low x rest shaped in_range up =
      reader.some n low (form.spell x ++ rest) ∙ rw (reader.again x rest shaped in_range, up) refl

  -- good items are read
  all_read : (xs : List X) (k : ℕ) (low : Option (List ℕ)) (rest : List ℕ) → AllByRecursion (λ x. form.Shaped x × form.InRange x) xs → Rise form low xs
      → after (length xs + k) low (flat_map form.spell xs ++ rest) ≡ after k (last_of low xs) rest
  all_read [] k low rest fit rise = let none : 0 + k ≡ k = omega arith in ap (λ (m : ℕ). after m low rest) none
  all_read (x ∷ xs) k low rest fit rise =
      let regrouped : flat_map form.spell (x ∷ xs) ++ rest ≡ form.spell x ++ (flat_map form.spell xs ++ rest) = ap (λ (t : List ℕ). t ++ rest) (flat_map-cons form.spell x xs) ∙ append_assoc (form.spell x) (flat_map form.spell xs) rest in
      let count : length (x ∷ xs) + k ≡ suc (length xs + k) = omega arith in
      ap (λ (m : ℕ). after m low (flat_map form.spell (x ∷ xs) ++ rest)) count
      ∙ ap (after (suc (length xs + k)) low) regrouped
      ∙ one_read (length xs + k) low x (flat_map form.spell xs ++ rest) fit.0.0 fit.0.1 (above_true low (form.key x) rise.0)
      ∙ all_read xs k (Some (form.key x)) rest fit.1 rise.1

  -- an item above the last of rising ones rises with them
  rise_more : (xs : List X) (low : Option (List ℕ)) (x : X) → Rise form low xs → is_above (last_of low xs) (form.key x) ≡ true → Rise form low (xs ++ x ∷ [])
  rise_more [] low x rise up = (above_is low (form.key x) up, tt)
  rise_more (y ∷ ys) low x rise up = (rise.0, rise_more ys (Some (form.key y)) x rise.1 up)

  -- where no item stands, the reader says so
  short_read : (rest : List ℕ) → AreBytes rest → HasNoItem form rest → at rest ≡ Err CutShort
  short_read rest fits none = by (at rest) refl
    where
      by : (o : Result (X × List ℕ) NodeFault) → at rest ≡ o → o ≡ Err CutShort
      by (Ok (x, end)) read = absurd (let took = reader.takes rest (x, end) fits read in none x end took.1 took.0.parts)
      by (Err d) read =
          elim (reader.fails rest d fits read) [
            | inl short ↦ ap (λ (e : NodeFault). fault_of {A = X × List ℕ} e) short.0
            | inr far ↦ absurd (none far.1.0 far.1.1 far.1.3 far.1.2)
          ]

  -- where the first item fails, all do
  first_fails : (n : ℕ) (low : Option (List ℕ)) (rest : List ℕ) (e : NodeFault) → at rest ≡ Err e → after (suc n) low rest ≡ Err e
  first_fails n low rest e read = reader.some n low rest ∙ rw read refl

  -- where the first item is not above the key before it, all fail
  not_above : (n : ℕ) (low : Option (List ℕ)) (x : X) (rest : List ℕ) → form.Shaped x → form.InRange x → is_above low (form.key x) ≡ false
      → after (suc n) low (form.spell x ++ rest) ≡ Err NotRising
  not_above n low x rest shaped in_range down =
      reader.some n low (form.spell x ++ rest) ∙ rw (reader.again x rest shaped in_range, down) refl

  -- n items, of which some were read
  more_than : (xs : List X) (n : ℕ) → length xs < n → (k : ℕ) × (n ≡ length xs + suc k)
  more_than xs n lt = (n - (length xs + 1), omega arith)

  -- the reader stops at a fault of the items
  pub stopped : (n : ℕ) (low : Option (List ℕ)) (bytes : List ℕ) (e : NodeFault) → AreBytes bytes → ItemsFault form low n bytes e → e ≢ BytesAfter → after n low bytes ≡ Err e
  stopped n low bytes CutShort fits (xs, rest, begins, lt, none) other =
      let (k, is) = more_than xs n lt in
      let fits_rest = AreBytes-after (flat_map form.spell xs) rest (subst (λ (t : List ℕ). AreBytes t) begins.parts fits) in
      ap (λ m. after m low bytes) is ∙ ap (after (length xs + suc k) low) begins.parts ∙ all_read xs (suc k) low rest begins.fit begins.rise
      ∙ first_fails k (last_of low xs) rest CutShort (short_read rest fits_rest none)
  stopped n low bytes BadCount fits (xs, x, rest, begins, lt, shaped, not_in) other =
      let (k, is) = more_than xs n lt in
      ap (λ m. after m low bytes) is ∙ ap (after (length xs + suc k) low) begins.parts ∙ all_read xs (suc k) low (form.spell x ++ rest) begins.fit begins.rise
      ∙ first_fails k (last_of low xs) (form.spell x ++ rest) BadCount (reader.far x rest shaped not_in)
  stopped n low bytes NotRising fits (xs, x, rest, begins, lt, shaped, in_range, not_up) other =
      let (k, is) = more_than xs n lt in
      ap (λ m. after m low bytes) is ∙ ap (after (length xs + suc k) low) begins.parts ∙ all_read xs (suc k) low (form.spell x ++ rest) begins.fit begins.rise
      ∙ elim (cases_Bool (is_above (last_of low xs) (form.key x))) [
        | inl up ↦ absurd (not_up (rise_more xs low x begins.rise up))
        | inr down ↦ not_above k (last_of low xs) x rest shaped in_range down
      ]
  stopped n low bytes BytesAfter fits fault other = absurd (other refl)
  stopped n low bytes BadTreeOrLevel fits fault other = absurd fault

  -- good items with bytes after them
  pub went_on : (n : ℕ) (low : Option (List ℕ)) (bytes : List ℕ) → ItemsFault form low n bytes BytesAfter → (rest : List ℕ) × (after n low bytes ≡ Ok rest) × (rest ≢ [])
  went_on n low bytes (xs, rest, begins, len, more) = (
    rest,
    ap (λ m. after m low bytes) (omega (arith, len)) ∙ ap (after (length xs + 0) low) begins.parts ∙ all_read xs 0 low rest begins.fit begins.rise ∙ reader.none (last_of low xs) rest,
    more,
  )
