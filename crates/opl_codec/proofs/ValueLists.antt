-- Lists of items between commas.
use Rattle.std.proofs.Common.{◌≡◌, ◌≢◌, ℕ, ◌+◌, ◌<◌, ◌≤◌, ◌⊎◌, List, [], ◌∷◌, ◌++◌, length, Bool, true, ◌==◌, Option, Some, None, Bor, MatchOption, refl, sym, ◌∙◌, ap, subst, arith, inl, inr, append_assoc, append-nil, length-append}
use Rattle.std.specs.Bool.{⊤}
use Rattle.std.specs.List.{AllByRecursion}
use Rattle.std.proofs.lemmas.Bool.{eqb-true}
use Rattle.osm_model.specs.Bytes.{comma}
use Rattle.osm_model.specs.declared.limits.TheConstants.{LIST_LIMIT}
use Rattle.byte_io.specs.Pieces.{pieces}
use Rattle.opl_codec.specs.Fields.{Each}
use Rattle.opl_codec.specs.Values.{items}
use Rattle.opl_codec.specs.ValueFaults.{ListFault, further_by, items_len, IsSpelled, IsTooLong}
use Rattle.opl_codec.specs.declared.value_fault.ValueFault.{ValueFault}
use Rattle.opl_codec.specs.declared.value_fault.ValueFault.TheVariants as faults
use Rattle.opl_codec.specs.internal.ListParts.{AreFirst}
use Rattle.opl_codec.proofs.EachLemmas.{each_append}
use Rattle.opl_codec.proofs.ReadPieces.{pieces_left}

-- a text of no bytes
pub is_empty : (b : Bool) (text : List ℕ) → b ≡ (length text == 0) → b ≡ true → text ≡ []
is_empty b [] is e = refl
is_empty b (x ∷ text) is e = let none : length (x ∷ text) ≡ 0 = eqb-true (length (x ∷ text)) 0 (sym is ∙ e) in absurd (omega arith)

pub items_are : (text : List ℕ) → text ≢ [] → items text ≡ pieces comma text
items_are [] some = absurd (some refl)
items_are (x ∷ text) some = refl

-- ---- the first of them
module _ {A : Type 0} (spells : List ℕ → A → Type 0) where
  pub no_items : AreFirst spells [] []
  no_items = record { others = []; each = tt; first = inl refl; few = omega arith }

  -- few items are all of them
  pub whole_list : (parts : List (List ℕ)) (list : List A) → AreFirst spells parts list → length list ≤ LIST_LIMIT → Each spells parts list
  whole_list parts list t short = elim t.first [
    | inl none ↦ subst (Each spells parts) (ap (λ (o : List A). list ++ o) none ∙ append-nil list) t.each
    | inr full ↦ absurd (omega arith)
  ]

  each_push : (parts : List (List ℕ)) (list : List A) (spelled : List ℕ) (item : A) → Each spells parts list → spells spelled item → Each spells (parts ++ spelled ∷ []) (list ++ item ∷ [])
  each_push parts list spelled item each here = each_append spells parts (spelled ∷ []) list (item ∷ []) each (here, tt)

  -- one more that is kept, and one that isn't
  pub first_kept : (parts : List (List ℕ)) (list : List A) (spelled : List ℕ) (item : A) → AreFirst spells parts list → length list ≤ LIST_LIMIT → spells spelled item → AreFirst spells (parts ++ spelled ∷ []) (list ++ item ∷ [])
  first_kept parts list spelled item t short here = record {
    others = [];
    each = subst (Each spells (parts ++ spelled ∷ [])) (sym (append-nil (list ++ item ∷ []))) (each_push parts list spelled item (whole_list parts list t short) here);
    first = inl refl;
    few = omega (arith, length-append list (item ∷ []));
  }

  pub first_full : (parts : List (List ℕ)) (list : List A) (spelled : List ℕ) (item : A) → AreFirst spells parts list → LIST_LIMIT < length list → spells spelled item → AreFirst spells (parts ++ spelled ∷ []) list
  first_full parts list spelled item t full here = let few = t.few in record {
    others = t.others ++ item ∷ [];
    each = subst (Each spells (parts ++ spelled ∷ [])) (append_assoc list t.others (item ∷ [])) (each_push parts (list ++ t.others) spelled item t.each here);
    first = inr (omega arith);
    few = few;
  }

  -- too many
  pub too_long : (text : List ℕ) (list : List A) → AreFirst spells (items text) list → LIST_LIMIT < length list → IsTooLong spells text
  too_long text list t long = (list ++ t.others, t.each, omega (arith, length-append list t.others))

  each_spelled : (parts : List (List ℕ)) (list : List A) → Each spells parts list → AllByRecursion (IsSpelled spells) parts
  each_spelled [] [] each = tt
  each_spelled [] (x ∷ list) each = absurd each
  each_spelled (part ∷ parts) [] each = absurd each
  each_spelled (part ∷ parts) (x ∷ list) each = ((x, each.0), each_spelled parts list each.1)

  -- the items before are good
  pub front_good : (parts : List (List ℕ)) (list : List A) → AreFirst spells parts list → AllByRecursion (IsSpelled spells) parts
  front_good parts list t = each_spelled parts (list ++ t.others) t.each

-- ---- the first bad one
module _ (good : List ℕ → Type 0) (bad : List ℕ → ValueFault → Type 0) (over : Type 0) (text : List ℕ) where
  pub bad_item : (before : List (List ℕ)) (item : List ℕ) (after : List (List ℕ)) (inner : ValueFault) (by : ℕ) → text ≢ [] → items text ≡ before ++ item ∷ after → AllByRecursion good before → items_len before ≡ by
      → ((spelled : List ℕ) → bad spelled faults.Limit → ⊥) → bad item inner → ListFault good bad over text (further_by by inner)
  bad_item before item after faults.Form by some are front place unlimited is = record { before = before; item = item; after = after; items_are = are; are_good = front; inner = faults.Form; is_bad = is; fault_is = refl }
  bad_item before item after (faults.Escape at) by some are front place unlimited is = record { before = before; item = item; after = after; items_are = are; are_good = front; inner = faults.Escape at; is_bad = is; fault_is = ap (λ n. faults.Escape (n + at)) (sym place) }
  bad_item before item after faults.NodeLocation by some are front place unlimited is = record { before = before; item = item; after = after; items_are = are; are_good = front; inner = faults.NodeLocation; is_bad = is; fault_is = refl }
  bad_item before item after faults.Limit by some are front place unlimited is = absurd (unlimited item is)
  bad_item before item after faults.Memory by some are front place unlimited is = some

  -- the same where the limit is told in other words
  pub told_over : (other : Type 0) → (other → over) → (fault : ValueFault) → ListFault good bad other text fault → ListFault good bad over text fault
  told_over other says faults.Form h = h
  told_over other says (faults.Escape at) h = h
  told_over other says faults.NodeLocation h = h
  told_over other says faults.Limit h = says h
  told_over other says faults.Memory h = h

-- ---- what is left of a text after these items
abbrev pub LeavesAfter : List ℕ → List (List ℕ) → Option (Bor (List ℕ)) → Type 0
LeavesAfter text before left = MatchOption left ⊤ (λ rest. items_len before + length rest.now ≡ length text)

items_len-append : (xs ys : List (List ℕ)) → items_len (xs ++ ys) ≡ items_len xs + items_len ys
items_len-append [] ys = omega arith
items_len-append (x ∷ xs) ys = omega (arith, items_len-append xs ys)

-- one item further
pub leaves_further : (text rest item : List ℕ) (before : List (List ℕ)) (more : Option (Bor (List ℕ))) → items_len before + length rest ≡ length text
    → MatchOption more (pieces comma rest ≡ item ∷ []) (λ m. (pieces comma rest ≡ item ∷ pieces comma m.now) × (length item + 1 + length m.now ≡ length rest)) → LeavesAfter text (before ++ item ∷ []) more
leaves_further text rest item before None here cut = tt
leaves_further text rest item before (Some m) here cut = omega (arith, items_len-append before (item ∷ []), cut.1)

pub pieces_further : (text rest item : List ℕ) (before : List (List ℕ)) (more : Option (Bor (List ℕ))) → pieces comma text ≡ before ++ pieces comma rest
    → MatchOption more (pieces comma rest ≡ item ∷ []) (λ m. (pieces comma rest ≡ item ∷ pieces comma m.now) × (length item + 1 + length m.now ≡ length rest)) → pieces comma text ≡ (before ++ item ∷ []) ++ pieces_left comma more
pieces_further text rest item before None here cut = here ∙ (ap (λ p. before ++ p) cut ∙ sym (append-nil (before ++ item ∷ [])))
pieces_further text rest item before (Some m) here cut = here ∙ (ap (λ p. before ++ p) cut.0 ∙ sym (append_assoc before (item ∷ []) (pieces comma m.now)))

-- the item is one of the text's
pub item_there : (text rest item : List ℕ) (before : List (List ℕ)) (more : Option (Bor (List ℕ))) → text ≢ [] → pieces comma text ≡ before ++ pieces comma rest
    → MatchOption more (pieces comma rest ≡ item ∷ []) (λ m. (pieces comma rest ≡ item ∷ pieces comma m.now) × (length item + 1 + length m.now ≡ length rest)) → items text ≡ before ++ item ∷ pieces_left comma more
item_there text rest item before None some here cut = items_are text some ∙ (here ∙ ap (λ p. before ++ p) cut)
item_there text rest item before (Some m) some here cut = items_are text some ∙ (here ∙ ap (λ p. before ++ p) cut.0)

-- the first values are all, where they are no more than a list may have
pub all_read : {A : Type 0} (spells : List ℕ → A → Type 0) (parts : List (List ℕ)) (list : List A) → AreFirst spells parts list → length list ≤ LIST_LIMIT → Each spells parts list × (length list ≤ LIST_LIMIT)
all_read spells parts list are few = (whole are.first, few)
  where
    whole : (are.others ≡ []) ⊎ (length list ≡ LIST_LIMIT + 1) → Each spells parts list
    whole (inl none) = subst (Each spells parts) (ap (λ others. list ++ others) none ∙ append-nil list) are.each
    whole (inr more) = absurd (omega arith)

-- otherwise they are too many
pub too_many : {A : Type 0} (spells : List ℕ → A → Type 0) (text : List ℕ) (list : List A) → AreFirst spells (items text) list → LIST_LIMIT < length list → IsTooLong spells text
too_many spells text list are more = (list ++ are.others, are.each, omega (arith, length-append list are.others))

-- the fault of items that are over no limit is that of their list
pub list_fault : (good : List ℕ → Type 0) (bad : List ℕ → ValueFault → Type 0) (over : Type 0) (text : List ℕ) (fault : ValueFault) → ListFault good bad ⊥ text fault → ListFault good bad over text fault
list_fault good bad over text faults.Limit h = absurd h
list_fault good bad over text faults.Memory h = h
list_fault good bad over text faults.Form h = h
list_fault good bad over text (faults.Escape at) h = h
list_fault good bad over text faults.NodeLocation h = h
