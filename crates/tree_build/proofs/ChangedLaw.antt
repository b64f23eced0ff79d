-- What a changed list holds: what is put, and what was there under a key that no change has.
use Rattle.std.proofs.Common.{◌≡◌, ◌≢◌, ◌↔◌, ℕ, List, [], ◌∷◌, ◌++◌, map, ◌⊎◌, inl, inr, Option, None, Some, refl, sym, ap, subst, ◌∙◌}
use Rattle.std.proofs.lemmas.List.{append-nil}
use Rattle.std.specs.Prelude.{IfSome}
use Rattle.std.specs.List.{AllByRecursion}
use Rattle.std.specs.declared.cmp.Ordering.{Ordering}
use Rattle.std.specs.declared.cmp.Ordering.TheVariants.{Less, Equal, Greater}
use Rattle.tree_node.specs.Nodes.{AreRisingFrom}
use Rattle.tree_node.specs.Order.{order, IsBelow}
use Rattle.tree_node.specs.internal.OrderLemmas.{not_itself, order_above, order_same, order_trans}
use Rattle.tree_build.specs.Changing.{Change, by_order, changed, changed_once, one_or_none}
use Rattle.tree_build.specs.internal.RisingChanges.{AreOwnAndRising, IsOwn}
use Rattle.tree_build.specs.internal.Weaving.{IsIn}

in_parts : {X : Type 0} (n : X) (xs ys : List X) → IsIn n (xs ++ ys) ↔ (IsIn n xs ⊎ IsIn n ys)
in_parts n [] ys = ((λ is. inr is), (λ is. elim is [ inl never ↦ absurd never | inr there ↦ there ]))
in_parts n (x ∷ xs) ys =
    let rest = in_parts n xs ys in (
      (λ is. elim is [ inl here ↦ inl (inl here) | inr later ↦ elim (rest.0 later) [ inl a ↦ inl (inr a) | inr b ↦ inr b ] ]),
      (λ is. elim is [ inl first ↦ elim first [ inl here ↦ inl here | inr later ↦ inr (rest.1 (inl later)) ] | inr second ↦ inr (rest.1 (inr second)) ]),
    )

module _ {X : Type 0} (key : X → List ℕ) where
  abbrev Rise : Option (List ℕ) → List X → Type 0
  Rise low xs = AreRisingFrom low (map key xs)

  later_above : (low : List ℕ) (xs : List X) → Rise (Some low) xs → (n : X) → IsIn n xs → IsBelow low (key n)
  later_above low [] rise n is = absurd is
  later_above low (x ∷ xs) rise n is = elim is [
    | inl here ↦ subst (λ (m : X). IsBelow low (key m)) (sym here) rise.0
    | inr there ↦ order_trans low (key x) (key n) rise.0 (later_above (key x) xs rise.1 n there)
  ]

  -- of the items other than those with the key
  abbrev pub StaysOf : List ℕ → List X → X → Type 0
  StaysOf k xs n = IsIn n xs × (key n ≢ k)

  -- one change
  pub once_holds : (low : Option (List ℕ)) (xs : List X) (change : Change X) → Rise low xs → (n : X) → IsIn n (changed_once key xs change) ↔ (IsIn n (one_or_none change.put) ⊎ StaysOf change.key xs n)
  once_holds low [] change rise n = ((λ is. inl is), (λ is. elim is [ inl put ↦ put | inr stays ↦ absurd stays.0 ]))
  once_holds low (x ∷ xs) change rise n = by (order change.key (key x)) refl (once_holds (Some (key x)) xs change rise.1 n)
    where
      by : (o : Ordering) → order change.key (key x) ≡ o → IsIn n (changed_once key xs change) ↔ (IsIn n (one_or_none change.put) ⊎ StaysOf change.key xs n)
          → IsIn n (by_order o (one_or_none change.put ++ x ∷ xs) (one_or_none change.put ++ xs) (x ∷ changed_once key xs change)) ↔ (IsIn n (one_or_none change.put) ⊎ StaysOf change.key (x ∷ xs) n)
      by Less e rest =
          let parts = in_parts n (one_or_none change.put) (x ∷ xs) in
          let other : IsIn n (x ∷ xs) → key n ≢ change.key = λ is same. not_itself change.key (key n) (later_above change.key (x ∷ xs) (e, rise.1) n is) (sym same) in
          ((λ is. elim (parts.0 is) [ inl put ↦ inl put | inr was ↦ inr (was, other was) ]), (λ is. elim is [ inl put ↦ parts.1 (inl put) | inr stays ↦ parts.1 (inr stays.0) ]))
      by Equal e rest =
          let parts = in_parts n (one_or_none change.put) xs in
          let same : change.key ≡ key x = order_same change.key (key x) e in
          let other : IsIn n xs → key n ≢ change.key = λ is equal. not_itself (key x) (key n) (later_above (key x) xs rise.1 n is) (sym (equal ∙ same)) in (
            (λ is. elim (parts.0 is) [ inl put ↦ inl put | inr was ↦ inr (inr was, other was) ]),
            (λ is. elim is [
              | inl put ↦ parts.1 (inl put)
              | inr stays ↦ elim stays.0 [ inl here ↦ absurd (stays.1 (ap key here ∙ sym same)) | inr later ↦ parts.1 (inr later) ]
            ]),
          )
      by Greater e rest =
          let above : IsBelow (key x) change.key = order_above change.key (key x) e in (
            (λ is. elim is [
              | inl here ↦ inr (inl here, λ same. not_itself (key x) change.key above (sym (ap key here) ∙ same))
              | inr later ↦ elim (rest.0 later) [ inl put ↦ inl put | inr stays ↦ inr (inr stays.0, stays.1) ]
            ]),
            (λ is. elim is [
              | inl put ↦ inr (rest.1 (inl put))
              | inr stays ↦ elim stays.0 [ inl here ↦ inl here | inr later ↦ inr (rest.1 (inr (later, stays.1))) ]
            ]),
          )

  -- what is above a key stays so
  low_then : (low : Option (List ℕ)) (put : Option X) (xs : List X) (k : List ℕ) → IfSome low (λ l. IsBelow l k) → IfSome put (λ x. key x ≡ k) → Rise (Some k) xs → Rise low xs → Rise low (one_or_none put ++ xs)
  low_then low None xs k below own above rise = rise
  low_then low (Some x) xs k below own above rise =
      (subst (λ (m : List ℕ). IfSome low (λ l. IsBelow l m)) (sym own) below, subst (λ (m : List ℕ). Rise (Some m) xs) (sym own) above)

  from_lower : (low : Option (List ℕ)) (k : List ℕ) (xs : List X) → IfSome low (λ l. IsBelow l k) → Rise (Some k) xs → Rise low xs
  from_lower low k [] below rise = tt
  from_lower None k (x ∷ xs) below rise = (tt, rise.1)
  from_lower (Some l) k (x ∷ xs) below rise = (order_trans l k (key x) below rise.0, rise.1)

  -- and the keys rise still
  pub once_rises : (low : Option (List ℕ)) (xs : List X) (change : Change X) → IsOwn key change → IfSome low (λ l. IsBelow l change.key) → Rise low xs → Rise low (changed_once key xs change)
  once_rises low [] change own below rise = subst (λ (ys : List X). Rise low ys) (append-nil (one_or_none change.put)) (low_then low change.put [] change.key below own tt tt)
  once_rises low (x ∷ xs) change own below rise = by (order change.key (key x)) refl (λ above. once_rises (Some (key x)) xs change own above rise.1)
    where
      by : (o : Ordering) → order change.key (key x) ≡ o → (IsBelow (key x) change.key → Rise (Some (key x)) (changed_once key xs change)) → Rise low (by_order o (one_or_none change.put ++ x ∷ xs) (one_or_none change.put ++ xs) (x ∷ changed_once key xs change))
      by Less e rest = low_then low change.put (x ∷ xs) change.key below own (e, rise.1) rise
      by Equal e rest =
          let same : change.key ≡ key x = order_same change.key (key x) e in
          low_then low change.put xs change.key below own (subst (λ (m : List ℕ). Rise (Some m) xs) (sym same) rise.1) (from_lower low (key x) xs rise.0 rise.1)
      by Greater e rest = (rise.0, rest (order_above change.key (key x) e))

  -- some change puts it
  abbrev pub IsPut : List (Change X) → X → Type 0
  IsPut [] n = ⊥
  IsPut (c ∷ cs) n = IsIn n (one_or_none c.put) ⊎ IsPut cs n

  -- no change has the key
  abbrev pub IsFree : List (Change X) → List ℕ → Type 0
  IsFree changes k = AllByRecursion (λ (c : Change X). k ≢ c.key) changes

  put_free : (put : Option X) (k : List ℕ) → IfSome put (λ x. key x ≡ k) → (cs : List (Change X)) → AllByRecursion (λ (c : Change X). IsBelow k c.key) cs → (n : X) → IsIn n (one_or_none put) → IsFree cs (key n)
  put_free None k own cs above n is = absurd is
  put_free (Some x) k own [] above n is = tt
  put_free (Some x) k own (c ∷ cs) above n (inl here) = ((λ same. not_itself k c.key above.0 (sym (ap key here ∙ own) ∙ same)), put_free (Some x) k own cs above.1 n (inl here))
  put_free (Some x) k own (c ∷ cs) above n (inr never) = absurd never

  -- The changed list holds what is put, and what was there under a key that no change has.
  pub changed_holds : (xs : List X) (changes : List (Change X)) → Rise None xs → AreOwnAndRising key changes → (n : X) → IsIn n (changed key xs changes) ↔ (IsPut changes n ⊎ (IsIn n xs × IsFree changes (key n)))
  changed_holds xs [] rise are n = ((λ is. inr (is, tt)), (λ is. elim is [ inl never ↦ absurd never | inr was ↦ was.0 ]))
  changed_holds xs (c ∷ cs) rise are n =
      let once = once_holds None xs c rise n in
      let rest = changed_holds (changed_once key xs c) cs (once_rises None xs c are.0 tt rise) are.2 n in (
        (λ is. elim (rest.0 is) [
          | inl put ↦ inl (inr put)
          | inr was ↦ elim (once.0 was.0) [ inl here ↦ inl (inl here) | inr stays ↦ inr (stays.0, (stays.1, was.1)) ]
        ]),
        (λ is. elim is [
          | inl puts ↦ elim puts [ inl here ↦ rest.1 (inr (once.1 (inl here), put_free c.put c.key are.0 cs are.1 n here)) | inr later ↦ rest.1 (inl later) ]
          | inr was ↦ rest.1 (inr (once.1 (inr (was.0, was.1.0)), was.1.1))
        ]),
      )
