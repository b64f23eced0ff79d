-- What a range of keys holds, and what a walk over it finds.
use Rattle.std.proofs.Common.{◌≡◌, ◌↔◌, ◌⊎◌, ℕ, zero, suc, List, [], ◌∷◌, ◌++◌, Option, None, Some, true, false, inl, inr, refl, sym, ap, subst, ◌∙◌, arith}
use Rattle.std.specs.List.{Contains}
use Rattle.std.specs.Prelude.{IfSome}
use Rattle.std.proofs.lemmas.List.{append-nil}
use Rattle.tree_node.specs.Nodes.{AreRisingFrom, Binding, keys_of}
use Rattle.tree_node.specs.Order.{IsBelow}
use Rattle.tree_node.specs.internal.OrderLemmas.{not_itself, order_trans}
use Rattle.tree_walk.specs.Choices.{AreThose}
use Rattle.tree_walk.specs.Ranges.{Begins, IsAtMost, IsIn}
use Rattle.tree_walk.proofs.shared.KeyLemmas.{below_at_most, below_next}

-- ---- ranges from a key to itself

pub point : (key x : List ℕ) → IsIn (record { lo = key; hi = key; under = false }) x ↔ (x ≡ key)
point key x = (
  (λ is. elim is.0 [
    | inl above ↦ elim is.1 [
      | inl low ↦ absurd (not_itself key key (below_at_most key x key above low) refl)
      | inr u ↦ absurd (not_under u.0)
    ]
    | inr e ↦ sym e
  ]),
  (λ e. (inr (sym e), inl (inr e))),
)
  where
    not_under : false ≡ true → ⊥
    not_under e = cc

begun_above : (key rest : List ℕ) → IsAtMost key (key ++ rest)
begun_above key [] = inr (sym (append-nil key))
begun_above key (x ∷ xs) = inl (below_next key x xs)

pub prefix : (key x : List ℕ) → IsIn (record { lo = key; hi = key; under = true }) x ↔ Begins key x
prefix key x = (
  (λ is. elim is.1 [
    | inr u ↦ u.1
    | inl low ↦ elim is.0 [
      | inl above ↦ absurd (not_itself key key (below_at_most key x key above low) refl)
      | inr e ↦ ([], sym e ∙ sym (append-nil key))
    ]
  ]),
  (λ begins. (subst (λ (y : List ℕ). IsAtMost key y) (sym begins.1) (begun_above key begins.0), inr (refl, begins))),
)

-- ---- those of a list that have a property

first_or : {X : Type 0} (x : X) (xs : List X) (y : X) → Contains (x ∷ xs) y → (x ≡ y) ⊎ Contains xs y
first_or x xs y (zero, lt, is) = inl is
first_or x xs y (suc k, lt, is) = inr (k, omega (arith, lt), is)

here : {X : Type 0} (x : X) (xs : List X) → Contains (x ∷ xs) x
here x xs = (zero, omega arith, refl)

there : {X : Type 0} (x : X) (xs : List X) (y : X) → Contains xs y → Contains (x ∷ xs) y
there x xs y is = (suc is.0, omega (arith, is.1), is.2)

-- what two lists contain together, one of them does
pub contains_parts : {X : Type 0} (xs ys : List X) (y : X) → Contains (xs ++ ys) y → Contains xs y ⊎ Contains ys y
contains_parts [] ys y is = inr is
contains_parts (x ∷ xs) ys y is = elim (first_or x (xs ++ ys) y is) [
  | inl same ↦ inl (subst (λ (z : _). Contains (x ∷ xs) z) same (here x xs))
  | inr after ↦ elim (contains_parts xs ys y after) [ inl first ↦ inl (there x xs y first) | inr last ↦ inr last ]
]

pub none : {X : Type 0} (y : X) → Contains [] y → ⊥
none y is = absurd (omega (arith, is.1))

pub those_among : {X : Type 0} (Has : X → Type 0) (xs found : List X) → AreThose Has xs found → (y : X) → Contains found y → Contains xs y × Has y
those_among Has [] found is y among = absurd (none y (subst (λ (ys : List _). Contains ys y) is among))
those_among Has (x ∷ xs) found (inl is) y among = elim (first_or x is.1.0 y (subst (λ (ys : List _). Contains ys y) is.1.1 among)) [
  | inl same ↦ (subst (λ z. Contains (x ∷ xs) z) same (here x xs), subst Has same is.0)
  | inr after ↦ let rest = those_among Has xs is.1.0 is.1.2 y after in (there x xs y rest.0, rest.1)
]
those_among Has (x ∷ xs) found (inr isnt) y among =
    let rest = those_among Has xs found isnt.1 y among in (there x xs y rest.0, rest.1)

pub among_those : {X : Type 0} (Has : X → Type 0) (xs found : List X) → AreThose Has xs found → (y : X) → Contains xs y → Has y → Contains found y
among_those Has [] found is y among has = absurd (none y among)
among_those Has (x ∷ xs) found (inl is) y among has = subst (λ (ys : List _). Contains ys y) (sym is.1.1) (elim (first_or x xs y among) [
  | inl same ↦ subst (λ z. Contains (x ∷ is.1.0) z) same (here x is.1.0)
  | inr after ↦ there x is.1.0 y (among_those Has xs is.1.0 is.1.2 y after has)
])
among_those Has (x ∷ xs) found (inr isnt) y among has = elim (first_or x xs y among) [
  | inl same ↦ absurd (isnt.0 (subst Has (sym same) has))
  | inr after ↦ among_those Has xs found isnt.1 y after has
]

pub those_unique : {X : Type 0} (Has : X → Type 0) (xs found other : List X) → AreThose Has xs found → AreThose Has xs other → found ≡ other
those_unique Has [] found other is is_too = is ∙ sym is_too
those_unique Has (x ∷ xs) found other (inl is) (inl is_too) = is.1.1 ∙ ap (λ (ys : List _). x ∷ ys) (those_unique Has xs is.1.0 is_too.1.0 is.1.2 is_too.1.2) ∙ sym is_too.1.1
those_unique Has (x ∷ xs) found other (inl is) (inr isnt) = absurd (isnt.0 is.0)
those_unique Has (x ∷ xs) found other (inr isnt) (inl is) = absurd (isnt.0 is.0)
those_unique Has (x ∷ xs) found other (inr isnt) (inr isnt_too) = those_unique Has xs found other isnt.1 isnt_too.1

-- keys that rise from a key rise from a lower one
lower_start : (low : Option (List ℕ)) (key : List ℕ) (keys : List (List ℕ)) → IfSome low (λ l. IsBelow l key) → AreRisingFrom (Some key) keys → AreRisingFrom low keys
lower_start low key [] below rising = tt
lower_start None key (k ∷ ks) below rising = (tt, rising.1)
lower_start (Some l) key (k ∷ ks) below rising = (order_trans l key k below rising.0, rising.1)

pub those_rise : (Has : Binding → Type 0) (low : Option (List ℕ)) (xs found : List Binding) → AreThose Has xs found → AreRisingFrom low (keys_of xs) → AreRisingFrom low (keys_of found)
those_rise Has low [] found is rising = subst (λ (ys : List Binding). AreRisingFrom low (keys_of ys)) (sym is) tt
those_rise Has low (x ∷ xs) found (inl is) rising = subst (λ (ys : List Binding). AreRisingFrom low (keys_of ys)) (sym is.1.1) (rising.0, those_rise Has (Some x.key) xs is.1.0 is.1.2 rising.1)
those_rise Has low (x ∷ xs) found (inr isnt) rising = lower_start low x.key (keys_of found) rising.0 (those_rise Has (Some x.key) xs found isnt.1 rising.1)
