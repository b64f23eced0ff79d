-- Two lists in one strict order with the same elements are one list.
use Rattle.std.proofs.Common.{◌≡◌, ℕ, zero, suc, ◌<◌, List, [], ◌∷◌, length, map, get_or, Contains, refl, sym, ◌∙◌, ap, arith, inl, inr}
use Rattle.std.specs.Prelude.{◌⊎◌}
use Rattle.std.specs.List.{AllByRecursion}
use Rattle.std.specs.List.Sorted.{IsStrictlySortedBy, IsPermutation}
use Rattle.std.specs.declared.cmp.Ordering.{Ordering}
use Rattle.std.specs.declared.cmp.Ordering.TheVariants.{Less, Greater}
use Rattle.std.specs.Ordering.{ordering_reverse}
use Rattle.std.specs.Cmp.{IsTotalOrder}
use Rattle.std.proofs.lemmas.List.Sorted.{Contains-permutation, IsPermutation-sym}
use Rattle.std.proofs.lemmas.Map.Keys.{sorted_head, sorted_tail}

abbrev In : {X : Type 0} → X → List X → Type 0
In x [] = ⊥
In x (y ∷ ys) = (x ≡ y) ⊎ In x ys

in_at : {X : Type 0} (xs : List X) (k : ℕ) (x d : X) → k < length xs → x ≡ get_or xs k d → In x xs
in_at [] k x d lt e = absurd (omega arith)
in_at (y ∷ xs) zero x d lt e = inl e
in_at (y ∷ xs) (suc k) x d lt e = inr (in_at xs k x d (omega arith) e)

in_contains : {X : Type 0} (xs : List X) (x : X) → In x xs → Contains xs x
in_contains [] x h = absurd h
in_contains (y ∷ xs) x h = elim h [
  | inl e ↦ (0, omega arith, sym e)
  | inr later ↦ let c = in_contains xs x later in let lt = c.1 in (suc c.0, omega arith, c.2)
]

in_permutation : {X : Type 0} (xs ys : List X) → IsPermutation xs ys → (z : X) → In z xs → In z ys
in_permutation xs ys p z h = let c = Contains-permutation xs ys z p (in_contains xs z h) in in_at ys c.0 z z c.1 (sym c.2)

module _ {X K : Type 0} (key : X → K) {cmp : K → K → Ordering} (o : IsTotalOrder cmp) where
  below_all : (x z : X) (xs : List X) → AllByRecursion (λ y. cmp (key x) y ≡ Less) (map key xs) → In z xs → cmp (key x) (key z) ≡ Less
  below_all x z [] all h = absurd h
  below_all x z (y ∷ xs) all h = elim h [
    | inl e ↦ ap (λ v. cmp (key x) (key v)) e ∙ all.0
    | inr later ↦ below_all x z xs all.1 later
  ]

  not_both : (a b : K) → cmp a b ≡ Less → cmp b a ≡ Less → ⊥
  not_both a b e f = let g : Less ≡ ordering_reverse Less = sym e ∙ (o.antisymm a b ∙ ap ordering_reverse f) in let it : ordering_reverse Less ≡ Greater = refl in cc

  same_members : (xs ys : List X) → IsStrictlySortedBy cmp (map key xs) → IsStrictlySortedBy cmp (map key ys) → ((z : X) → In z xs → In z ys) → ((z : X) → In z ys → In z xs) → xs ≡ ys
  same_members [] [] up down there back = refl
  same_members [] (y ∷ ys) up down there back = absurd (back y (inl refl))
  same_members (x ∷ xs) [] up down there back = absurd (there x (inl refl))
  same_members (x ∷ xs) (y ∷ ys) up down there back =
      let heads_x = sorted_head cmp (key x) (map key xs) up in
      let heads_y = sorted_head cmp (key y) (map key ys) down in
      let same : x ≡ y = elim (there x (inl refl)) [
        | inl e ↦ e
        | inr later ↦ elim (back y (inl refl)) [
          | inl e ↦ sym e
          | inr later' ↦ absurd (not_both (key y) (key x) (below_all y x ys heads_y later) (below_all x y xs heads_x later'))
        ]
      ] in
      let forth : (z : X) → In z xs → In z ys = λ z h. elim (there z (inr h)) [
        | inl e ↦ absurd (let less = below_all x z xs heads_x h in let self : cmp (key x) (key x) ≡ Less = ap (λ v. cmp (key x) (key v)) (same ∙ sym e) ∙ less in not_both (key x) (key x) self self)
        | inr later ↦ later
      ] in
      let home : (z : X) → In z ys → In z xs = λ z h. elim (back z (inr h)) [
        | inl e ↦ absurd (let less = below_all y z ys heads_y h in let self : cmp (key y) (key y) ≡ Less = ap (λ v. cmp (key y) (key v)) (sym same ∙ sym e) ∙ less in not_both (key y) (key y) self self)
        | inr later ↦ later
      ] in
      let rest = same_members xs ys (sorted_tail cmp (key x) (map key xs) up) (sorted_tail cmp (key y) (map key ys) down) forth home in
      ap (λ v. v ∷ xs) same ∙ ap (λ l. y ∷ l) rest

  -- sorted orders of one list are one
  pub one_order : (xs ys : List X) → IsPermutation xs ys → IsStrictlySortedBy cmp (map key xs) → IsStrictlySortedBy cmp (map key ys) → xs ≡ ys
  one_order xs ys p up down = same_members xs ys up down (in_permutation xs ys p) (in_permutation ys xs (IsPermutation-sym xs ys p))
