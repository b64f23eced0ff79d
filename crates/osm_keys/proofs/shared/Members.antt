-- What lists contain.
use Rattle.std.proofs.Common.{◌≡◌, ◌⊎◌, inl, inr, ℕ, zero, suc, ◌<◌, List, [], ◌∷◌, length, map, get_or, refl, sym, subst, arith}
use Rattle.std.specs.List.{Contains, flat_map}
use Rattle.std.proofs.lemmas.List.Elements.{Contains-append_left, Contains-append_right, Contains-append_cases}

pub none : {X : Type 0} (x : X) → Contains [] x → ⊥
none x h = omega (arith, h.1)

pub here : {X : Type 0} (x : X) (xs : List X) → Contains (x ∷ xs) x
here x xs = (0, omega arith, refl)

pub in_rest : {X : Type 0} (x : X) (xs : List X) (y : X) → Contains xs y → Contains (x ∷ xs) y
in_rest x xs y h = (suc h.0, omega (arith, h.1), h.2)

pub first_or_in_rest : {X : Type 0} (x : X) (xs : List X) (y : X) → Contains (x ∷ xs) y → (x ≡ y) ⊎ Contains xs y
first_or_in_rest x xs y h = at h.0 h.1 h.2
  where
    at : (k : ℕ) → k < length (x ∷ xs) → get_or (x ∷ xs) k y ≡ y → (x ≡ y) ⊎ Contains xs y
    at zero lt e = inl e
    at (suc k) lt e = inr (k, omega arith, e)

module _ {X Y : Type 0} (f : X → Y) where
  pub in_map : (xs : List X) (x : X) → Contains xs x → Contains (map f xs) (f x)
  in_map [] x h = absurd (none x h)
  in_map (y ∷ xs) x h =
      elim (first_or_in_rest y xs x h) [
        | inl e ↦ subst (λ (z : X). Contains (f y ∷ map f xs) (f z)) e (here (f y) (map f xs))
        | inr r ↦ in_rest (f y) (map f xs) (f x) (in_map xs x r)
      ]

  pub from_map : (xs : List X) (y : Y) → Contains (map f xs) y → (x : X) × Contains xs x × (y ≡ f x)
  from_map [] y h = absurd (none y h)
  from_map (x ∷ xs) y h =
      elim (first_or_in_rest (f x) (map f xs) y h) [
        | inl e ↦ (x, here x xs, sym e)
        | inr r ↦ let found = from_map xs y r in (found.0, in_rest x xs found.0 found.1, found.2)
      ]

module _ {X Y : Type 0} (f : X → List Y) where
  pub in_all : (xs : List X) (x : X) (y : Y) → Contains xs x → Contains (f x) y → Contains (flat_map f xs) y
  in_all [] x y h k = absurd (none x h)
  in_all (z ∷ xs) x y h k =
      elim (first_or_in_rest z xs x h) [
        | inl e ↦ Contains-append_left (f z) (flat_map f xs) y (subst (λ (w : X). Contains (f w) y) (sym e) k)
        | inr r ↦ Contains-append_right (f z) (flat_map f xs) y (in_all xs x y r k)
      ]

  pub from_all : (xs : List X) (y : Y) → Contains (flat_map f xs) y → (x : X) × Contains xs x × Contains (f x) y
  from_all [] y h = absurd (none y h)
  from_all (x ∷ xs) y h =
      elim (Contains-append_cases (f x) (flat_map f xs) y h) [
        | inl k ↦ (x, here x xs, k)
        | inr r ↦ let found = from_all xs y r in (found.0, in_rest x xs found.0 found.1, found.2)
      ]
