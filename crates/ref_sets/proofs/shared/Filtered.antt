-- What a filtered list has.
use Rattle.std.proofs.Common.{◌≡◌, Bool, true, false, if◌then◌else◌, List, [], ◌∷◌, inl, inr, ap, subst, ◌∙◌}
use Rattle.std.specs.List.{Contains, filter}
use Rattle.std.proofs.lemmas.List.Elements.{All-contains, All-contains_itself, All-filter, filter_passes}
use Rattle.ref_sets.proofs.shared.Adding.{first_or_in_rest, here, in_rest, none}

module _ {X : Type 0} (test : X → Bool) where
  first : (x : X) (xs : List X) (b : Bool) → b ≡ true → Contains (if b then x ∷ filter test xs else filter test xs) x
  first x xs true e = here x (filter test xs)
  first x xs false e = absurd (let no = e in cc)

  later : (x y : X) (xs : List X) (b : Bool) → Contains (filter test xs) y → Contains (if b then x ∷ filter test xs else filter test xs) y
  later x y xs true is = in_rest x (filter test xs) y is
  later x y xs false is = is

  pub in_filter : (xs : List X) (x : X) → Contains xs x → test x ≡ true → Contains (filter test xs) x
  in_filter [] x is so = absurd (none x is)
  in_filter (y ∷ xs) x is so = elim (first_or_in_rest y xs x is) [
    | inl same ↦ subst (λ (z : X). Contains (filter test (y ∷ xs)) z) same (first y xs (test y) (ap test same ∙ so))
    | inr has ↦ later y x xs (test y) (in_filter xs x has so)
  ]

  pub from_filter : (xs : List X) (x : X) → Contains (filter test xs) x → Contains xs x
  from_filter xs x is = All-contains (Contains xs) (filter test xs) x (All-filter test (Contains xs) xs (All-contains_itself xs)) is

  pub passes_filter : (xs : List X) (x : X) → Contains (filter test xs) x → test x ≡ true
  passes_filter xs x is = All-contains (λ (y : X). test y ≡ true) (filter test xs) x (filter_passes test xs) is
