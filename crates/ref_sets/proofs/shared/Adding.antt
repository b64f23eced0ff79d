-- What loops add to lists.
use Rattle.std.proofs.Common.{◌≡◌, ℕ, zero, suc, ◌+◌, ◌<◌, ◌≤◌, List, [], ◌∷◌, ◌++◌, length, get_or, take, ◌⊎◌, inl, inr, ◌↔◌, refl, sym, ap, subst, ◌∙◌, arith}
use Rattle.std.proofs.lemmas.List.{take_all, take_more}
use Rattle.std.proofs.lemmas.List.Elements.{Contains-append_cases, Contains-append_left, Contains-append_right, Contains-push, Contains-push_cases}
use Rattle.std.specs.List.{Contains}
use Rattle.ref_sets.specs.Adding.{Adds, From}

pub none : {X : Type 0} (x : X) → Contains [] x → ⊥
none x is = absurd (omega (arith, is.1))

pub here : {X : Type 0} (x : X) (xs : List X) → Contains (x ∷ xs) x
here x xs = (zero, omega arith, refl)

pub in_rest : {X : Type 0} (x : X) (xs : List X) (y : X) → Contains xs y → Contains (x ∷ xs) y
in_rest x xs y is = (suc is.0, omega (arith, is.1), is.2)

pub first_or_in_rest : {X : Type 0} (x : X) (xs : List X) (y : X) → Contains (x ∷ xs) y → (x ≡ y) ⊎ Contains xs y
first_or_in_rest x xs y (zero, lt, is) = inl is
first_or_in_rest x xs y (suc k, lt, is) = inr (k, omega (arith, lt), is)

-- the item of a loop is in the list
pub item_is_in : {X : Type 0} (xs : List X) (k : ℕ) (x : X) → k < length xs → x ≡ get_or xs k x → Contains xs x
item_is_in xs k x lt is = (k, lt, sym is)

module _ {X : Type 0} (xs : List X) (k : ℕ) (x : X) (lt : k < length xs) (is : x ≡ get_or xs k x) where
  pub one_more : take (k + 1) xs ≡ take k xs ++ x ∷ []
  one_more = take_more xs k x lt ∙ ap (λ (z : X). take k xs ++ z ∷ []) (sym is)

  pub was_in_more : (y : X) → Contains (take k xs) y → Contains (take (k + 1) xs) y
  was_in_more y has = subst (λ (zs : List X). Contains zs y) (sym one_more) (Contains-append_left (take k xs) (x ∷ []) y has)

  pub last_in_more : Contains (take (k + 1) xs) x
  last_in_more = subst (λ (zs : List X). Contains zs x) (sym one_more) (Contains-push (take k xs) x)

  pub more_cases : (y : X) → Contains (take (k + 1) xs) y → Contains (take k xs) y ⊎ (x ≡ y)
  more_cases y has = Contains-push_cases (take k xs) x y (subst (λ (zs : List X). Contains zs y) one_more has)

module _ {A : Type 0} where
  pub adds_nothing : {xs : List A} {P : A → Type 0} → ((a : A) → P a → ⊥) → Adds xs xs P
  adds_nothing never = record { is = λ a. ((λ has. inl has), (λ one. elim one [ inl has ↦ has | inr p ↦ absurd (never a p) ])) }

  pub adds_one : {xs ys : List A} {P : A → Type 0} (x : A) → ys ≡ xs ++ x ∷ [] → P x → ((a : A) → P a → x ≡ a) → Adds xs ys P
  adds_one {xs = xs} {P = P} x is so only = record {
    is = λ a. (
      (λ has. elim (Contains-push_cases xs x a (subst (λ (zs : List A). Contains zs a) is has)) [ inl before ↦ inl before | inr same ↦ inr (subst P same so) ]),
      (λ one. subst (λ (zs : List A). Contains zs a) (sym is) (elim one [ inl before ↦ Contains-append_left xs (x ∷ []) a before | inr p ↦ subst (λ (z : A). Contains (xs ++ x ∷ []) z) (only a p) (Contains-push xs x) ])),
    );
  }

  pub adds_list : {xs ys : List A} (zs : List A) → ys ≡ xs ++ zs → Adds xs ys (Contains zs)
  adds_list {xs = xs} zs is = record {
    is = λ a. (
      (λ has. Contains-append_cases xs zs a (subst (λ (ws : List A). Contains ws a) is has)),
      (λ one. subst (λ (ws : List A). Contains ws a) (sym is) (elim one [ inl before ↦ Contains-append_left xs zs a before | inr after ↦ Contains-append_right xs zs a after ])),
    );
  }

  pub adds_as : {xs ys : List A} {P Q : A → Type 0} → ((a : A) → P a → Q a) → ((a : A) → Q a → P a) → Adds xs ys P → Adds xs ys Q
  adds_as to from so = record {
    is = λ a. (
      (λ has. elim ((so.is a).0 has) [ inl before ↦ inl before | inr p ↦ inr (to a p) ]),
      (λ one. (so.is a).1 (elim one [ inl before ↦ inl before | inr q ↦ inr (from a q) ])),
    );
  }

  pub adds_then : {xs ys zs : List A} {P Q : A → Type 0} → Adds xs ys P → Adds ys zs Q → Adds xs zs (λ a. P a ⊎ Q a)
  adds_then first second = record {
    is = λ a. (
      (λ has. elim ((second.is a).0 has) [
        | inl before ↦ elim ((first.is a).0 before) [ inl old ↦ inl old | inr p ↦ inr (inl p) ]
        | inr q ↦ inr (inr q)
      ]),
      (λ one. (second.is a).1 (elim one [
        | inl old ↦ inl ((first.is a).1 (inl old))
        | inr new ↦ elim new [ inl p ↦ inl ((first.is a).1 (inr p)) | inr q ↦ inr q ]
      ])),
    );
  }

  -- what was added to nothing is all there is
  pub adds_to_nothing : {xs ys : List A} {P : A → Type 0} → xs ≡ [] → Adds xs ys P → (a : A) → Contains ys a ↔ P a
  adds_to_nothing empty so a = (
    (λ has. elim ((so.is a).0 has) [ inl before ↦ absurd (none a (subst (λ (zs : List A). Contains zs a) empty before)) | inr p ↦ p ]),
    (λ p. (so.is a).1 (inr p)),
  )

-- loops over a list
module _ {A B : Type 0} (xs : List B) (P : B → A → Type 0) where
  pub adds_start : {ys : List A} → Adds ys ys (From (take 0 xs) P)
  adds_start = adds_nothing (λ a from. none from.0 from.1)

  pub adds_more : (k : ℕ) (x : B) → k < length xs → x ≡ get_or xs k x → {old mid new : List A} → Adds old mid (From (take k xs) P) → Adds mid new (P x) → Adds old new (From (take (k + 1) xs) P)
  adds_more k x lt is before one =
      adds_as
      (λ a either. elim either [ inl from ↦ (from.0, was_in_more xs k x lt is from.0 from.1, from.2) | inr p ↦ (x, last_in_more xs k x lt is, p) ])
      (λ a from. elim (more_cases xs k x lt is from.0 from.1) [ inl was ↦ inl (from.0, was, from.2) | inr same ↦ inr (subst (λ (b : B). P b a) (sym same) from.2) ])
      (adds_then before one)

  pub adds_all : (k : ℕ) → length xs ≤ k → {old new : List A} → Adds old new (From (take k xs) P) → Adds old new (From xs P)
  adds_all k past {old = old} {new = new} so = subst (λ (zs : List B). Adds old new (From zs P)) (take_all k xs past) so
