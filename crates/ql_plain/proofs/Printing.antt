-- Printing objects one after the other, at most so many.
use Rattle.std.proofs.Common.{◌≡◌, ℕ, ◌+◌, ◌-◌, ◌<◌, ◌≤◌, List, [], ◌∷◌, ◌++◌, length, get_or, take, Bool, true, false, Option, Some, None, ◌↔◌, refl, sym, ap, ◌∙◌, arith, append_assoc, if◌then◌else◌}
use Rattle.std.specs.List.{Contains, filter, flat_map}
use Rattle.std.specs.Option.{unwrap_or}
use Rattle.std.proofs.Common.{inl, inr}
use Rattle.std.proofs.lemmas.Bool.{cases_lt}
use Rattle.std.proofs.lemmas.Grind.{flat_map-append}
use Rattle.std.proofs.lemmas.List.{append-nil, length-append, take-append-le, take_all}
use Rattle.std.proofs.lemmas.List.Elements.{filter-append}
use Rattle.osm_model.specs.Elements.{Element, reference}
use Rattle.osm_model.specs.declared.reference.Ref.{Ref}
use Rattle.ref_sets.proofs.shared.Adding.{one_more}
use Rattle.ref_sets.proofs.shared.Tests.{has_it, it_is_had}
use Rattle.ql_meaning.specs.Meanings.{cut, is_in}

pub in_set : (refs : List Ref) (o : Element) → Contains refs (reference o) → is_in refs o ≡ true
in_set refs o has = has_it refs (reference o) has

pub of_set : (refs : List Ref) (o : Element) → is_in refs o ≡ true → Contains refs (reference o)
of_set refs o is = it_is_had refs (reference o) is

module _ {X : Type 0} (p : X → Bool) (f : X → List ℕ) (xs : List X) (k : ℕ) (x : X) (lt : k < length xs) (is : x ≡ get_or xs k x) (most left : ℕ) (so : left ≡ most - length (filter p (take k xs)))
    (old text : List ℕ) (printed : text ≡ old ++ flat_map f (take most (filter p (take k xs)))) where
  abbrev Before : List X
  Before = filter p (take k xs)

  more : (b : Bool) → p x ≡ b → filter p (take (k + 1) xs) ≡ Before ++ (if b then x ∷ [] else [])
  more b e = ap (filter p) (one_more xs k x lt is) ∙ filter-append p (take k xs) (x ∷ []) ∙ ap (λ (c : Bool). Before ++ (if c then x ∷ [] else [])) e

  -- one more was printed
  pub printed_one : (new : List ℕ) → p x ≡ true → 0 < left → new ≡ text ++ f x → new ≡ old ++ flat_map f (take most (filter p (take (k + 1) xs)))
  printed_one new taken some added =
      let short : length Before < most = omega arith in
      let all_before : take most Before ≡ Before = take_all most Before (omega arith) in
      let long : length (Before ++ x ∷ []) ≤ most = omega (arith, length-append Before (x ∷ [])) in
      let all_after : take most (Before ++ x ∷ []) ≡ Before ++ x ∷ [] = take_all most (Before ++ x ∷ []) long in
      let whole : flat_map f (Before ++ x ∷ []) ≡ flat_map f Before ++ f x = flat_map-append f Before (x ∷ []) ∙ ap (λ (bytes : List ℕ). flat_map f Before ++ bytes) (append-nil (f x)) in
      added ∙ ap (λ (bytes : List ℕ). bytes ++ f x) (printed ∙ ap (λ (ys : List X). old ++ flat_map f ys) all_before) ∙ append_assoc old (flat_map f Before) (f x)
      ∙ ap (λ (bytes : List ℕ). old ++ bytes) (sym whole) ∙ ap (λ (ys : List X). old ++ flat_map f ys) (sym all_after) ∙ ap (λ (ys : List X). old ++ flat_map f (take most ys)) (sym (more true taken))

  pub left_one : p x ≡ true → 0 < left → left - 1 ≡ most - length (filter p (take (k + 1) xs))
  left_one taken some = omega (arith, ap length (more true taken), length-append Before (x ∷ []), so)

  -- nothing was printed: no more may be, or this one isn't of the set
  pub printed_none : (new : List ℕ) → new ≡ text → (p x ≡ true → left ≡ 0) → new ≡ old ++ flat_map f (take most (filter p (take (k + 1) xs)))
  printed_none new same none = same ∙ printed ∙ ap (λ (ys : List X). old ++ flat_map f ys) (by_case (p x) refl)
    where
      by_case : (b : Bool) → p x ≡ b → take most Before ≡ take most (filter p (take (k + 1) xs))
      by_case true e = let full : most ≤ length Before = omega (arith, none e) in sym (take-append-le most Before (x ∷ []) full) ∙ ap (take most) (sym (more true e))
      by_case false e = ap (take most) (sym (append-nil Before) ∙ sym (more false e))

  pub left_none : (later : ℕ) → later ≡ left → (p x ≡ true → left ≡ 0) → later ≡ most - length (filter p (take (k + 1) xs))
  left_none later same none = by_case (p x) refl
    where
      by_case : (b : Bool) → p x ≡ b → later ≡ most - length (filter p (take (k + 1) xs))
      by_case true e = omega (arith, none e, ap length (more true e), length-append Before (x ∷ []))
      by_case false e = omega (arith, ap length (more false e), length-append {A = X} Before [])

-- the number that an out has
pub cut_is : {X : Type 0} (limit : Option ℕ) (xs : List X) (n : ℕ) → length xs ≤ n → take (unwrap_or limit n) xs ≡ cut limit xs
cut_is None xs n short = take_all n xs short
cut_is (Some most) xs n short = refl

-- what is in the set and isn't next comes too late
pub not_next : (left : ℕ) (In : Type 0) (b : Bool) → (b ≡ true) ↔ ((0 < left) × In) → b ≡ false → In → left ≡ 0
not_next left In b told not held = elim (cases_lt 0 left) [
  | inl some ↦ absurd (let is = told.1 (some, held) in cc)
  | inr none ↦ omega arith
]
