-- Tests whether some element of a list is so.
use Rattle.std.proofs.Common.{◌≡◌, List, [], ◌∷◌, ◌||◌, inl, inr, Bool, true, false, refl, ap, subst, ◌∙◌}
use Rattle.std.specs.List.{Contains, list_any}
use Rattle.std.specs.Ordering.{eq_by_cmp}
use Rattle.osm_model.specs.Elements.{ref_cmp}
use Rattle.osm_model.specs.declared.reference.Ref.{Ref}
use Rattle.ref_sets.proofs.shared.Adding.{first_or_in_rest, here, in_rest, none}
use Rattle.ref_sets.proofs.shared.References.{equal_is_same, equal_itself}

any_at : (a b : Bool) → a ≡ true → (a || b) ≡ true
any_at true b is = refl
any_at false b is = cc

any_later : (a b : Bool) → b ≡ true → (a || b) ≡ true
any_later true b is = refl
any_later false b is = is

pub any_from_one : {X : Type 0} (p : X → Bool) (xs : List X) (x : X) → Contains xs x → p x ≡ true → list_any p xs ≡ true
any_from_one p [] x is so = absurd (none x is)
any_from_one p (y ∷ xs) x is so = elim (first_or_in_rest y xs x is) [
  | inl same ↦ any_at (p y) (list_any p xs) (ap p same ∙ so)
  | inr later ↦ any_later (p y) (list_any p xs) (any_from_one p xs x later so)
]

one_case : {X : Type 0} (p : X → Bool) (y : X) (xs : List X) (b : Bool) → p y ≡ b → ((list_any p xs ≡ true) → (x : X) × Contains xs x × (p x ≡ true)) → (b || list_any p xs) ≡ true → (x : X) × Contains (y ∷ xs) x × (p x ≡ true)
one_case p y xs true e later is = (y, here y xs, e)
one_case p y xs false e later is = let one = later is in (one.0, in_rest y xs one.0 one.1, one.2)

pub one_from_any : {X : Type 0} (p : X → Bool) (xs : List X) → list_any p xs ≡ true → (x : X) × Contains xs x × (p x ≡ true)
one_from_any p [] is = cc
one_from_any p (y ∷ xs) is = one_case p y xs (p y) refl (one_from_any p xs) is

abbrev pub has : List Ref → Ref → Bool
has refs r = list_any (λ s. eq_by_cmp ref_cmp s r) refs

pub has_it : (refs : List Ref) (r : Ref) → Contains refs r → has refs r ≡ true
has_it refs r is = any_from_one (λ (s : Ref). eq_by_cmp ref_cmp s r) refs r is (equal_itself r r refl)

pub it_is_had : (refs : List Ref) (r : Ref) → has refs r ≡ true → Contains refs r
it_is_had refs r is = let one = one_from_any (λ (s : Ref). eq_by_cmp ref_cmp s r) refs is in subst (λ (s : Ref). Contains refs s) (equal_is_same one.0 r one.2) one.1
