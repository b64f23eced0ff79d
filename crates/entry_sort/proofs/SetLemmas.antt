-- Objects that differ make a set.
use Rattle.std.proofs.Common.{◌≡◌, ◌∙◌, ℕ, Bool, true, false, cond, List, [], ◌∷◌, map, refl, sym, ap, subst}
use Rattle.std.specs.List.{All, AllByRecursion, Contains, IsDistinct}
use Rattle.std.specs.List.Sorted.{IsPermutation, IsStrictlySortedBy}
use Rattle.std.specs.Ordering.{eq_by_cmp, is_eq, is_lt, ordering_reverse}
use Rattle.std.specs.declared.cmp.Ordering.{Ordering}
use Rattle.std.specs.declared.cmp.Ordering.TheVariants.{Less, Equal, Greater}
use Rattle.std.proofs.lemmas.List.Elements.{All-from_recursion, recursion_from_All}
use Rattle.std.proofs.lemmas.List.Sorted.{All-permutation, IsPermutation-append_comm, IsPermutation-append_left, IsPermutation-cons, IsPermutation-map, IsPermutation-refl, IsPermutation-trans}
use Rattle.osm_model.proofs.shared.References.{refs_total}
use Rattle.osm_model.specs.Elements.{Element, reference, references, ref_cmp}
use Rattle.osm_model.specs.Limits.{IsElement}
use Rattle.osm_model.specs.Sets.{HasDistinctReferences, IsObjectSet}
use Rattle.osm_model.specs.declared.reference.Ref.{Ref}

put_in : Element → List Element → List Element
put_in x [] = x ∷ []
put_in x (y ∷ ys) = cond (is_lt (ref_cmp (reference y) (reference x))) (y ∷ put_in x ys) (x ∷ y ∷ ys)

swapped : (x y : Element) (ys : List Element) → IsPermutation (x ∷ y ∷ ys) (y ∷ x ∷ ys)
swapped x y ys = IsPermutation-append_left ys (x ∷ y ∷ []) (y ∷ x ∷ []) (IsPermutation-append_comm (x ∷ []) (y ∷ []))

put_order : (x : Element) (ys : List Element) → IsPermutation (x ∷ ys) (put_in x ys)
unfolding put_in
put_order x [] = IsPermutation-refl (x ∷ [])
put_order x (y ∷ ys) = elim (is_lt (ref_cmp (reference y) (reference x))) as (λ b. IsPermutation (x ∷ y ∷ ys) (cond b (y ∷ put_in x ys) (x ∷ y ∷ ys))) [
  | true ↦ IsPermutation-trans (x ∷ y ∷ ys) (y ∷ x ∷ ys) (y ∷ put_in x ys) (swapped x y ys) (IsPermutation-cons y (x ∷ ys) (put_in x ys) (put_order x ys))
  | false ↦ IsPermutation-refl (x ∷ y ∷ ys)
]

all_put : (P : Ref → Type 0) (x : Element) (ys : List Element) → P (reference x) → AllByRecursion P (references ys) → AllByRecursion P (references (put_in x ys))
unfolding put_in
all_put P x [] p a = (p, tt)
all_put P x (y ∷ ys) p a = elim (is_lt (ref_cmp (reference y) (reference x))) as (λ b. AllByRecursion P (references (cond b (y ∷ put_in x ys) (x ∷ y ∷ ys)))) [
  | true ↦ (a.0, all_put P x ys p a.1)
  | false ↦ (p, a)
]

less : (o : Ordering) → is_lt o ≡ true → o ≡ Less
less Less t = refl
less Equal t = cc
less Greater t = cc

-- of two that differ one is less
other : (o p : Ordering) → p ≡ ordering_reverse o → is_lt o ≡ false → is_eq p ≡ false → p ≡ Less
other Less p e f g = cc
other Equal p e f g = let h : is_eq (ordering_reverse Equal) ≡ false = sym (ap is_eq e) ∙ g in cc
other Greater p e f g = e

all_above : (a b : Ref) (ks : List Ref) → ref_cmp a b ≡ Less → AllByRecursion (λ (k : Ref). ref_cmp b k ≡ Less) ks → AllByRecursion (λ (k : Ref). ref_cmp a k ≡ Less) ks
all_above a b [] l h = tt
all_above a b (k ∷ ks) l h = (refs_total.trans a b k l h.0, all_above a b ks l h.1)

put_rises : (x : Element) (ys : List Element) → AllByRecursion (λ (r : Ref). eq_by_cmp ref_cmp (reference x) r ≡ false) (references ys) → IsStrictlySortedBy ref_cmp (references ys) → IsStrictlySortedBy ref_cmp (references (put_in x ys))
unfolding IsStrictlySortedBy put_in
put_rises x [] d s = (tt, tt)
put_rises x (y ∷ ys) d s = at (is_lt (ref_cmp (reference y) (reference x))) refl (put_rises x ys d.1 s.1)
  where
    at : (b : Bool) → is_lt (ref_cmp (reference y) (reference x)) ≡ b → IsStrictlySortedBy ref_cmp (references (put_in x ys)) → IsStrictlySortedBy ref_cmp (references (cond b (y ∷ put_in x ys) (x ∷ y ∷ ys)))
    at true t more = (all_put (λ (r : Ref). ref_cmp (reference y) r ≡ Less) x ys (less (ref_cmp (reference y) (reference x)) t) s.0, more)
    at false f more =
        let below = other (ref_cmp (reference y) (reference x)) (ref_cmp (reference x) (reference y)) (refs_total.antisymm (reference x) (reference y)) f d.0 in
        ((below, all_above (reference x) (reference y) (references ys) below s.0), s)

sorted : (os : List Element) → HasDistinctReferences os → (set : List Element) × IsPermutation os set × IsStrictlySortedBy ref_cmp (references set)
unfolding IsDistinct IsStrictlySortedBy
sorted [] d = ([], IsPermutation-refl [], tt)
sorted (x ∷ os) d =
    let (set, order, rises) = sorted os d.1 in
    let P : Ref → Type 0 = λ r. eq_by_cmp ref_cmp (reference x) r ≡ false in
    let differ = recursion_from_All P (references set) (All-permutation P (references os) (references set) (IsPermutation-map (λ (o : Element). reference o) os set order) (All-from_recursion P (references os) d.0)) in (
      put_in x set,
      IsPermutation-trans (x ∷ os) (x ∷ set) (put_in x set) (IsPermutation-cons x os set order) (put_order x set),
      put_rises x set differ rises,
    )

-- the set of objects that differ
pub set_of : (objects : List Element) → HasDistinctReferences objects → AllByRecursion IsElement objects → (set : List Element) × IsPermutation objects set × IsObjectSet set
set_of objects apart elements =
    let (set, order, rises) = sorted objects apart in
    (set, order, record { rising = rises; elements = All-permutation IsElement objects set order (All-from_recursion IsElement objects elements) })
