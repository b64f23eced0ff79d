-- Loops that keep the references of some elements of a rising list.
use Rattle.std.proofs.Common.{◌≡◌, ℕ, zero, suc, ◌+◌, ◌<◌, ◌≤◌, List, [], ◌∷◌, ◌++◌, length, get_or, map, take, inl, inr, ◌↔◌, Result, Ok, Err, Bool, true, false, refl, sym, ap, subst, ◌∙◌, arith}
use Rattle.std.specs.Result.{is_ok}
use Rattle.std.proofs.lemmas.Bool.{cases_lt}
use Rattle.std.proofs.lemmas.Cmp.{tied_itself}
use Rattle.std.proofs.lemmas.List.{get_or-map, get_or-take, length-map, length-take, take_all}
use Rattle.std.proofs.lemmas.List.Elements.{All-from_recursion, All-push, recursion_from_All, Contains-append_left, Contains-push, Contains-push_cases}
use Rattle.std.proofs.lemmas.List.Sorted.{searchable_from_sorted}
use Rattle.std.proofs.lemmas.Map.Keys.{Less-from_sorted}
use Rattle.std.specs.List.{Contains}
use Rattle.std.specs.List.Sorted.{IsBinarySearchResult, IsSearchInRange, IsSortedBy, IsStrictlySortedBy}
use Rattle.std.specs.Ordering.{is_lt}
use Rattle.std.specs.declared.cmp.Ordering.TheVariants.{Less, Equal}
use Rattle.osm_model.proofs.shared.References.{refs_total}
use Rattle.osm_model.specs.Elements.{ref_cmp}
use Rattle.osm_model.specs.declared.reference.Ref.{Ref}
use Rattle.ref_sets.proofs.shared.Adding.{last_in_more, more_cases, none, was_in_more}
use Rattle.ref_sets.proofs.shared.References.{same_reference}
use mathlib.Core.Bool.{beq}
use Rattle.ref_sets.specs.Sets.{IsSetOf}
use Rattle.ref_sets.specs.internal.Wanted.{IsWanted}

pub rising_nothing : IsStrictlySortedBy ref_cmp []
unfolding IsStrictlySortedBy
rising_nothing = tt

-- one above all others may come last
pub rising_push : (refs : List Ref) (r : Ref) → IsStrictlySortedBy ref_cmp refs → ((s : Ref) → Contains refs s → ref_cmp s r ≡ Less) → IsStrictlySortedBy ref_cmp (refs ++ r ∷ [])
unfolding IsStrictlySortedBy
rising_push [] r up above = (tt, tt)
rising_push (s ∷ refs) r up above = (
  recursion_from_All (λ y. ref_cmp s y ≡ Less) (refs ++ r ∷ []) (All-push (λ y. ref_cmp s y ≡ Less) refs r (All-from_recursion (λ y. ref_cmp s y ≡ Less) refs up.0) (above s (zero, omega arith, refl))),
  rising_push refs r up.1 (λ t has. above t (suc has.0, omega (arith, has.1), has.2)),
)

module _ {X : Type 0} (key : X → Ref) (xs : List X) (up : IsStrictlySortedBy ref_cmp (map key xs)) where
  -- an earlier element is below a later one
  pub earlier_below : (i j : ℕ) (x y : X) → i < j → j < length xs → get_or xs i x ≡ x → get_or xs j y ≡ y → ref_cmp (key x) (key y) ≡ Less
  earlier_below i j x y lt within ix jy =
      let less = Less-from_sorted ref_cmp (map key xs) i j (key x) up lt (omega (arith, length-map xs key)) in
      let first : get_or (map key xs) i (key x) ≡ key x = get_or-map key xs i x (key x) (omega arith) ∙ ap key ix in
      let second : get_or (map key xs) j (key x) ≡ key y = get_or-map key xs j y (key x) within ∙ ap key jy in
      sym (ap (λ (r : Ref). ref_cmp r (get_or (map key xs) j (key x))) first ∙ ap (λ (r : Ref). ref_cmp (key x) r) second) ∙ less

  module _ (P : X → Type 0) where
    abbrev pub IsKept : ℕ → Ref → Type 0
    IsKept k r = (x : X) × Contains (take k xs) x × (key x ≡ r) × P x

    pub kept_nothing : (refs : List Ref) → refs ≡ [] → IsSetOf refs (IsKept 0)
    kept_nothing refs empty = record {
      rising = rw empty rising_nothing;
      members = λ r. ((λ has. absurd (none r (subst (λ (rs : List Ref). Contains rs r) empty has))), (λ of. absurd (none of.0 of.1)));
    }

    module _ (k : ℕ) (x : X) (lt : k < length xs) (is : x ≡ get_or xs k x) (refs : List Ref) (so : IsSetOf refs (IsKept k)) where
      all_below : (s : Ref) → Contains refs s → ref_cmp s (key x) ≡ Less
      all_below s has =
          let from = (so.members s).0 has in
          let at = from.1.0 in
          let short : at < k = omega (arith, from.1.1, length-take k xs) in
          let less = earlier_below at k from.0 x short lt (sym (get_or-take k xs at from.0 short) ∙ from.1.2) (sym is) in
          subst (λ (r : Ref). ref_cmp r (key x) ≡ Less) from.2 less

      pub kept_more : (later : List Ref) → later ≡ refs ++ key x ∷ [] → P x → IsSetOf later (IsKept (k + 1))
      kept_more later added p = record {
        rising = rw added (rising_push refs (key x) so.rising all_below);
        members = λ r. (
          (λ has. elim (Contains-push_cases refs (key x) r (subst (λ (rs : List Ref). Contains rs r) added has)) [
            | inl before ↦ (let from = (so.members r).0 before in (from.0, was_in_more xs k x lt is from.0 from.1, from.2, from.3))
            | inr same ↦ (x, last_in_more xs k x lt is, same, p)
          ]),
          (λ from. subst (λ (rs : List Ref). Contains rs r) (sym added) (elim (more_cases xs k x lt is from.0 from.1) [
            | inl was ↦ Contains-append_left refs (key x ∷ []) r ((so.members r).1 (from.0, was, from.2, from.3))
            | inr same ↦ subst (λ (s : Ref). Contains (refs ++ key x ∷ []) s) (ap key same ∙ from.2) (Contains-push refs (key x))
          ])),
        );
      }

      pub kept_same : (later : List Ref) → later ≡ refs → (P x → ⊥) → IsSetOf later (IsKept (k + 1))
      kept_same later same not = record {
        rising = rw same so.rising;
        members = λ r. (
          (λ has. let from = (so.members r).0 (subst (λ (rs : List Ref). Contains rs r) same has) in (from.0, was_in_more xs k x lt is from.0 from.1, from.2, from.3)),
          (λ from. subst (λ (rs : List Ref). Contains rs r) (sym same) (elim (more_cases xs k x lt is from.0 from.1) [
            | inl was ↦ (so.members r).1 (from.0, was, from.2, from.3)
            | inr this ↦ absurd (not (subst P (sym this) from.3))
          ])),
        );
      }

    -- all of them were gone over
    pub kept_all : (k : ℕ) → length xs ≤ k → (refs : List Ref) → IsSetOf refs (IsKept k) → IsSetOf refs (λ r. (x : X) × Contains xs x × (key x ≡ r) × P x)
    kept_all k past refs so = subst (λ (zs : List X). IsSetOf refs (λ r. (x : X) × Contains zs x × (key x ≡ r) × P x)) (take_all k xs past) so

-- a set of one thing is one of another that says the same
pub set_as : {refs : List Ref} {P Q : Ref → Type 0} → ((r : Ref) → P r → Q r) → ((r : Ref) → Q r → P r) → IsSetOf refs P → IsSetOf refs Q
set_as to from so = record { rising = so.rising; members = λ r. ((λ has. to r ((so.members r).0 has)), (λ q. (so.members r).1 (from r q))) }

pub map_same : {X : Type 0} (xs : List X) → map (λ (x : X). x) xs ≡ xs
map_same [] = refl
map_same (x ∷ xs) = ap (λ zs. x ∷ zs) (map_same xs)

-- ---- searches

sorted_neighbours : (refs : List Ref) → IsStrictlySortedBy ref_cmp refs → IsSortedBy (λ a b. is_lt (ref_cmp a b)) refs
sorted_neighbours refs up k d from lt = rw (refs_total.antisymm (get_or refs (k + 1) d) (get_or refs k d), Less-from_sorted ref_cmp refs k (k + 1) d up (omega arith) lt) refl

-- what a binary search says of references that rise
pub found_or_not : (refs : List Ref) (r : Ref) (p : Result ℕ ℕ) → IsStrictlySortedBy ref_cmp refs → IsSearchInRange p (length refs) → IsBinarySearchResult (λ y. ref_cmp y r) refs p → (is_ok p ≡ true) ↔ Contains refs r
found_or_not refs r (Ok at) up bound e = ((λ found. (at, bound, same_reference _ r (e r))), (λ has. refl))
found_or_not refs r (Err at) up bound parts = (
  (λ found. cc),
  (λ has. absurd (
      let sides = parts (searchable_from_sorted refs_total (λ (y : Ref). y) refs r (sorted_neighbours refs up)) in
      let here : ref_cmp (get_or refs has.0 r) r ≡ Equal = ap (λ (y : Ref). ref_cmp y r) has.2 ∙ tied_itself refs_total r in
      elim (cases_lt has.0 at) [
        | inl before ↦ (let less = sides.0 has.0 r (omega arith) before in cc)
        | inr after ↦ (let greater = sides.1 has.0 r after has.1 in cc)
      ])),
)

-- ---- what is wanted

pub wanted : (b w : Bool) {P : Type 0} → (b ≡ true) ↔ P → beq b w ≡ true → IsWanted w P
wanted true true so is = so.0 refl
wanted true false so is = absurd (cc)
wanted false true so is = absurd (cc)
wanted false false so is = λ p. (let h = so.1 p in cc)

pub unwanted : (b w : Bool) {P : Type 0} → (b ≡ true) ↔ P → beq b w ≡ false → IsWanted w P → ⊥
unwanted true true so is p = cc
unwanted true false so is not = not (so.0 refl)
unwanted false true so is p = (let h = so.1 p in cc)
unwanted false false so is not = cc
