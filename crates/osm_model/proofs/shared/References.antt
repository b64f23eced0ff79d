-- References are in one order, and a search finds the object that has one.
use Rattle.std.proofs.Common.{◌≡◌, ℕ, zero, suc, ◌+◌, ◌<◌, List, [], ◌∷◌, length, get_or, map, Bool, false, Some, None, Result, Ok, Err, inl, inr, refl, sym, ◌∙◌, arith}
use Rattle.std.specs.List.{find, HoldsAt, slice_get}
use Rattle.std.specs.Prelude.{IfOk, IfErr}
use Rattle.std.proofs.lemmas.Bool.{cases_lt}
use Rattle.std.proofs.lemmas.Option.{slice_get-get_or}
use Rattle.std.specs.declared.cmp.Ordering.{Ordering}
use Rattle.std.specs.declared.cmp.Ordering.TheVariants.{Less, Equal}
use Rattle.std.specs.Ordering.{is_eq, is_lt, eq_by_cmp}
use Rattle.std.specs.Cmp.{IsTotalOrder}
use Rattle.std.specs.List.Sorted.{IsStrictlySortedBy, IsBinarySearchResult, IsSearchInRange}
use Rattle.std.proofs.lemmas.List.{get_or-map, length-map}
use Rattle.std.proofs.lemmas.Map.Keys.{Less-from_sorted, sorted_tail}
use Rattle.std.proofs.lemmas.Cmp.{nat_cmp_total, int_cmp_total, on_total, then_total, alike_right}
use Rattle.osm_model.specs.declared.reference.Ref.{Ref}
use Rattle.std.specs.List.{AllAdjacentBelow}
use Rattle.std.specs.List.Sorted.{IsPermutation, IsSortedByKey, IsSortedBy}
use Rattle.std.proofs.lemmas.Cmp.{eq_by_cmp_equiv}
use Rattle.std.proofs.lemmas.List.Sorted.{IsPermutation-map, searchable_from_sorted}
use Rattle.std.proofs.lemmas.Map.Keys.{IsDistinct-IsPermutation}
use Rattle.osm_model.specs.Elements.{Element, ref_cmp, kind_byte, reference}
use Rattle.osm_model.specs.Sets.{HasDistinctReferences}
use Rattle.osm_model.proofs.shared.RisingKeys.{Below, rises_from_distinct}

pub refs_total : IsTotalOrder ref_cmp
unfolding ref_cmp
refs_total = then_total (on_total (λ (r : Ref). kind_byte r.kind) nat_cmp_total) (on_total (λ (r : Ref). r.id) int_cmp_total)

module _ {X K : Type 0} (key : X → K) {cmp : K → K → Ordering} (o : IsTotalOrder cmp) (r : K) where
  -- whether an element has the key
  abbrev pub Has : X → Bool
  Has x = eq_by_cmp cmp (key x) r

  pub finds : (xs : List X) (at : ℕ) (d : X) → IsStrictlySortedBy cmp (map key xs) → at < length xs → cmp (key (get_or xs at d)) r ≡ Equal → find Has xs ≡ Some (get_or xs at d)
  finds [] at d up lt e = absurd (omega arith)
  finds (x ∷ xs) zero d up lt e = rw e refl
  finds (x ∷ xs) (suc at) d up lt e =
      let below : at < length xs = omega arith in
      let less = Less-from_sorted cmp (map key (x ∷ xs)) 0 (suc at) (key d) up (omega arith) (omega (arith, length-map xs key)) in
      let less_key : cmp (key x) (key (get_or xs at d)) ≡ Less = rw (get_or-map key xs at d (key d) below) at less in
      let before : cmp (key x) r ≡ Less = sym (alike_right o (key (get_or xs at d)) r (key x) e) ∙ less_key in
      rw before (finds xs at d (sorted_tail cmp (key x) (map key xs) up) below e)

  pub finds_none : (xs : List X) → ((k : ℕ) (d : X) → k < length xs → is_eq (cmp (key (get_or xs k d)) r) ≡ false) → find Has xs ≡ None
  finds_none [] h = refl
  finds_none (x ∷ xs) h = rw (h 0 x (omega arith)) (finds_none xs (λ k d lt. h (suc k) d (omega arith)))

  sorted : (xs : List X) → IsStrictlySortedBy cmp (map key xs) → IsSortedBy (λ a b. is_lt (cmp (key a) (key b))) xs
  sorted xs up k d from lt =
      let here : k < length xs = omega arith in
      let mapped : k + 1 < length (map key xs) = omega (arith, length-map xs key) in
      let less = Less-from_sorted cmp (map key xs) k (k + 1) (key d) up (omega arith) mapped in
      let less_key : cmp (key (get_or xs k d)) (key (get_or xs (k + 1) d)) ≡ Less = rw (get_or-map key xs k d (key d) here, get_or-map key xs (k + 1) d (key d) lt) at less in
      rw (o.antisymm (key (get_or xs (k + 1) d)) (key (get_or xs k d)), less_key) refl

  from_place : (xs : List X) (at : ℕ) → IsStrictlySortedBy cmp (map key xs) → at < length xs → HoldsAt (λ x. cmp (key x) r ≡ Equal) xs at → find Has xs ≡ slice_get xs at
  from_place [] at up lt e = absurd (omega arith)
  from_place (x ∷ xs) at up lt e = finds (x ∷ xs) at x up lt (e x) ∙ sym (slice_get-get_or (x ∷ xs) at x lt)

  -- what a binary search says
  pub searched : (xs : List X) (p : Result ℕ ℕ) → IsStrictlySortedBy cmp (map key xs) → IsSearchInRange p (length xs) → IsBinarySearchResult (λ x. cmp (key x) r) xs p
      → record { found : IfOk p (λ at. (at < length xs) × (find Has xs ≡ slice_get xs at)); none : IfErr p (λ _. find Has xs ≡ None) }
  searched xs (Ok at) up bound e = record { found = (bound, from_place xs at up bound e); none = tt }
  searched xs (Err at) up bound parts = record {
    found = tt;
    none = finds_none xs (λ k d lt.
        let sides = parts (searchable_from_sorted o key xs r (sorted xs up)) in
        elim (cases_lt k at) [
          | inl before ↦ rw (sides.0 k d (omega arith) before) refl
          | inr after ↦ rw (sides.1 k d after lt) refl
        ]);
  }

-- references that differ rise once the objects are sorted
pub twice : (objects sorted : List Element) → IsPermutation objects sorted → IsSortedByKey (λ (o : Element). reference o) ref_cmp sorted
    → (AllAdjacentBelow (Below (λ (o : Element). reference o) ref_cmp) sorted (length sorted) → ⊥) → HasDistinctReferences objects → ⊥
twice objects sorted p up not differ =
    let same : IsPermutation (map (λ (o : Element). reference o) objects) (map (λ (o : Element). reference o) sorted) = IsPermutation-map (λ (o : Element). reference o) objects sorted p in
    not (rises_from_distinct (λ (o : Element). reference o) refs_total sorted up
    (IsDistinct-IsPermutation (eq_by_cmp ref_cmp) ((eq_by_cmp_equiv refs_total).symm) _ _ same differ))
