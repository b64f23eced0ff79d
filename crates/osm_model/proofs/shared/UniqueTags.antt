-- Lists that strictly rise by a key and have the same elements are one list.
use Rattle.std.proofs.Common.{◌≡◌, zero, suc, List, [], ◌∷◌, map, refl, sym, ◌∙◌, ap, arith, inl, inr, ◌⊎◌}
use Rattle.std.specs.declared.cmp.Ordering.{Ordering}
use Rattle.std.specs.declared.cmp.Ordering.TheVariants.{Less, Greater}
use Rattle.std.specs.Ordering.{ordering_reverse}
use Rattle.std.specs.Cmp.{IsTotalOrder}
use Rattle.std.specs.List.{Contains}
use Rattle.std.specs.List.Sorted.{IsStrictlySortedBy, IsPermutation}
use Rattle.std.proofs.lemmas.List.{get_or-map, length-map}
use Rattle.std.proofs.lemmas.List.Sorted.{Contains-permutation, IsPermutation-sym}
use Rattle.std.proofs.lemmas.Map.Keys.{Less-from_sorted, sorted_tail}

-- an element of a list is its first, or one of the rest
first_or_rest : {X : Type 0} (x : X) (xs : List X) (y : X) → Contains (x ∷ xs) y → (x ≡ y) ⊎ Contains xs y
first_or_rest x xs y (zero, inside, at) = inl at
first_or_rest x xs y (suc k, inside, at) = inr (k, omega arith, at)

here : {X : Type 0} (x : X) (xs : List X) → Contains (x ∷ xs) x
here x xs = (0, omega arith, refl)

in_longer : {X : Type 0} (x : X) (xs : List X) (y : X) → Contains xs y → Contains (x ∷ xs) y
in_longer x xs y (k, inside, at) = (suc k, omega arith, at)

nothing : {X : Type 0} (y : X) → Contains [] y → ⊥
nothing y (k, inside, at) = omega arith

module _ {X K : Type 0} (key : X → K) {cmp : K → K → Ordering} (o : IsTotalOrder cmp) where
  -- the first key is below each key after it
  below_rest : (x : X) (xs : List X) (y : X) → IsStrictlySortedBy cmp (map key (x ∷ xs)) → Contains xs y → cmp (key x) (key y) ≡ Less
  below_rest x xs y up (k, inside, at) =
      let less = Less-from_sorted cmp (map key (x ∷ xs)) 0 (suc k) (key y) up (omega arith) (omega (arith, length-map xs key)) in
      ap (λ (z : X). cmp (key x) (key z)) (sym at) ∙ sym (ap (λ (z : K). cmp (key x) z) (get_or-map key xs k y (key y) inside)) ∙ less

  not_both : (x y : X) → cmp (key x) (key y) ≡ Less → cmp (key y) (key x) ≡ Less → ⊥
  not_both x y p q = let turned : cmp (key x) (key y) ≡ ordering_reverse (cmp (key y) (key x)) = o.antisymm (key x) (key y) in let wrong : Less ≡ Greater = sym p ∙ turned ∙ ap ordering_reverse q in cc

  not_itself : (x y : X) → x ≡ y → cmp (key x) (key y) ≡ Less → ⊥
  not_itself x y e p = not_both x y p (let back : cmp (key y) (key x) ≡ cmp (key x) (key y) = ap (λ (z : X). cmp (key z) (key x)) (sym e) ∙ ap (λ (z : X). cmp (key x) (key z)) e in back ∙ p)

  pub same_elements : (xs ys : List X) → IsStrictlySortedBy cmp (map key xs) → IsStrictlySortedBy cmp (map key ys)
      → ((z : X) → Contains xs z → Contains ys z) → ((z : X) → Contains ys z → Contains xs z) → xs ≡ ys
  same_elements [] [] up vp there back = refl
  same_elements [] (y ∷ ys) up vp there back = absurd (nothing y (back y (here y ys)))
  same_elements (x ∷ xs) [] up vp there back = absurd (nothing x (there x (here x xs)))
  same_elements (x ∷ xs) (y ∷ ys) up vp there back =
      let first : x ≡ y = firsts (first_or_rest y ys x (there x (here x xs))) (first_or_rest x xs y (back y (here y ys))) in
      let rest : xs ≡ ys = same_elements xs ys (sorted_tail cmp (key x) (map key xs) up) (sorted_tail cmp (key y) (map key ys) vp)
      (λ z inside. later ys (sym first) z (below_rest x xs z up inside) (first_or_rest y ys z (there z (in_longer x xs z inside))))
      (λ z inside. later xs first z (below_rest y ys z vp inside) (first_or_rest x xs z (back z (in_longer y ys z inside)))) in
      cc
    where
      firsts : (y ≡ x) ⊎ Contains ys x → (x ≡ y) ⊎ Contains xs y → x ≡ y
      firsts (inl e) other = sym e
      firsts (inr in_ys) (inl e) = e
      firsts (inr in_ys) (inr in_xs) = absurd (not_both x y (below_rest x xs y up in_xs) (below_rest y ys x vp in_ys))

      later : (ws : List X) {w v : X} → w ≡ v → (z : X) → cmp (key v) (key z) ≡ Less → (w ≡ z) ⊎ Contains ws z → Contains ws z
      later ws e z less (inl same) = absurd (not_itself _ z (sym e ∙ same) less)
      later ws e z less (inr inside) = inside

  -- two strictly rising orders of one list are one
  pub same_order : (written xs ys : List X) → IsPermutation written xs → IsPermutation written ys → IsStrictlySortedBy cmp (map key xs) → IsStrictlySortedBy cmp (map key ys) → xs ≡ ys
  same_order written xs ys p q up vp = same_elements xs ys up vp
      (λ z inside. Contains-permutation written ys z q (Contains-permutation xs written z (IsPermutation-sym written xs p) inside))
      (λ z inside. Contains-permutation written xs z p (Contains-permutation ys written z (IsPermutation-sym written ys q) inside))
