-- Nodes whose digests rise stand in one order.
use Rattle.std.proofs.Common.{◌≡◌, ℕ, zero, suc, List, [], ◌∷◌, ◌⊎◌, inl, inr, refl, sym, ap, subst, ◌∙◌, arith}
use Rattle.std.specs.List.{Contains}
use Rattle.tree_node.specs.Digests.{digest}
use Rattle.tree_node.specs.Order.{IsBelow}
use Rattle.tree_node.specs.internal.OrderLemmas.{not_itself, order_trans}
use Rattle.osm_keys.proofs.shared.Members.{first_or_in_rest, here, in_rest, none}
use Rattle.osm_prove.specs.Proofs.{AreRising}

-- the digest of the first is below that of each after it
pub first_below : (n : List ℕ) (ns : List (List ℕ)) (x : List ℕ) → AreRising (n ∷ ns) → Contains ns x → IsBelow (digest n) (digest x)
first_below n ns x rising (k, lt, is) = subst (λ (y : List ℕ). IsBelow (digest n) (digest y)) is (rising zero (suc k) x (omega arith) (omega (arith, lt)))

pub rest_rises : (n : List ℕ) (ns : List (List ℕ)) → AreRising (n ∷ ns) → AreRising ns
rest_rises n ns rising i j d lt within = rising (suc i) (suc j) d (omega (arith, lt)) (omega (arith, within))

-- the first isn't among those after it
pub first_apart : (n : List ℕ) (ns : List (List ℕ)) → AreRising (n ∷ ns) → ¬ Contains ns n
first_apart n ns rising is = not_itself (digest n) (digest n) (first_below n ns n rising is) refl

-- the same nodes by rising digest are the same list
pub one_order : (xs ys : List (List ℕ)) → AreRising xs → AreRising ys → ((x : List ℕ) → Contains xs x → Contains ys x) → ((x : List ℕ) → Contains ys x → Contains xs x) → xs ≡ ys
one_order [] [] xr yr to back = refl
one_order [] (y ∷ ys) xr yr to back = absurd (none y (back y (here y ys)))
one_order (x ∷ xs) [] xr yr to back = absurd (none x (to x (here x xs)))
one_order (x ∷ xs) (y ∷ ys) xr yr to back =
    let same : x ≡ y = heads (first_or_in_rest y ys x (to x (here x xs))) (first_or_in_rest x xs y (back y (here y ys))) in
    let rest = one_order xs ys (rest_rises x xs xr) (rest_rises y ys yr)
    (λ z is. elim (first_or_in_rest y ys z (to z (in_rest x xs z is))) [ inl e ↦ absurd (first_apart x xs xr (subst (Contains xs) (sym (same ∙ e)) is)) | inr there ↦ there ])
    (λ z is. elim (first_or_in_rest x xs z (back z (in_rest y ys z is))) [ inl e ↦ absurd (first_apart y ys yr (subst (Contains ys) (sym (sym same ∙ e)) is)) | inr there ↦ there ]) in
    ap (λ (n : List ℕ). n ∷ xs) same ∙ ap (λ (ns : List (List ℕ)). y ∷ ns) rest
  where
    heads : (y ≡ x) ⊎ Contains ys x → (x ≡ y) ⊎ Contains xs y → x ≡ y
    heads (inl e) other = sym e
    heads (inr is) (inl e) = e
    heads (inr is) (inr is_too) = absurd (not_itself (digest x) (digest x) (order_trans (digest x) (digest y) (digest x) (first_below x xs y xr is_too) (first_below y ys x yr is)) refl)
