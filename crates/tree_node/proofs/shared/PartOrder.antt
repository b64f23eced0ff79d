-- Parts whose digests rise stand in one order.
use Rattle.std.proofs.Common.{◌≡◌, ℕ, zero, suc, List, [], ◌∷◌, map, ◌⊎◌, inl, inr, refl, sym, ap, subst, ◌∙◌, arith}
use Rattle.tree_node.specs.Digests.{digest}
use Rattle.tree_node.specs.Order.{IsBelow}
use Rattle.tree_node.specs.Parts.{node_of, HaveNode, HaveRisingDigests}
use Rattle.tree_node.specs.declared.part.Part.{Part}
use Rattle.tree_node.specs.internal.OrderLemmas.{not_itself, order_trans}

-- a part holds its node, and so does one of those after the first
here : (p : Part) (ps : List Part) → HaveNode (p ∷ ps) (node_of p)
here p ps = (zero, p, omega arith, refl, refl)

there : (p : Part) (ps : List Part) (x : List ℕ) → HaveNode ps x → HaveNode (p ∷ ps) x
there p ps x (k, q, lt, is, e) = (suc k, q, omega (arith, lt), is, e)

first_or : (p : Part) (ps : List Part) (x : List ℕ) → HaveNode (p ∷ ps) x → (node_of p ≡ x) ⊎ HaveNode ps x
first_or p ps x (zero, q, lt, is, e) = inl (ap node_of is ∙ e)
first_or p ps x (suc k, q, lt, is, e) = inr (k, q, omega (arith, lt), is, e)

none : (x : List ℕ) → HaveNode [] x → ⊥
none x (k, q, lt, is, e) = absurd (omega (arith, lt))

-- the digest of the first is below that of each after it
first_below : (p : Part) (ps : List Part) (x : List ℕ) → HaveRisingDigests (p ∷ ps) → HaveNode ps x → IsBelow (digest (node_of p)) (digest x)
first_below p ps x rising (k, q, lt, is, e) =
    subst (λ (n : List ℕ). IsBelow (digest (node_of p)) (digest n)) (ap node_of is ∙ e) (rising zero (suc k) q (omega arith) (omega (arith, lt)))

rest_rises : (p : Part) (ps : List Part) → HaveRisingDigests (p ∷ ps) → HaveRisingDigests ps
rest_rises p ps rising i j d lt ltj = rising (suc i) (suc j) d (omega (arith, lt)) (omega (arith, ltj))

-- what the one holds the other does
pub one_order : (ps qs : List Part) → HaveRisingDigests ps → HaveRisingDigests qs → ((x : List ℕ) → HaveNode ps x → HaveNode qs x) → ((x : List ℕ) → HaveNode qs x → HaveNode ps x) → map node_of ps ≡ map node_of qs
one_order [] [] rp rq to back = refl
one_order [] (q ∷ qs) rp rq to back = absurd (none (node_of q) (back (node_of q) (here q qs)))
one_order (p ∷ ps) [] rp rq to back = absurd (none (node_of p) (to (node_of p) (here p ps)))
one_order (p ∷ ps) (q ∷ qs) rp rq to back =
    let same : node_of p ≡ node_of q = heads (first_or q qs (node_of p) (to (node_of p) (here p ps))) (first_or p ps (node_of q) (back (node_of q) (here q qs))) in
    let rest = one_order ps qs (rest_rises p ps rp) (rest_rises q qs rq)
    (λ x is. elim (first_or q qs x (to x (there p ps x is))) [ inl e ↦ absurd (not_itself _ _ (first_below p ps x rp is) (ap digest (same ∙ e))) | inr in_qs ↦ in_qs ])
    (λ x is. elim (first_or p ps x (back x (there q qs x is))) [ inl e ↦ absurd (not_itself _ _ (first_below q qs x rq is) (ap digest (sym same ∙ e))) | inr in_ps ↦ in_ps ]) in
    ap (λ (n : List ℕ). n ∷ map node_of ps) same ∙ ap (λ (ns : List (List ℕ)). node_of q ∷ ns) rest
  where
    heads : (node_of q ≡ node_of p) ⊎ HaveNode qs (node_of p) → (node_of p ≡ node_of q) ⊎ HaveNode ps (node_of q) → node_of p ≡ node_of q
    heads (inl e) other = sym e
    heads (inr is) (inl e) = e
    heads (inr is) (inr is_too) = absurd (not_itself (digest (node_of p)) (digest (node_of p)) (order_trans (digest (node_of p)) (digest (node_of q)) (digest (node_of p)) (first_below p ps (node_of q) rp is_too) (first_below q qs (node_of p) rq is)) refl)
