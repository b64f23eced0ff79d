-- Keys of references are ordered as the references are.
use Rattle.std.proofs.Common.{◌≡◌, ◌⊎◌, ◌↔◌, inl, inr, ℕ, zero, suc, ◌*◌, ◌/◌, ◌%◌, ◌^◌, ◌<◌, ◌≤◌, ℤ, pos, negsuc, FitsSigned, w64, [], refl, sym, ap, subst, ◌∙◌, arith}
use Rattle.std.specs.Int.{bytes_high_first}
use Rattle.std.specs.Ordering.{MatchOrdering, int_cmp, ordering_reverse}
use Rattle.std.specs.Prelude.{◌<ℤ◌}
use Rattle.std.specs.declared.cmp.Ordering.{Ordering}
use Rattle.std.specs.declared.cmp.Ordering.TheVariants.{Less, Equal, Greater}
use Rattle.std.proofs.lemmas.Cmp.{int_ranked}
use Rattle.std.proofs.lemmas.Int.{ints}
use Rattle.osm_model.proofs.shared.References.{refs_total}
use Rattle.osm_model.specs.Elements.{kind_byte, ref_cmp}
use Rattle.osm_model.specs.declared.kind.Kind.{Kind}
use Rattle.osm_model.specs.declared.kind.Kind.TheVariants as kinds
use Rattle.osm_model.specs.declared.reference.Ref.{Ref}
use Rattle.tree_node.specs.Order.{IsBelow}
use Rattle.tree_node.specs.internal.OrderLemmas.{not_itself, order_trans}
use Rattle.tree_walk.proofs.shared.KeyLemmas.{cons_below}
use Rattle.osm_keys.specs.Keys.{above, id_bytes, ref_key}
use Rattle.std.proofs.lemmas.Bool.{cases_order}
use Rattle.std.proofs.Math.Nat.{div-div-eq-div-mul, div-mul-le_self, pow-suc}
use Rattle.std.proofs.lemmas.Nat.{le-div}
use Rattle.osm_keys.proofs.shared.OneObject.{same_reference}

-- ---- ids

above_rises : (y z : ℤ) → FitsSigned w64 y → FitsSigned w64 z → y <ℤ z → above (2 ^ 63) y < above (2 ^ 63) z
above_rises (pos m) (pos n) f g less = omega (arith, ints)
above_rises (pos m) (negsuc n) f g less = absurd (omega (arith, ints))
above_rises (negsuc m) (pos n) f g less = omega (arith, ints)
above_rises (negsuc m) (negsuc n) f g less = omega (arith, ints)

above_few : (z : ℤ) → FitsSigned w64 z → above (2 ^ 63) z < 18446744073709551616
above_few (pos n) fits = omega (arith, ints)
above_few (negsuc n) fits = omega (arith, ints)

-- ---- numbers, the greatest byte first

pow_positive : (k : ℕ) → 0 < 256 ^ k
pow_positive zero = omega arith
pow_positive (suc k) =
    let before = pow_positive k in
    let split : 256 ^ suc k ≡ 256 ^ k * 256 = pow-suc 256 k in
    omega (arith, before, split)

-- numbers with one upper part are ordered as their lower bytes are
bytes_below : (k n m : ℕ) → n / 256 ^ k ≡ m / 256 ^ k → n < m → IsBelow (bytes_high_first k n) (bytes_high_first k m)
bytes_below zero n m e less = let same : n / 1 ≡ m / 1 = e in absurd (omega (arith, same, less))
bytes_below (suc zero) n m e less =
    let same : n / 256 ≡ m / 256 = e in
    cons_below (n % 256) (m % 256) [] [] (inl (omega (arith, same, less)))
bytes_below (suc (suc i)) n m e less =
    let q : ℕ = 256 ^ suc i in
    let split : 256 ^ suc (suc i) ≡ q * 256 = pow-suc 256 (suc i) in
    let upper : n / q / 256 ≡ m / q / 256 = div-div-eq-div-mul n q 256 ∙ ap (λ (p : ℕ). n / p) (sym split) ∙ e ∙ ap (λ (p : ℕ). m / p) split ∙ sym (div-div-eq-div-mul m q 256) in
    let low : n / q * q ≤ n = div-mul-le_self n q in
    let most : n / q ≤ m / q = le-div (n / q) m q (pow_positive (suc i)) (omega (arith, low, less)) in
    cons_below (n / q % 256) (m / q % 256) (bytes_high_first (suc i) n) (bytes_high_first (suc i) m) (elim (cases_order (n / q) (m / q)) [
      | inl same ↦ inr (ap (λ (x : ℕ). x % 256) same, bytes_below (suc i) n m same less)
      | inr (inl lt) ↦ inl (omega (arith, upper, lt))
      | inr (inr gt) ↦ absurd (omega (arith, most, gt))
    ])

ids_below : (y z : ℤ) → FitsSigned w64 y → FitsSigned w64 z → y <ℤ z → IsBelow (id_bytes y) (id_bytes z)
unfolding id_bytes
ids_below y z f g less =
    let few_y = above_few y f in
    let few_z = above_few z g in
    let none_y : above (2 ^ 63) y / 18446744073709551616 ≡ 0 = omega (arith, few_y) in
    let none_z : above (2 ^ 63) z / 18446744073709551616 ≡ 0 = omega (arith, few_z) in
    bytes_below 8 (above (2 ^ 63) y) (above (2 ^ 63) z) (none_y ∙ sym none_z) (above_rises y z f g less)

-- ---- references

int_less : (i j : ℤ) → int_cmp i j ≡ Less → i <ℤ j
int_less i j e = subst (λ (o : Ordering). MatchOrdering o (i <ℤ j) (i ≡ j) (j <ℤ i)) e (int_ranked i j (int_cmp i j) refl)

parts_below : (k l : Kind) (i j : ℤ) → ref_cmp (record { kind = k; id = i }) (record { kind = l; id = j }) ≡ Less → (kind_byte k < kind_byte l) ⊎ ((kind_byte k ≡ kind_byte l) × (int_cmp i j ≡ Less))
unfolding ref_cmp
parts_below kinds.Node kinds.Node i j e = inr (refl, e)
parts_below kinds.Node kinds.Way i j e = inl (omega arith)
parts_below kinds.Node kinds.Rel i j e = inl (omega arith)
parts_below kinds.Way kinds.Node i j e = cc
parts_below kinds.Way kinds.Way i j e = inr (refl, e)
parts_below kinds.Way kinds.Rel i j e = inl (omega arith)
parts_below kinds.Rel kinds.Node i j e = cc
parts_below kinds.Rel kinds.Way i j e = cc
parts_below kinds.Rel kinds.Rel i j e = inr (refl, e)

below_keys : (r s : Ref) → FitsSigned w64 r.id → FitsSigned w64 s.id → ref_cmp r s ≡ Less → IsBelow (ref_key r) (ref_key s)
below_keys r s f g e = cons_below (kind_byte r.kind) (kind_byte s.kind) (id_bytes r.id) (id_bytes s.id) (elim (parts_below r.kind s.kind r.id s.id e) [
  | inl lt ↦ inl lt
  | inr (same, ids) ↦ inr (same, ids_below r.id s.id f g (int_less r.id s.id ids))
])

below_refs : (r s : Ref) → FitsSigned w64 r.id → FitsSigned w64 s.id → (o : Ordering) → ref_cmp r s ≡ o → IsBelow (ref_key r) (ref_key s) → ref_cmp r s ≡ Less
below_refs r s f g Less e below = e
below_refs r s f g Equal e below = absurd (not_itself (ref_key r) (ref_key s) below (ap ref_key (same_reference r s e)))
below_refs r s f g Greater e below =
    let turned : ref_cmp s r ≡ Less = refs_total.antisymm s r ∙ ap ordering_reverse e in
    absurd (not_itself (ref_key r) (ref_key r) (order_trans (ref_key r) (ref_key s) (ref_key r) below (below_keys s r g f turned)) refl)

-- one reference is below another exactly where its key is
pub keys_as_refs : (r s : Ref) → FitsSigned w64 r.id → FitsSigned w64 s.id → (ref_cmp r s ≡ Less) ↔ IsBelow (ref_key r) (ref_key s)
keys_as_refs r s f g = (below_keys r s f g, below_refs r s f g (ref_cmp r s) refl)
