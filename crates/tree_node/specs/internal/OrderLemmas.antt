-- Lemmas of the order of byte strings. They stand among the definitions since the proofs of a bag's laws cite them.
use Rattle.std.proofs.Common.{◌≡◌, ℕ, List, refl, ap, ◌∙◌}
use Rattle.std.specs.Ordering.{ordering_reverse}
use Rattle.std.specs.FinMap.{slice_cmp-IsAntisymmetric, nat_cmp-IsAntisymmetric}
use Rattle.std.specs.declared.cmp.Ordering.{Ordering}
use Rattle.std.specs.declared.cmp.Ordering.TheVariants.{Less, Equal, Greater}
use Rattle.std.proofs.lemmas.Cmp.{nat_list_cmp_total}
use Rattle.tree_node.specs.Order.{order, IsBelow}

-- below what is below is below
pub order_trans : (a b c : List ℕ) → IsBelow a b → IsBelow b c → IsBelow a c
order_trans a b c p q = nat_list_cmp_total.trans a b c p q

-- the order of two, from the other side
pub order_flip : (a b : List ℕ) → order a b ≡ ordering_reverse (order b a)
order_flip a b = nat_list_cmp_total.antisymm a b

-- what compares equal is equal
pub order_same : (a b : List ℕ) → order a b ≡ Equal → a ≡ b
order_same a b e = slice_cmp-IsAntisymmetric nat_cmp-IsAntisymmetric a b e

-- what is above has the other below it
pub order_above : (a b : List ℕ) → order a b ≡ Greater → IsBelow b a
order_above a b e = order_flip b a ∙ ap ordering_reverse e

-- only equality is its own reverse
reverse_fixed : (o : Ordering) → o ≡ ordering_reverse o → o ≡ Equal
reverse_fixed Less e = absurd (Prim.cc)
reverse_fixed Equal e = refl
reverse_fixed Greater e = absurd (Prim.cc)

-- each compares equal to itself
pub order_itself : (a : List ℕ) → order a a ≡ Equal
order_itself a = reverse_fixed (order a a) (order_flip a a)

-- what is below another isn't equal to it
pub not_itself : (a b : List ℕ) → IsBelow a b → a ≡ b → ⊥
not_itself a b below e = let s : order b b ≡ Less = Prim.rw e at below in let t = order_itself b in Prim.cc
