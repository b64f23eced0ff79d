-- The order of keys, as ranges need it.
use Rattle.std.proofs.Common.{◌≡◌, ◌↔◌, Bool, true, false, IsTrue, ℕ, zero, suc, ◌<◌, List, [], ◌∷◌, ◌++◌, refl, sym, ap, subst, ◌∙◌, inl, inr, ◌⊎◌, arith}
use Rattle.std.specs.Prelude.{not}
use Rattle.std.specs.Ordering.{nat_cmp, ordering_then}
use Rattle.std.specs.Cmp.{nat_cmp_is}
use Rattle.std.specs.declared.cmp.Ordering.{Ordering}
use Rattle.std.specs.declared.cmp.Ordering.TheVariants.{Less, Equal, Greater}
use Rattle.std.proofs.lemmas.Bool.{cases_order}
use Rattle.tree_node.specs.Order.{order, IsBelow}
use Rattle.tree_node.specs.internal.OrderLemmas.{not_itself, order_same, order_above, order_trans}
use Rattle.tree_walk.specs.Ranges.{Begins, IsAtMost}

-- ---- the first bytes decide, or else what comes after them

lesser : (x y : ℕ) (after : Ordering) → x < y → ordering_then (nat_cmp x y) after ≡ Less
lesser x y after lt = ap (λ o. ordering_then o after) (sym (nat_cmp_is x y Less lt))

greater : (x y : ℕ) (after : Ordering) → y < x → ordering_then (nat_cmp x y) after ≡ Greater
greater x y after gt = ap (λ o. ordering_then o after) (sym (nat_cmp_is x y Greater gt))

equal : (x y : ℕ) (after : Ordering) → x ≡ y → ordering_then (nat_cmp x y) after ≡ after
equal x y after e = ap (λ o. ordering_then o after) (sym (nat_cmp_is x y Equal e))

-- an order isn't two
not_both : (o : Ordering) → o ≡ Greater → o ≡ Less → ⊥
not_both o p q = Prim.cc

-- equal strings have equal heads, and equal strings after them
heads_of : (x y : ℕ) (xs ys : List ℕ) → x ∷ xs ≡ y ∷ ys → x ≡ y
heads_of x y xs ys e = Prim.cc

tails_of : (x y : ℕ) (xs ys : List ℕ) → x ∷ xs ≡ y ∷ ys → xs ≡ ys
tails_of x y xs ys e = Prim.cc

-- of two strings the first is below the other by their heads, or by what follows equal ones
pub below_cons : (x y : ℕ) (xs ys : List ℕ) → IsBelow (x ∷ xs) (y ∷ ys) → (x < y) ⊎ ((x ≡ y) × IsBelow xs ys)
below_cons x y xs ys h =
    elim (cases_order x y) [
      | inl e ↦ inr (e, sym (equal x y (order xs ys) e) ∙ h)
      | inr (inl lt) ↦ inl lt
      | inr (inr gt) ↦ absurd (not_both _ (greater x y (order xs ys) gt) h)
    ]

pub cons_below : (x y : ℕ) (xs ys : List ℕ) → (x < y) ⊎ ((x ≡ y) × IsBelow xs ys) → IsBelow (x ∷ xs) (y ∷ ys)
cons_below x y xs ys (inl lt) = lesser x y (order xs ys) lt
cons_below x y xs ys (inr h) = equal x y (order xs ys) h.0 ∙ h.1

at_most_cons : (x y : ℕ) (xs ys : List ℕ) → IsAtMost (x ∷ xs) (y ∷ ys) → (x < y) ⊎ ((x ≡ y) × IsAtMost xs ys)
at_most_cons x y xs ys (inl h) = elim (below_cons x y xs ys h) [ inl lt ↦ inl lt | inr p ↦ inr (p.0, inl p.1) ]
at_most_cons x y xs ys (inr e) = inr (heads_of x y xs ys e, inr (tails_of x y xs ys e))

cons_at_most : (x y : ℕ) (xs ys : List ℕ) → (x < y) ⊎ ((x ≡ y) × IsAtMost xs ys) → IsAtMost (x ∷ xs) (y ∷ ys)
cons_at_most x y xs ys (inl lt) = inl (cons_below x y xs ys (inl lt))
cons_at_most x y xs ys (inr (e, inl h)) = inl (cons_below x y xs ys (inr (e, h)))
cons_at_most x y xs ys (inr (e, inr h)) = inr (λ i. e i ∷ h i)

-- ---- the next string, and those that a string begins

-- a string followed by 0 is the next one
pub next_at_most : (l key : List ℕ) → IsBelow l key → IsAtMost (l ++ 0 ∷ []) key
next_at_most [] [] h = absurd Prim.cc
next_at_most [] (zero ∷ []) h = inr refl
next_at_most [] (zero ∷ (y ∷ ys)) h = inl (cons_below 0 0 [] (y ∷ ys) (inr (refl, refl)))
next_at_most [] (suc x ∷ ys) h = inl (cons_below 0 (suc x) [] ys (inl (omega arith)))
next_at_most (b ∷ l) [] h = absurd Prim.cc
next_at_most (b ∷ l) (c ∷ key) h = cons_at_most b c (l ++ 0 ∷ []) key (elim (below_cons b c l key h) [ inl lt ↦ inl lt | inr p ↦ inr (p.0, next_at_most l key p.1) ])

-- a string followed by anything is above it
pub below_next : (l : List ℕ) (x : ℕ) (xs : List ℕ) → IsBelow l (l ++ x ∷ xs)
below_next [] x xs = refl
below_next (b ∷ l) x xs = cons_below b b l (l ++ x ∷ xs) (inr (refl, below_next l x xs))

-- what lies between a string and one that it begins is begun by it
pub between_begins : (hi l rest : List ℕ) → IsAtMost hi l → IsAtMost l (hi ++ rest) → Begins hi l
between_begins [] l rest p q = (l, refl)
between_begins (h ∷ hi) [] rest (inl p) q = absurd Prim.cc
between_begins (h ∷ hi) [] rest (inr p) q = absurd Prim.cc
between_begins (h ∷ hi) (x ∷ l) rest p q =
    elim (at_most_cons h x hi l p) [
      | inl lt ↦ elim (at_most_cons x h l (hi ++ rest) q) [ inl gt ↦ absurd (omega arith) | inr e ↦ absurd (omega (arith, e.0)) ]
      | inr e ↦ elim (at_most_cons x h l (hi ++ rest) q) [
        | inl gt ↦ absurd (omega (arith, e.0))
        | inr f ↦ let r = between_begins hi l rest e.1 f.1 in (r.0, (λ i. f.0 i ∷ r.1 i))
      ]
    ]

-- of two strings one is below, or the other is at most it
pub below_or : (a b : List ℕ) → IsBelow a b ⊎ IsAtMost b a
below_or a b = by (order a b) refl
  where
    by : (o : Ordering) → order a b ≡ o → IsBelow a b ⊎ IsAtMost b a
    by Less e = inl e
    by Equal e = inr (inr (sym (order_same a b e)))
    by Greater e = inr (inl (order_above a b e))

-- ---- chains

pub at_most_below : (a b c : List ℕ) → IsAtMost a b → IsBelow b c → IsBelow a c
at_most_below a b c (inl p) q = order_trans a b c p q
at_most_below a b c (inr e) q = subst (λ (x : List ℕ). IsBelow x c) (sym e) q

pub below_at_most : (a b c : List ℕ) → IsBelow a b → IsAtMost b c → IsBelow a c
below_at_most a b c p (inl q) = order_trans a b c p q
below_at_most a b c p (inr e) = subst (λ (x : List ℕ). IsBelow a x) e p

pub at_most_trans : (a b c : List ℕ) → IsAtMost a b → IsAtMost b c → IsAtMost a c
at_most_trans a b c (inl p) q = inl (below_at_most a b c p q)
at_most_trans a b c (inr e) q = subst (λ (x : List ℕ). IsAtMost x c) (sym e) q

-- ---- a test of one is a test of the other

-- of two strings the first is at most the second exactly where the second isn't below it
pub at_most_unless : (a b : List ℕ) (below : Bool) → (IsTrue below ↔ IsBelow b a) → (IsTrue (not below) ↔ IsAtMost a b)
at_most_unless a b true (told, tells) = ((λ is. absurd (Prim.cc)), (λ at_most. absurd (not_itself b b (below_at_most b a b (told refl) at_most) refl)))
at_most_unless a b false (told, tells) =
    ((λ is. elim (below_or b a) [ inl below ↦ absurd (let t = tells below in Prim.cc) | inr at_most ↦ at_most ]), (λ at_most. refl))
