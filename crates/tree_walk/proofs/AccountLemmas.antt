-- What is gathered, numbers of 64 bits that are summed, and the items of lists that are counted.
use Rattle.std.proofs.Common.{◌≡◌, ℕ, ◌+◌, ◌-◌, ◌^◌, ◌≤◌, List, [], ◌∷◌, ◌++◌, length, inl, inr, Option, sym, ap, subst, ◌∙◌, arith, append_assoc}
use Rattle.std.proofs.lemmas.List.{append-nil}
use Rattle.std.proofs.lemmas.List.Sums.{sum_by-append, sum_by-cons}
use Rattle.tree_node.specs.Nodes.{Binding, Link}
use Rattle.tree_walk.specs.Choices.{AreThose, IsCount}
use Rattle.tree_walk.specs.internal.Accounts.{Gains}
use Rattle.tree_walk.specs.Given.{saturating_u64, sum_stated}

-- ---- what is gathered

module _ {G : Type 0} (gathers : G → List (Option (List ℕ) × Link) → List Binding → Type 0) where
  -- at the start nothing more is gathered
  pub gains_none : (now : G) → Gains gathers now now [] []
  gains_none now had found is = subst (λ (es : List Binding). gathers now (had ++ []) es) (sym (append-nil found)) (subst (λ (cs : List (Option (List ℕ) × Link)). gathers now cs found) (sym (append-nil had)) is)

  -- some things are gathered, and then others
  pub gains_then : (old mid new : G) (c d : List (Option (List ℕ) × Link)) (es fs : List Binding) → Gains gathers old mid c es → Gains gathers mid new d fs → Gains gathers old new (c ++ d) (es ++ fs)
  gains_then old mid new c d es fs first last had found is =
      subst (λ (xs : List Binding). gathers new (had ++ (c ++ d)) xs) (append_assoc found es fs)
      (subst (λ (xs : List (Option (List ℕ) × Link)). gathers new xs ((found ++ es) ++ fs)) (append_assoc had c d) (last (had ++ c) (found ++ es) (first had found is)))

-- ---- numbers of 64 bits

-- a number of 64 bits is itself
pub capped_itself : (n : ℕ) → n ≤ 2 ^ 64 - 1 → saturating_u64 n ≡ n
capped_itself n le = omega (arith, le)

-- ---- sums that are stated

pub stated_append : (xs ys : List (Option (List ℕ) × Link)) → sum_stated (xs ++ ys) ≡ sum_stated xs + sum_stated ys
stated_append xs ys = sum_by-append (λ (spot : Option (List ℕ) × Link). spot.1.number) xs ys

pub stated_cons : (x : Option (List ℕ) × Link) (xs : List (Option (List ℕ) × Link)) → sum_stated (x ∷ xs) ≡ x.1.number + sum_stated xs
stated_cons x xs = sum_by-cons (λ (spot : Option (List ℕ) × Link). spot.1.number) x xs

-- ---- items that are counted

-- those that have the property are as many as are counted
pub count_those : {X : Type 0} (Has : X → Type 0) (xs found : List X) → AreThose Has xs found → IsCount Has xs (length found)
count_those Has [] found are = ap length are
count_those Has (x ∷ xs) found (inl has) = inl (has.0, (length has.1.0, ap length has.1.1, count_those Has xs has.1.0 has.1.2))
count_those Has (x ∷ xs) found (inr has) = inr (has.0, count_those Has xs found has.1)

-- there are no more than items
pub count_most : {X : Type 0} (Has : X → Type 0) (xs : List X) (n : ℕ) → IsCount Has xs n → n ≤ length xs
count_most Has [] n is = omega (arith, is)
count_most Has (x ∷ xs) n (inl has) = let rest = count_most Has xs has.1.0 has.1.2 in omega (arith, has.1.1, rest)
count_most Has (x ∷ xs) n (inr has) = let rest = count_most Has xs n has.1 in omega (arith, rest)

-- the number of items that are counted, where a list has few, in 64 bits
pub count_is : {X : Type 0} (Has : X → Type 0) (xs : List X) (n number : ℕ) → length xs ≤ 2 ^ 29 → number ≡ saturating_u64 n → IsCount Has xs n → IsCount Has xs number
count_is Has xs n number few is counted =
    let most = count_most Has xs n counted in
    let same : number ≡ n = is ∙ capped_itself n (omega (arith, most, few)) in
    subst (λ (k : ℕ). IsCount Has xs k) (sym same) counted
