-- Changes of which each is below those after it.
use Rattle.std.specs.Prelude.{◌≡◌, ℕ, List, [], ◌∷◌, ◌⊎◌, IfSome, ⊤}
use Rattle.std.specs.List.{AllByRecursion}
use Rattle.tree_node.specs.Order.{IsBelow}
use Rattle.tree_build.specs.Changing.{Change}

-- what is put has the key of its change
abbrev pub IsOwn : {X : Type 0} → (X → List ℕ) → Change X → Type 0
IsOwn key change = IfSome change.put (λ x. key x ≡ change.key)

abbrev pub IsUpTo : List ℕ → List ℕ → Type 0
IsUpTo a b = IsBelow a b ⊎ (a ≡ b)

-- each change is below those after it, and what it puts has its key
abbrev pub AreOwnAndRising : {X : Type 0} → (X → List ℕ) → List (Change X) → Type 0
AreOwnAndRising key [] = ⊤
AreOwnAndRising key (change ∷ changes) = IsOwn key change × AllByRecursion (λ c. IsBelow change.key c.key) changes × AreOwnAndRising key changes
