-- The items of a list that have a property, in their order.
-- Source: this project.
use Rattle.std.specs.Prelude.{◌≡◌, ℕ, suc, List, [], ◌∷◌, ◌⊎◌}

-- these are the items of the list that have the property, in order, and no others
abbrev pub AreThose : {X : Type 0} → (X → Type 0) → List X → List X → Type 0
AreThose {X} Has [] found = found ≡ []
AreThose {X} Has (x ∷ xs) found =
    (Has x × ((others : List X) × (found ≡ x ∷ others) × AreThose Has xs others)) ⊎ ((¬ Has x) × AreThose Has xs found)

-- so many items of the list have the property
abbrev pub IsCount : {X : Type 0} → (X → Type 0) → List X → ℕ → Type 0
IsCount {X} Has [] n = n ≡ 0
IsCount {X} Has (x ∷ xs) n = (Has x × ((m : ℕ) × (n ≡ suc m) × IsCount Has xs m)) ⊎ ((¬ Has x) × IsCount Has xs n)
