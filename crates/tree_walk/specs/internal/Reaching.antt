-- What the code tests of a key.
use Rattle.std.specs.Prelude.{◌≡◌, ℕ, List, ◌⊎◌, true}
use Rattle.tree_walk.specs.Ranges.{Begins, IsAtMost, Range}

-- the range reaches the key: it isn't above hi, or hi begins it and under holds
abbrev pub Reaches : Range → List ℕ → Type 0
Reaches range key = IsAtMost key range.hi ⊎ ((range.under ≡ true) × Begins range.hi key)
