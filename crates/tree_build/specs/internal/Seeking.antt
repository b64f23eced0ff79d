-- Where a key falls in a list of items with rising keys.
use Rattle.std.specs.Prelude.{◌≡◌, ℕ, List, [], ◌∷◌, ◌++◌, ◌⊎◌, Bool, true, false}
use Rattle.std.specs.List.{AllByRecursion}
use Rattle.tree_node.specs.Order.{IsBelow}
use Rattle.tree_build.specs.internal.RisingChanges.{IsUpTo}

-- a key that lies before the one that is wanted, or, where what lies above that one is wanted, isn't above it
abbrev pub LiesBefore : List ℕ → Bool → List ℕ → Type 0
LiesBefore wanted false key = IsBelow key wanted
LiesBefore wanted true key = IsUpTo key wanted

abbrev pub Reaches : List ℕ → Bool → List ℕ → Type 0
Reaches wanted false key = IsUpTo wanted key
Reaches wanted true key = IsBelow wanted key

-- the first item that reaches the wanted key, or the last item
pub record IsSought {X : Type 0} (key : X → List ℕ) (wanted : List ℕ) (above : Bool) (xs front : List X) (x : X) (back : List X) : Type 0 where
  pub whole : xs ≡ front ++ x ∷ back
  pub before : AllByRecursion (λ y. LiesBefore wanted above (key y)) front
  pub reached : Reaches wanted above (key x) ⊎ (back ≡ [])
