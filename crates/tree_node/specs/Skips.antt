-- Where a search for a key in rising keys comes to.
-- Source: this project.
use Rattle.std.specs.Prelude.{ℕ, List, [], ◌∷◌, Option, Some, if◌then◌else◌}
use Rattle.std.specs.Ordering.{is_lt}
use Rattle.tree_node.specs.Order.{order}

-- the items from the first one on whose key isn't below this one
abbrev pub from_key : {X : Type 0} → (X → List ℕ) → List ℕ → List X → List X
from_key key_of low [] = []
from_key key_of low (x ∷ xs) = if is_lt (order (key_of x) low) then from_key key_of low xs else x ∷ xs

-- the key of the item before those, or else what stands before all
abbrev pub key_before : {X : Type 0} → (X → List ℕ) → List ℕ → Option (List ℕ) → List X → Option (List ℕ)
key_before key_of low before [] = before
key_before key_of low before (x ∷ xs) = if is_lt (order (key_of x) low) then key_before key_of low (Some (key_of x)) xs else before
