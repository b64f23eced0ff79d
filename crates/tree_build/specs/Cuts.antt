-- How lists are cut into pieces, told of the pieces as they stand: where a piece may end, and where it may not go on.
-- Source: this project's trees, docs/FORMATS.md.
use Rattle.std.specs.Prelude.{◌≡◌, ℕ, ◌+◌, ◌-◌, ◌<◌, ◌≤◌, List, [], ◌∷◌, length, Bool, true, false, ◌⊎◌, ⊤}
use Rattle.std.specs.List.{AllByRecursion, HoldsAt, flat_map}
use Rattle.tree_node.specs.declared.limits.TheConstants.{ITEM_LIMIT}
use Rattle.tree_node.specs.Trees.{Shape, One, Two}

-- the last item of the piece is marked, and it isn't the piece's first
abbrev pub HasMarkedEnd : {X : Type 0} → (X → Bool) → List X → Type 0
HasMarkedEnd marked piece = (2 ≤ length piece) × HoldsAt (λ x. marked x ≡ true) piece (length piece - 1)

-- the piece ends where the shape ends a piece: at its 64th item, in the second shape also at a marked one
abbrev pub EndsByShape : {X : Type 0} → Shape → (X → Bool) → List X → Type 0
EndsByShape One marked piece = length piece ≡ ITEM_LIMIT
EndsByShape Two marked piece = (length piece ≡ ITEM_LIMIT) ⊎ HasMarkedEnd marked piece

-- the piece didn't go on where the shape ends a piece: in the second shape no item between its first and its last is
-- marked
abbrev pub EndsNoSooner : {X : Type 0} → Shape → (X → Bool) → List X → Type 0
EndsNoSooner One marked piece = ⊤
EndsNoSooner Two marked piece = (k : ℕ) → 1 ≤ k → k + 1 < length piece → HoldsAt (λ x. marked x ≡ false) piece k

-- so it is of each piece but the last
abbrev pub AllButLast : {X : Type 0} → (List X → Type 0) → List (List X) → Type 0
AllButLast Is [] = ⊤
AllButLast Is (piece ∷ []) = ⊤
AllButLast Is (piece ∷ next ∷ pieces) = Is piece × AllButLast Is (next ∷ pieces)

-- the list is cut into these pieces
pub record IsCut {X : Type 0} (shape : Shape) (marked : X → Bool) (items : List X) (pieces : List (List X)) : Type 0 where
  pub joined : flat_map (λ piece. piece) pieces ≡ items
  pub sized : AllByRecursion (λ piece. (1 ≤ length piece) × (length piece ≤ ITEM_LIMIT)) pieces
  pub ended : AllButLast (EndsByShape shape marked) pieces
  pub no_sooner : AllByRecursion (EndsNoSooner shape marked) pieces
