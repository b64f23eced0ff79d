-- What is told of the edits of a tree's levels.
use Rattle.std.specs.Prelude.{◌≡◌, ℕ, suc, ◌<◌, ◌≤◌, List, [], ◌∷◌, ◌++◌, ◌⊎◌, map}
use Rattle.tree_node.specs.Nodes.{Node}
use Rattle.tree_build.specs.internal.Telling.{HasTold, node_digest}
use Rattle.tree_build.specs.internal.TreeEdits.{AreEdits}
use Rattle.tree_build.specs.declared.step.LevelEdit.{LevelEdit}

-- of a level up to the top's what it has gained and lost, of one above that its opened nodes are gone
abbrev pub IsTold : ℕ → ℕ → List Node → List Node → List (List ℕ) → List (List ℕ) → List (List ℕ) → List (List ℕ) → Type 0
IsTold top level opened came added later gone lost_later =
    ((level ≤ top) × HasTold opened came added later gone lost_later)
    ⊎ ((top < level) × (later ≡ added) × (lost_later ≡ gone ++ map node_digest opened))

-- the same of the levels from this one on
abbrev pub HaveTold : (old : List (List Node)) (new : ℕ → List Node) (top level : ℕ) (edits : List LevelEdit) → AreEdits old new level edits
    → List (List ℕ) → List (List ℕ) → List (List ℕ) → List (List ℕ) → Type 0
HaveTold old new top level [] are added later gone lost_later = (later ≡ added) × (lost_later ≡ gone)
HaveTold old new top level (edit ∷ edits) are added later gone lost_later =
    (next : List (List ℕ)) × (lost_next : List (List ℕ)) × IsTold top level are.0.opened are.0.came added next gone lost_next
    × HaveTold old new top (suc level) edits are.1 next later lost_next lost_later
