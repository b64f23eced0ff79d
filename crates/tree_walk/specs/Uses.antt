-- The nodes of a shelf around a call.
-- Source: this project.
use Rattle.std.specs.Prelude.{ℕ, List}
use Rattle.tree_node.specs.Outcomes.{ShelfUse}

-- the nodes that are held after a call, and those that were used before and after it
abbrev pub nodes_around : {S : Type 0} → (holds used : S → List ℕ → Type 0) → S → S → ShelfUse
nodes_around holds used old new = record { held = holds new; before = used old; after = used new }
