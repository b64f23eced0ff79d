-- Lists that are changed by key.
-- Source: this project.
use Rattle.std.specs.List.{Contains}
use Rattle.std.specs.Prelude.{◌≡◌, ℕ, List, [], ◌∷◌, ◌++◌, Option, Some, None}
use Rattle.std.specs.declared.cmp.Ordering.{Ordering}
use Rattle.std.specs.declared.cmp.Ordering.TheVariants.{Less, Equal, Greater}
use Rattle.tree_node.specs.Order.{order}

-- a change by key: an item that is put in its key's place, or none, and the key is taken away
pub record Change (X : Type 0) : Type 0 where
  pub key : List ℕ
  pub put : Option X

-- the item as a list
abbrev pub one_or_none : {X : Type 0} → Option X → List X
one_or_none None = []
one_or_none (Some x) = x ∷ []

-- a choice by order
abbrev pub by_order : {A : Type 0} → Ordering → A → A → A → A
by_order Less below same above = below
by_order Equal below same above = same
by_order Greater below same above = above

-- the list after one change: what has its key goes, and what it puts stands in that place
abbrev pub changed_once : {X : Type 0} → (X → List ℕ) → List X → Change X → List X
changed_once key [] change = one_or_none change.put
changed_once key (x ∷ xs) change =
    by_order (order change.key (key x)) (one_or_none change.put ++ x ∷ xs) (one_or_none change.put ++ xs) (x ∷ changed_once key xs change)

-- the list after the changes, one after the other
abbrev pub changed : {X : Type 0} → (X → List ℕ) → List X → List (Change X) → List X
changed key xs [] = xs
changed key xs (change ∷ changes) = changed key (changed_once key xs change) changes

-- one of the changes puts this item
abbrev pub IsPutBy : {X : Type 0} → List (Change X) → X → Type 0
IsPutBy {X} changes x = (change : Change X) × Contains changes change × (change.put ≡ Some x)
