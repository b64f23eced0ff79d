-- The changes that turn the entries of some objects into others.
-- Source: this project.
use Rattle.std.specs.Prelude.{◌≡◌, ◌≢◌, ◌↔◌, ◌⊎◌, ℕ, List, [], ◌∷◌, Option, None, Some, bytes_eq, if◌then◌else◌}
use Rattle.tree_build.specs.Changing.{Change, by_order}
use Rattle.tree_build.specs.Rebuilding.{keys_of_changes}
use Rattle.tree_build.specs.internal.Weaving.{IsIn}
use Rattle.tree_node.specs.Nodes.{AreRisingFrom, Binding}
use Rattle.tree_node.specs.Order.{order}

-- the change puts a new entry that isn't an old one
abbrev pub PutsNew : List Binding → List Binding → Change Binding → Type 0
PutsNew old new change = (b : Binding) × IsIn b new × (¬ IsIn b old) × (change ≡ record { key = b.key; put = Some b })

-- the change takes an old entry away whose key no new one has
abbrev pub TakesOld : List Binding → List Binding → Change Binding → Type 0
TakesOld old new change = (b : Binding) × IsIn b old × ((n : Binding) → IsIn n new → n.key ≢ b.key) × (change ≡ record { key = b.key; put = None })

-- these are all the changes that turn the old entries into the new ones, by rising key
pub record TurnEntries (old new : List Binding) (all : List (Change Binding)) : Type 0 where
  pub rising : AreRisingFrom None (keys_of_changes all)
  pub members : (change : Change Binding) → IsIn change all ↔ (PutsNew old new change ⊎ TakesOld old new change)

-- ---- one old entry after the other

-- the change that puts an entry
abbrev pub put_of : Binding → Change Binding
put_of b = record { key = b.key; put = Some b }

-- the change that takes an entry away
abbrev pub taken : Binding → Change Binding
taken b = record { key = b.key; put = None }

-- the changes of an old entry by the new one with its key, where there is one
abbrev pub change_between : Binding → Option Binding → List (Change Binding)
change_between old None = taken old ∷ []
change_between old (Some new) = if bytes_eq new.value old.value then [] else put_of new ∷ []

-- the entries before the first whose key isn't below this one, and that one where it has the key
abbrev pub parts_at_key : List ℕ → List Binding → List Binding × Option Binding
parts_at_key key [] = ([], None)
parts_at_key key (b ∷ bs) = by_order (order key b.key) ([], None) ([], Some b) (b ∷ (parts_at_key key bs).0, (parts_at_key key bs).1)
