-- Changes of a level's items, without where they lie in memory.
use Rattle.std.specs.Prelude.{List, map, IfSome}
use Rattle.std.specs.Option.{option_map}
use Rattle.tree_build.specs.Changing.{Change}
use Rattle.tree_build.specs.declared.level_item.ItemChange.{ItemChange}

abbrev pub change_in : {T : Type 0} → ItemChange T → Change T
change_in change = record { key = change.key.now; put = change.put }

abbrev pub changes_in : {T : Type 0} → List (ItemChange T) → List (Change T)
changes_in changes = map change_in changes

-- the same of what the items are
abbrev pub change_meant : {T M : Type 0} → (T → M) → ItemChange T → Change M
change_meant meaning change = record { key = change.key.now; put = option_map meaning change.put }

abbrev pub changes_meant : {T M : Type 0} → (T → M) → List (ItemChange T) → List (Change M)
changes_meant meaning changes = map (change_meant meaning) changes

-- of what it puts, this is so
abbrev pub PutsKnown : {T : Type 0} → (T → Type 0) → ItemChange T → Type 0
PutsKnown knows change = IfSome change.put knows
