-- How the levels of a tree change, from the leaves up.
use Rattle.std.specs.Prelude.{◌≡◌, ◌⊎◌, ℕ, suc, ◌+◌, ◌-◌, ◌≤◌, List, [], ◌∷◌, length, IsTrue, false, ⊤}
use Rattle.std.specs.List.{AllByRecursion}
use Rattle.tree_node.specs.Nodes.{Binding, Link, Node}
use Rattle.tree_node.specs.Trees.{Two, level_at, levels}
use Rattle.tree_build.specs.Changing.{Change}
use Rattle.tree_build.specs.Rebuilding.{IsOldTree, changed_entries}
use Rattle.tree_build.specs.internal.Differing.{Differ}
use Rattle.tree_build.specs.internal.Holding.{IsOnWayTo}
use Rattle.tree_build.specs.internal.Steps.{HaveReasons, IsEdit, keys_changed}
use Rattle.tree_build.specs.internal.Towers.{tower}
use Rattle.tree_build.specs.declared.levels.TreeEdit.{TreeEdit}
use Rattle.tree_build.specs.declared.step.LevelEdit.{LevelEdit}

-- these are the edits of the levels from this one on
abbrev pub AreEdits : List (List Node) → (ℕ → List Node) → ℕ → List LevelEdit → Type 0
AreEdits old new level [] = ⊤
AreEdits old new level (edit ∷ edits) = IsEdit (level_at old level) (new level) edit × AreEdits old new (suc level) edits

-- each opened a node
abbrev pub HaveOpened : List LevelEdit → Type 0
HaveOpened edits = AllByRecursion (λ (edit : LevelEdit). 1 ≤ length edit.olds.items) edits

-- the edits of the levels up to the old top's, or to the first one that is as it was
pub record IsTreeEdit (old : List (List Node)) (new : ℕ → List Node) (edited : TreeEdit) : Type 0 where
  pub are : AreEdits old new 0 edited.edits.items
  pub opened : HaveOpened edited.edits.items
  pub some : 1 ≤ length edited.edits.items
  pub within : length edited.edits.items ≤ length old
  pub same : IsTrue edited.stays → level_at old (length edited.edits.items - 1) ≡ new (length edited.edits.items - 1)
  pub whole : edited.stays ≡ false → length edited.edits.items ≡ length old

-- the set holds an old tree, and its top has this level
pub record HasTopLevel (held : List ℕ → Type 0) (top : List ℕ) (changes : List (Change Binding)) (tree : ℕ) (entries : List Binding) (top_level : ℕ) : Type 0 where
  pub is : IsOldTree held top changes tree entries
  pub height : top_level + 1 ≡ length (levels Two tree entries)

-- the set holds an old tree, and its levels changed so
pub record HasTreeEdit (held : List ℕ → Type 0) (top : List ℕ) (changes : List (Change Binding)) (tree : ℕ) (entries : List Binding) (edited : TreeEdit) : Type 0 where
  pub is : IsOldTree held top changes tree entries
  pub edit : IsTreeEdit (levels Two tree entries) (tower Two tree (changed_entries entries changes)) edited

-- it is on the way to a node that one of the edits opened, of the levels from this one on
abbrev pub IsRead : List (List Node) → ℕ → List LevelEdit → List ℕ → Type 0
IsRead old level [] bytes = ⊥
IsRead old level (edit ∷ edits) bytes = IsOnWayTo old level edit.olds.items bytes ⊎ IsRead old (suc level) edits bytes

-- the changes of the next level are what the old and the new nodes of the edit differ by
pub record HasNext (old new : List Node) (edit : LevelEdit) (changes : List (Change Link)) : Type 0 where
  pub is : IsEdit old new edit
  pub lost : List Node
  pub gained : List Node
  pub parent_changes : Differ is.opened is.came lost gained changes

-- Of the levels from this one on, of which the first is changed at these keys: each has opened its nodes for a
-- reason, and gives the next one its changes, the last one those at the last keys.
abbrev pub AreReasoned : List (List Node) → (ℕ → List Node) → ℕ → List (List ℕ) → List LevelEdit → List (List ℕ) → Type 0
AreReasoned old new level keys [] last = keys ≡ last
AreReasoned old new level keys (edit ∷ edits) last =
    HaveReasons (level_at old level) (new level) keys keys edit.olds.items
    × (changes : List (Change Link)) × HasNext (level_at old level) (new level) edit changes × AreReasoned old new (suc level) (keys_changed changes) edits last

-- the same, whatever keys are left for the level after these
abbrev pub HaveAllReasons : List (List Node) → (ℕ → List Node) → List (List ℕ) → List LevelEdit → Type 0
HaveAllReasons old new keys edits = (last : List (List ℕ)) × AreReasoned old new 0 keys edits last
