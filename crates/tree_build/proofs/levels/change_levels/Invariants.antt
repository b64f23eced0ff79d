use Rattle.std.proofs.Common.{◌≡◌, ℕ, ◌⊎◌, ◌+◌, ◌-◌, ◌≤◌, List, length}
use Rattle.tree_node.specs.NodeRefs.{link_of, number_of}
use Rattle.tree_node.specs.Nodes.{Binding}
use Rattle.tree_node.specs.Shelves.{Stays}
use Rattle.tree_node.specs.Trees.{Two, levels}
use Rattle.tree_build.specs.Rebuilding.{changed_entries, changes_of, keys_of_changes}
use Rattle.tree_build.specs.StrangeShelves.{HasNoTwin}
use Rattle.tree_build.specs.internal.ItemChanges.{changes_meant}
use Rattle.tree_build.specs.internal.TreeEdits.{AreReasoned, HasTopLevel, IsRead}
use Rattle.tree_build.specs.internal.Steps.{keys_changed}
use Rattle.tree_build.specs.internal.Towers.{tower}
use Rattle.tree_build.proofs.TreeEdits.{LevelsState}
use Rattle.tree_build.proofs.levels.change_levels.Given as goal

-- the levels so far were changed
abbrev pub invariant-levels : goal.invariant-levels
invariant-levels g l = record {
  stays : Stays g.S.Shelf.is_fixed (g.S.Shelf.holds l.fn.shelf) (g.S.Shelf.holds l.shelf);
  grows : (bytes : List _) → g.S.Shelf.used l.fn.shelf bytes → g.S.Shelf.used l.shelf bytes;
  low : l.level ≤ l.top_level;
  count : length l.edits.items ≡ l.level + 1;
  used : (entries : List Binding) → HasTopLevel (HasNoTwin (g.S.Shelf.used l.shelf)) l.top.0 (changes_of l.changes) (number_of l.tree) entries l.top_level
      → (bytes : List ℕ) → g.S.Shelf.used l.shelf bytes → g.S.Shelf.used l.fn.shelf bytes ⊎ IsRead (levels Two (number_of l.tree) entries) 0 l.edits.items bytes;
  state : (entries : List Binding) → HasTopLevel (HasNoTwin (g.S.Shelf.used l.shelf)) l.top.0 (changes_of l.changes) (number_of l.tree) entries l.top_level
      → LevelsState (levels Two (number_of l.tree) entries) (tower Two (number_of l.tree) (changed_entries entries (changes_of l.changes))) l.level l.edits.items (changes_meant link_of l.next.items);
  reasons : (entries : List Binding) → HasTopLevel (HasNoTwin (g.S.Shelf.used l.shelf)) l.top.0 (changes_of l.changes) (number_of l.tree) entries l.top_level
      → AreReasoned (levels Two (number_of l.tree) entries) (tower Two (number_of l.tree) (changed_entries entries (changes_of l.changes))) 0 (keys_of_changes (changes_of l.changes)) l.edits.items
      (keys_changed (changes_meant link_of l.next.items));
}

abbrev pub decreases-levels : goal.decreases-levels
decreases-levels g l = l.top_level - l.level
