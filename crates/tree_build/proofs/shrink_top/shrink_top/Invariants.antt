use Rattle.std.proofs.Common.{◌⊎◌, ◌+◌, ◌<◌, ℕ, List, length}
use Rattle.tree_node.specs.Nodes.{Binding}
use Rattle.tree_node.specs.Shelves.{Stays}
use Rattle.tree_node.specs.Trees.{Two}
use Rattle.tree_build.specs.Changing.{Change}
use Rattle.tree_build.specs.Rebuilding.{changed_entries, digests_of}
use Rattle.tree_build.specs.StrangeShelves.{HasNoTwin}
use Rattle.tree_build.specs.internal.Shrinking.{CanShrink, IsReadBy}
use Rattle.tree_build.specs.internal.Towers.{tower}
use Rattle.tree_build.proofs.ShrinkLemmas.{IsSettling}
use Rattle.tree_build.proofs.shrink_top.shrink_top.Given as goal

-- the level in hand has one node, and so have those above it
abbrev pub invariant-down : goal.invariant-down
invariant-down g l = record {
  stays : Stays g.S.Shelf.is_fixed (g.S.Shelf.holds l.fn.shelf) (g.S.Shelf.holds l.shelf);
  grows : (bytes : List _) → g.S.Shelf.used l.fn.shelf bytes → g.S.Shelf.used l.shelf bytes;
  within : l.level < length l.edits;
  used : (tree : ℕ) (top : List ℕ) (changes : List (Change Binding)) (entries : List Binding) → CanShrink (HasNoTwin (g.S.Shelf.used l.shelf)) tree top changes entries l.edits l.digest.0
      → (bytes : List ℕ) → g.S.Shelf.used l.shelf bytes → g.S.Shelf.used l.fn.shelf bytes ⊎ IsReadBy (tower Two tree (changed_entries entries changes)) l.edits (l.level + 1) bytes;
  state : (tree : ℕ) (top : List ℕ) (changes : List (Change Binding)) (entries : List Binding) → CanShrink (HasNoTwin (g.S.Shelf.used l.shelf)) tree top changes entries l.edits l.digest.0
      → IsSettling tree (changed_entries entries changes) l.edits (digests_of l.fn.gone.items) (digests_of l.gone.items) l.top.0 l.level;
}

abbrev pub decreases-down : goal.decreases-down
decreases-down g l = l.level
