-- Old trees, and which of their nodes stand alone.
use Rattle.std.proofs.Common.{ℕ, List}
use Rattle.tree_node.specs.Nodes.{Binding}
use Rattle.tree_node.specs.Shelves.{IsClashFree}
use Rattle.tree_node.specs.Trees.{IsNodeOf, Two, levels}
use Rattle.tree_build.specs.Changing.{Change}
use Rattle.tree_build.specs.Rebuilding.{IsOldTree}
use Rattle.tree_build.specs.StrangeShelves.{HasNoTwin}

-- what is held without clashes has no twin among what was given of it
pub old_alone : (held used : List ℕ → Type 0) → IsClashFree held → ((x : List ℕ) → used x → held x) → (top : List ℕ) (changes : List (Change Binding)) (tree : ℕ) (entries : List Binding) → IsOldTree held top changes tree entries → IsOldTree (HasNoTwin used) top changes tree entries
old_alone held used free given top changes tree entries is = record {
  is_tree = is.is_tree;
  has = is.has;
  is_top = is.is_top;
  holds = λ x of other uses same. free other x (given other uses) (is.holds x of) same;
  rising = is.rising;
  changed_has = is.changed_has;
}

-- and no two of its nodes have one digest
pub nodes_free : (held : List ℕ → Type 0) → IsClashFree held → (top : List ℕ) (changes : List (Change Binding)) (tree : ℕ) (entries : List Binding) → IsOldTree held top changes tree entries → IsClashFree (IsNodeOf (levels Two tree entries))
nodes_free held free top changes tree entries is a b is_a is_b same = free a b (is.holds a is_a) (is.holds b is_b) same
