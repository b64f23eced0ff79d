-- What is read of levels that were written.
-- Source: this project.
use Rattle.std.specs.Prelude.{◌≡◌, ◌≢◌, ◌⊎◌, ◌∷◌, [], Bool, false, true, ℕ, List, Option, None, Some, length}
use Rattle.tree_node.specs.Nodes.{Node, Spells}
use Rattle.tree_node.specs.Trees.{links_in}
use Rattle.tree_node.specs.declared.tree.Tree.{Tree}
use Rattle.tree_stream.specs.declared.levels_read.NodeLen.{NodeLen}

-- at this level of this tree stands now what is given, and at each other what was there
pub record IsSameBut (old new : Tree → ℕ → List (List ℕ)) (tree : Tree) (level : ℕ) (given : List (List ℕ)) : Type 0 where
  pub there : new tree level ≡ given
  pub other_levels : (other : ℕ) → other ≢ level → new tree other ≡ old tree other
  pub other_trees : (other : Tree) → other ≢ tree → (at : ℕ) → new other at ≡ old other at

-- the first of the nodes there was read and is gone, or there was none
abbrev pub IsFirst : (old new : Tree → ℕ → List (List ℕ)) → Tree → ℕ → Bool → List ℕ → Type 0
IsFirst old new tree level true read = (others : List (List ℕ)) × (old tree level ≡ read ∷ others) × IsSameBut old new tree level others
IsFirst old new tree level false read = (old tree level ≡ []) × IsSameBut old new tree level []

-- the bytes have this length, and where they are a node, it has so many children
pub record IsLenOf (bytes : List ℕ) (len : NodeLen) : Type 0 where
  pub bytes_are : len.bytes ≡ length bytes
  pub children_are : (node : Node) → Spells bytes node → len.children ≡ length (links_in node)

-- the first of the nodes there was measured and is gone, or there was none
abbrev pub HasLen : (old new : Tree → ℕ → List (List ℕ)) → Tree → ℕ → Option NodeLen → Type 0
HasLen old new tree level (Some len) = (bytes : List ℕ) × (others : List (List ℕ)) × (old tree level ≡ bytes ∷ others) × IsLenOf bytes len × IsSameBut old new tree level others
HasLen old new tree level None = (old tree level ≡ []) × IsSameBut old new tree level []
