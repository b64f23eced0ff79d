-- Which nodes of a tree a range needs, and what a walk that is given the tree's top answers.
-- Source: this project's trees, docs/FORMATS.md.
use Rattle.std.specs.Prelude.{◌≡◌, ℕ, ◌+◌, List, length, ◌⊎◌}
use Rattle.std.specs.List.{AllByRecursion}
use Rattle.tree_node.specs.Digests.{digest}
use Rattle.tree_node.specs.Nodes.{AreBytes, Binding, Node}
use Rattle.tree_node.specs.Trees.{HasTree, Shape, Stands, greatest_of, left_at, level_at, levels, node_in, top_of}
use Rattle.tree_walk.specs.Ranges.{IsCovered, IsIn, Meets, Range}

-- The node at this place meets the range: it is the top, or its span meets it. The span's left bound is the greatest
-- key of the node before it in its level, which for a first child is its parent's own left bound.
abbrev pub MeetsAt : Range → List (List Node) → ℕ → ℕ → Type 0
MeetsAt range tree level place =
    (level + 1 ≡ length tree) ⊎ Meets range (left_at (level_at tree level) place) (greatest_of (node_in tree level place))

-- these bytes are a node of the tree that meets the range
abbrev pub IsMet : Range → List (List Node) → List ℕ → Type 0
IsMet range tree bytes = (level place : ℕ) × Stands tree level place bytes × MeetsAt range tree level place

-- these bytes are a node of the tree that a count needs: it meets the range, and the range doesn't cover it
abbrev pub IsMetCounted : Range → List (List Node) → List ℕ → Type 0
IsMetCounted range tree bytes =
    (level place : ℕ) × Stands tree level place bytes × MeetsAt range tree level place × ¬ IsCovered range (left_at (level_at tree level) place) (greatest_of (node_in tree level place))

-- the digest is that of the top of the tree of these entries, whose keys are byte strings
pub record IsTopOf (shape : Shape) (tree : ℕ) (entries : List Binding) (top : List ℕ) : Type 0 where
  pub has : HasTree entries
  pub bytes : AllByRecursion (λ (entry : Binding). AreBytes entry.key) entries
  pub is_top : top ≡ digest (top_of (levels shape tree entries))

-- the entry's key is in the range
abbrev pub IsEntryIn : Range → Binding → Type 0
IsEntryIn range entry = IsIn range entry.key
