-- Levels above others.
use Rattle.std.specs.Prelude.{◌≡◌, ℕ, zero, suc, ◌+◌, ◌<◌, ◌≤◌, List, [], ◌++◌, length, map}
use Rattle.tree_node.specs.Digests.{digest}
use Rattle.tree_node.specs.Nodes.{Node, spelling}
use Rattle.tree_node.specs.Trees.{no_node}
use Rattle.std.specs.Prelude.{slice_index_or}

-- the nodes of so many levels, from this one on
abbrev pub nodes_from : (ℕ → List Node) → ℕ → ℕ → List Node
nodes_from new first zero = []
nodes_from new first (suc steps) = nodes_from new first steps ++ new (first + steps)

-- The levels above the one before the first, up to one that has one node, whose digest this is: these nodes have come.
pub record HasGrown (new : ℕ → List Node) (before : ℕ) (added later : List (List ℕ)) (top : List ℕ) : Type 0 where
  pub steps : ℕ
  pub come : later ≡ added ++ map spelling (nodes_from new (suc before) steps)
  pub one : length (new (before + steps)) ≡ 1
  pub more : (level : ℕ) → level < steps → 2 ≤ length (new (before + level))
  pub top_is : top ≡ digest (spelling (slice_index_or (new (before + steps)) 0 no_node))
