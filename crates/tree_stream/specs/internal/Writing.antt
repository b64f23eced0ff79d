-- What is written, and what is said of it.
use Rattle.std.specs.Prelude.{◌≡◌, ◌≢◌, ℕ, List, [], ◌∷◌, ◌++◌}
use Rattle.tree_node.specs.Digests.{digest}
use Rattle.tree_node.specs.Nodes.{Node, spelling}
use Rattle.tree_node.specs.Trees.{entry_count}
use Rattle.tree_stream.specs.declared.node_sum.NodeSum.{NodeSum}

-- a node was put at a level, and nothing else
pub record IsPut (before after : ℕ → List (List ℕ)) (level : ℕ) (node : Node) : Type 0 where
  pub here : after level ≡ before level ++ spelling node ∷ []
  pub others : (other : ℕ) → other ≢ level → after other ≡ before other

-- this is said of the node
pub record States (node : Node) (sum : NodeSum) : Type 0 where
  pub number : sum.number ≡ entry_count node
  pub child : sum.digest.0 ≡ digest (spelling node)
