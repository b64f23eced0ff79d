-- What is below the nodes of a tree, as it is copied.
-- Source: this project.
use Rattle.std.specs.Prelude.{◌≡◌, ◌≢◌, ◌++◌, ◌∷◌, [], ℕ, zero, suc, List, map}
use Rattle.tree_node.specs.Nodes.{Binding, Inner, IsNode, Leaf, Node, spelling}
use Rattle.tree_node.specs.Trees.{link_to}

-- a leaf with these entries, which is one of the nodes that are meant
pub record IsLeafWith (own : List ℕ → Type 0) (node : Node) (entries : List Binding) : Type 0 where
  pub is_node : IsNode node
  pub owned : own (spelling node)
  pub tree : ℕ
  pub is : node ≡ Leaf tree entries

-- Below each of these nodes there are entries, and together these.
abbrev pub BelowEach : (Node → List Binding → Type 0) → List Node → List Binding → Type 0
BelowEach Has [] entries = entries ≡ []
BelowEach Has (node ∷ nodes) entries =
    (first : List Binding) × (others : List Binding) × (entries ≡ first ++ others) × (first ≢ []) × Has node first × BelowEach Has nodes others

-- an inner node, whose items stand for nodes below which there are together these entries
pub record IsInnerOver (own : List ℕ → Type 0) (Has : Node → List Binding → Type 0) (node : Node) (entries : List Binding) : Type 0 where
  pub is_node : IsNode node
  pub owned : own (spelling node)
  pub tree : ℕ
  pub level : ℕ
  pub children : List Node
  pub is : node ≡ Inner tree level (map link_to children)
  pub each : BelowEach Has children entries

-- Below a node of this level there are these entries.
unfoldable pub IsOver : (List ℕ → Type 0) → ℕ → Node → List Binding → Type 0
IsOver own zero node entries = IsLeafWith own node entries
IsOver own (suc level) node entries = IsInnerOver own (IsOver own level) node entries
