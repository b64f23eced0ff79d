-- What a walk opens of a tree: of what meets the range each node, but for those that stay closed.
use Rattle.std.specs.Prelude.{ℕ, suc, ◌<◌, ◌≤◌, Bool, true, false, List, length, map, Option, None}
use Rattle.std.specs.List.{AllByRecursion}
use Rattle.tree_node.specs.Nodes.{AreBytes, Binding, IsTree, Link, Node}
use Rattle.tree_node.specs.Trees.{HasTree, Shape, Stands, greatest_of, left_at, level_at, levels, link_to, node_in}
use Rattle.tree_walk.specs.Choices.{AreThose}
use Rattle.tree_walk.specs.Ranges.{IsCovered, Meets, Range}
use Rattle.tree_walk.specs.Spans.{children_placed}
use Rattle.tree_walk.specs.Walks.{MeetsAt}

-- what has this span stays closed: in a walk that leaves closed what the range covers, what the range covers
abbrev pub IsClosed : Bool → Range → Option (List ℕ) → List ℕ → Type 0
IsClosed true range left greatest = IsCovered range left greatest
IsClosed false range left greatest = ⊥

-- what has this span is opened: it meets the range and doesn't stay closed
abbrev pub IsOpen : Bool → Range → Option (List ℕ) → List ℕ → Type 0
IsOpen closing range left greatest = Meets range left greatest × ¬ IsClosed closing range left greatest

-- the child, as its parent states it, stays closed
abbrev pub IsClosedChild : Bool → Range → Option (List ℕ) × Link → Type 0
IsClosedChild closing range spot = IsClosed closing range spot.0 spot.1.greatest

-- the child, as its parent states it, is opened
abbrev pub IsOpenChild : Bool → Range → Option (List ℕ) × Link → Type 0
IsOpenChild closing range spot = IsOpen closing range spot.0 spot.1.greatest

-- the node is opened
abbrev pub IsOpenNode : Bool → Range → Option (List ℕ) × Node → Type 0
IsOpenNode closing range spot = IsOpen closing range spot.0 (greatest_of spot.1)

-- the node at this place is opened: it is the top, or meets the range, and it doesn't stay closed
abbrev pub OpensAt : Bool → Range → List (List Node) → ℕ → ℕ → Type 0
OpensAt closing range tree level place =
    MeetsAt range tree level place × ¬ IsClosed closing range (left_at (level_at tree level) place) (greatest_of (node_in tree level place))

-- the bytes are a node of the tree that is opened
abbrev pub IsOpened : Bool → Range → List (List Node) → List ℕ → Type 0
IsOpened closing range tree bytes = (level place : ℕ) × Stands tree level place bytes × OpensAt closing range tree level place

-- the bytes are a node of the tree that is opened, at a level from the first to the second
abbrev pub IsOpenedIn : Bool → Range → List (List Node) → ℕ → ℕ → List ℕ → Type 0
IsOpenedIn closing range tree low high bytes =
    (level place : ℕ) × (low ≤ level) × (level ≤ high) × Stands tree level place bytes × OpensAt closing range tree level place

-- a walk has come down to a level: the pending children are those nodes of it, below the top, that are opened
pub record IsReached (closing : Bool) (shape : Shape) (tree : ℕ) (entries : List Binding) (range : Range) (level : ℕ) (pending : List (Option (List ℕ) × Link)) : Type 0 where
  pub is_tree : IsTree tree
  pub has : HasTree entries
  pub bytes : AllByRecursion (λ (entry : Binding). AreBytes entry.key) entries
  pub within : suc level < length (levels shape tree entries)
  pub those : AreThose (IsOpenChild closing range) (children_placed None (map link_to (level_at (levels shape tree entries) level))) pending
