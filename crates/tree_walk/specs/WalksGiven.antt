-- Several walks over one shelf, one after the other, and what each gave.
-- Source: this project.
use Rattle.std.specs.Prelude.{◌≡◌, ℕ, List, length}
use Rattle.std.specs.List.{AllByRecursion, flat_map}
use Rattle.tree_node.specs.Outcomes.{ShelfUse}
use Rattle.tree_node.specs.declared.tree.Tree.{Tree}
use Rattle.tree_walk.specs.Fetches.{AreDifferent, HasFetched, IsAmong, IsNodeText, counted_up}
use Rattle.tree_walk.specs.Given.{Answer, Gives}
use Rattle.tree_walk.specs.Ranges.{Range}

-- one of them: which tree and range it was asked, the nodes that it fetched, and its answer
pub record Walk : Type 0 where
  pub tree : Tree
  pub range : Range
  pub nodes : List (List ℕ)
  pub answer : Answer

-- the walk was made: the nodes that it fetched differ, are each of a node's form, and alone give its answer from its
-- tree's top on; and the walk is fine
pub record IsMade (top_of : Tree → List ℕ) (Fine : Walk → Type 0) (walk : Walk) : Type 0 where
  pub differ : AreDifferent walk.nodes
  pub texts : AllByRecursion IsNodeText walk.nodes
  pub gives : Gives (IsAmong walk.nodes) walk.tree (top_of walk.tree) walk.range walk.answer
  pub fine : Fine walk

-- the nodes of walks, one walk after the other
abbrev pub nodes_of : List Walk → List (List ℕ)
nodes_of walks = flat_map (λ (walk : Walk). walk.nodes) walks

-- these walks were made, under these tops, and all of them are fine
pub record HasGiven (top_of : Tree → List ℕ) (Fine : Walk → Type 0) (shelf : ShelfUse) (calls later from to : ℕ) : Type 0 where
  pub walks : List Walk
  pub fetched : HasFetched shelf from to (nodes_of walks)
  pub called : later ≡ counted_up calls (length walks)
  pub each : AllByRecursion (IsMade top_of Fine) walks
