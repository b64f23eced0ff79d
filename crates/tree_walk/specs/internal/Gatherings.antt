-- How what a walk has gathered is given by the nodes that it read, over any nodes whatever.
use Rattle.std.specs.Prelude.{ℕ, List, [], map, Option}
use Rattle.std.specs.List.{AllByRecursion}
use Rattle.tree_node.specs.Nodes.{Binding, Link, Node}
use Rattle.tree_node.specs.Outcomes.{ShelfUse}
use Rattle.tree_walk.specs.Choices.{AreThose}
use Rattle.tree_walk.specs.Fetches.{AreDifferent, HasFetched, IsAmong}
use Rattle.tree_walk.specs.Given.{AreAccepted, GivesFrom, IsEntered, wanted_of}
use Rattle.tree_walk.specs.Ranges.{Range}
use Rattle.tree_walk.specs.Reasons.{Wanted}
use Rattle.tree_walk.specs.Spans.{children_of_all}
use Rattle.tree_walk.specs.internal.Accounts.{Gains}
use Rattle.tree_walk.specs.internal.Pendings.{IsOfLevel}

-- the nodes of a level were fetched that these pending children stand for: those of their children that are entered are
-- these, and those that stay closed were gathered
pub record ReadsLevel {G : Type 0} (gathers : G → List (Option (List ℕ) × Link) → List Binding → Type 0) (Closed : Option (List ℕ) × Link → Type 0) (shelf : ShelfUse) (from to tree level : ℕ) (range : Range)
    (pending entered : List (Option (List ℕ) × Link)) (old new : G) : Type 0 where
  pub nodes : List (List ℕ)
  pub fetched : HasFetched shelf from to nodes
  pub differ : AreDifferent nodes
  pub texts : AllByRecursion (IsOfLevel level) nodes
  pub read : List (Option (List ℕ) × Node)
  pub accepted : AreAccepted (IsAmong nodes) tree level (map (wanted_of level) pending) read
  pub enters : AreThose (IsEntered Closed range) (children_of_all read) entered
  pub closed : List (Option (List ℕ) × Link)
  pub closes : AreThose Closed (children_of_all read) closed
  pub gains : Gains gathers old new closed []

-- nodes of this kind were fetched, and from these wanted nodes on they alone give what was gathered
pub record GathersFrom {G : Type 0} (gathers : G → List (Option (List ℕ) × Link) → List Binding → Type 0) (Closed : Option (List ℕ) × Link → Type 0) (Is : List ℕ → Type 0) (shelf : ShelfUse) (from to tree : ℕ) (range : Range)
    (wanted : List Wanted) (old new : G) : Type 0 where
  pub nodes : List (List ℕ)
  pub fetched : HasFetched shelf from to nodes
  pub differ : AreDifferent nodes
  pub texts : AllByRecursion Is nodes
  pub closed : List (Option (List ℕ) × Link)
  pub found : List Binding
  pub gives : GivesFrom Closed (IsAmong nodes) tree range wanted closed found
  pub gains : Gains gathers old new closed found
