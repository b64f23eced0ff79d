-- What a walk keeps of the nodes that it will fetch, and what it asks of a node that it fetched.
use Rattle.std.specs.Prelude.{◌≡◌, ℕ, List, [], ◌∷◌, map, Option, Some, Result, Ok, Err, ⊤, ◌<◌, ◌≤◌, length, ◌++◌, ◌⊎◌}
use Rattle.std.specs.Option.{option_copied}
use Rattle.std.specs.List.{AllByRecursion}
use Rattle.tree_node.specs.Nodes.{Link, Node, IsNode, Spells, spelling, level_of, tree_of}
use Rattle.tree_node.specs.NodeRefs.{link_of}
use Rattle.tree_node.specs.Outcomes.{ShelfUse}
use Rattle.tree_node.specs.Shelves.{GrownBy}
use Rattle.tree_node.specs.Trees.{link_to}
use Rattle.tree_walk.specs.Fetches.{AreDifferent, HasFetched, counted_up}
use Rattle.tree_walk.specs.Ranges.{IsAboveLeft, IsNoHigher}
use Rattle.tree_walk.specs.Given.{wanted_of}
use Rattle.tree_walk.specs.Reasons.{IsWanted, StartAbove, node_keys}
use Rattle.tree_walk.specs.declared.fault.WalkFault.{WalkFault}
use Rattle.tree_walk.specs.declared.pending.Pending.{Pending}

-- ---- pending children

-- a pending child, without where it lies in memory
abbrev pub spot_of : Pending → Option (List ℕ) × Link
spot_of pending = (option_copied pending.left, link_of pending.child)

abbrev pub spots_of : List Pending → List (Option (List ℕ) × Link)
spots_of pendings = map spot_of pendings

-- what the parent of a node states of it
abbrev pub stated_of : Option (List ℕ) × Node → Option (List ℕ) × Link
stated_of spot = (spot.0, link_to spot.1)

-- a walk from this top came to want these pending children
abbrev pub AreWanted : (List ℕ → Type 0) → ℕ → List ℕ → ℕ → List (Option (List ℕ) × Link) → Type 0
AreWanted used tree top level spots = AllByRecursion (λ (spot : Option (List ℕ) × Link). IsWanted used tree top (wanted_of level spot)) spots

-- their spans lie side by side, from the left bound on
abbrev pub AreInOrder : Option (List ℕ) → List (Option (List ℕ) × Link) → Type 0
AreInOrder low [] = ⊤
AreInOrder low (spot ∷ spots) =
    IsNoHigher low spot.0 × IsAboveLeft spot.0 spot.1.greatest × AreInOrder (Some spot.1.greatest) spots

-- ---- nodes that were fetched

-- the node that an honest parent states so
pub record IsStated (tree level : ℕ) (spot : Option (List ℕ) × Link) (node : Node) : Type 0 where
  pub is : IsNode node
  pub in_tree : tree_of node ≡ tree
  pub at_level : level_of node ≡ level
  pub link : link_to node ≡ spot.1
  pub above : StartAbove spot.0 (node_keys node)

-- one node was fetched, and it is this one
pub record FetchedNode (node : Node) (shelf : ShelfUse) (from to : ℕ) : Type 0 where
  pub bytes : List ℕ
  pub spells : Spells bytes node
  pub is_held : shelf.held bytes
  pub grown : GrownBy shelf.before shelf.after bytes
  pub counted : to ≡ counted_up from 1

-- one node was fetched at most
pub record FetchedFew (shelf : ShelfUse) (from to : ℕ) : Type 0 where
  pub nodes : List (List ℕ)
  pub fetched : HasFetched shelf from to nodes
  pub few : length nodes ≤ 1

-- a node was fetched and is what was asked for, or else one was fetched at most
abbrev pub Opens : {A : Type 0} → (A → Node) → Result A WalkFault → ShelfUse → ℕ → ℕ → Type 0
Opens node_of (Ok value) shelf from to = FetchedNode (node_of value) shelf from to
Opens node_of (Err fault) shelf from to = FetchedFew shelf from to

-- the bytes are a node of this level
abbrev pub IsOfLevel : ℕ → List ℕ → Type 0
IsOfLevel level bytes = (node : Node) × Spells bytes node × (level_of node ≡ level)

-- which nodes of a level were fetched
abbrev pub FetchesLevel : {A : Type 0} → ℕ → Result A WalkFault → ShelfUse → ℕ → ℕ → Type 0
FetchesLevel level (Ok value) shelf from to =
    (nodes : List (List ℕ)) × HasFetched shelf from to nodes × AreDifferent nodes × AllByRecursion (IsOfLevel level) nodes
FetchesLevel level (Err fault) shelf from to =
    (nodes last : List (List ℕ)) × HasFetched shelf from to (nodes ++ last) × AreDifferent nodes × AllByRecursion (IsOfLevel level) nodes × (length last ≤ 1)

-- the bytes are a node of a level from the first to below the second
abbrev pub IsBetweenLevels : ℕ → ℕ → List ℕ → Type 0
IsBetweenLevels low high bytes = (node : Node) × Spells bytes node × (low ≤ level_of node) × (level_of node < high)

-- which nodes of the levels below this one were fetched
abbrev pub FetchesBelow : {A : Type 0} → ℕ → Result A WalkFault → ShelfUse → ℕ → ℕ → Type 0
FetchesBelow level (Ok value) shelf from to =
    (nodes : List (List ℕ)) × HasFetched shelf from to nodes × AreDifferent nodes × AllByRecursion (IsBetweenLevels 0 level) nodes
FetchesBelow level (Err fault) shelf from to =
    (nodes last : List (List ℕ)) × HasFetched shelf from to (nodes ++ last) × AreDifferent nodes × AllByRecursion (IsBetweenLevels 0 level) nodes × (length last ≤ 1)

-- the bytes are one of these nodes
abbrev pub IsOneOf : List (Option (List ℕ) × Node) → List ℕ → Type 0
IsOneOf [] bytes = ⊥
IsOneOf (spot ∷ spots) bytes = (bytes ≡ spelling spot.1) ⊎ IsOneOf spots bytes

-- these are the nodes that honest parents state so, one for each pending child
abbrev pub AreStated : ℕ → ℕ → List (Option (List ℕ) × Link) → List (Option (List ℕ) × Node) → Type 0
AreStated tree level [] nodes = nodes ≡ []
AreStated tree level (spot ∷ spots) nodes =
    (node : Node) × (others : List (Option (List ℕ) × Node)) × (nodes ≡ (spot.0, node) ∷ others) × IsStated tree level spot node × AreStated tree level spots others
