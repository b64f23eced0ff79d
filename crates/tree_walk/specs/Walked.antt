-- Several walks over one shelf, one after the other, and how their tally counts them.
-- Source: this project.
use Rattle.std.specs.Prelude.{◌≡◌, ◌≤◌, ℕ, List, length}
use Rattle.std.specs.List.{AllByRecursion, flat_map}
use Rattle.tree_node.specs.Outcomes.{ShelfUse}
use Rattle.tree_walk.specs.Fetches.{AreDifferent, HasFetched, IsNodeText, counted_up}

-- the nodes of walks, one walk after the other
abbrev pub fetched_in : List (List (List ℕ)) → List (List ℕ)
fetched_in walks = flat_map (λ (nodes : List (List ℕ)). nodes) walks

-- these walks were made: each fetched different nodes, one at least, and each of a node's form
pub record HasWalked (shelf : ShelfUse) (calls later from to : ℕ) : Type 0 where
  pub walks : List (List (List ℕ))
  pub fetched : HasFetched shelf from to (fetched_in walks)
  pub called : later ≡ counted_up calls (length walks)
  pub each : AllByRecursion (λ (nodes : List (List ℕ)). AreDifferent nodes × AllByRecursion IsNodeText nodes) walks
  pub some : AllByRecursion (λ (nodes : List (List ℕ)). 1 ≤ length nodes) walks
