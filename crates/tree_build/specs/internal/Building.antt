-- What the steps of a build promise of the stock.
use Rattle.std.specs.Prelude.{◌≡◌, ℕ, List, [], ◌∷◌, ◌⊎◌, ◌≤◌, length, take, drop, Result, Err, OnOk, sum_by, Bool}
use Rattle.std.specs.List.{AllByRecursion}
use Rattle.tree_node.specs.declared.limits.TheConstants.{ENTRY_LIMIT, ITEM_LIMIT, KEY_LIMIT}
use Rattle.tree_node.specs.Nodes.{Link, Node, spelling}
use Rattle.tree_node.specs.Outcomes.{Clash as Clashes, GrownByAll}
use Rattle.tree_node.specs.Trees.{pieces, one_at_least}
use Rattle.tree_build.specs.declared.fault.BuildFault.{BuildFault}
use Rattle.tree_build.specs.declared.fault.BuildFault.TheVariants.{Clash}

-- the bytes are one of these nodes
abbrev pub IsOneOf : List Node → List ℕ → Type 0
IsOneOf [] bytes = ⊥
IsOneOf (node ∷ nodes) bytes = (bytes ≡ spelling node) ⊎ IsOneOf nodes bytes

-- These nodes were put into a set, or the putting stopped at one of them.
pub record PutAll {A : Type 0} (result : Result A BuildFault) (old new : List ℕ → Type 0) (nodes : List Node) : Type 0 where
  pub gained : OnOk result (GrownByAll old new (IsOneOf nodes))
  pub kept : (bytes : List ℕ) → old bytes → new bytes
  pub only : (bytes : List ℕ) → new bytes → old bytes ⊎ IsOneOf nodes bytes
  pub clash : result ≡ Err Clash → Clashes (λ bytes. old bytes ⊎ IsOneOf nodes bytes) (IsOneOf nodes)

-- the first piece of a list, without items only where the list has none
pub record IsFirstPiece {X : Type 0} (ends : ℕ → X → Bool) (xs piece : List X) : Type 0 where
  pub front : piece ≡ take (length piece) xs
  pub within : length piece ≤ length xs
  pub few : length piece ≤ ITEM_LIMIT
  pub some : 1 ≤ length xs → 1 ≤ length piece
  pub cut : one_at_least (pieces ends xs) ≡ piece ∷ pieces ends (drop (length piece) xs)

-- the greatest keys are within the limit, and few enough entries are below the links
pub record AreWithin (links : List Link) : Type 0 where
  pub greatest : AllByRecursion (λ (link : Link). length link.greatest ≤ KEY_LIMIT) links
  pub few : sum_by (λ (link : Link). link.number) links ≤ ENTRY_LIMIT
