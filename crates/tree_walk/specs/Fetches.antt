-- Which nodes a walk fetched, and how its tally counts them.
-- Source: this project.
use Rattle.std.specs.Prelude.{◌≡◌, ℕ, zero, suc, ◌+◌, ◌-◌, ◌^◌, ◌≤◌, min, List, [], ◌∷◌, ◌++◌, ◌⊎◌, length, Result, Ok, Err, ⊤}
use Rattle.std.specs.List.{AllByRecursion}
use Rattle.tree_node.specs.Nodes.{Node, Spells}
use Rattle.tree_node.specs.Outcomes.{Cause, GrownByAll, NoMemory, NodeMissing, OtherCause, ShelfUse}
use Rattle.tree_walk.specs.declared.fault.WalkFault.{WalkFault}
use Rattle.tree_walk.specs.declared.fault.WalkFault.TheVariants as faults

-- a count of 64 bits, so many steps further; at its greatest it stays there
abbrev pub counted_up : ℕ → ℕ → ℕ
counted_up count zero = count
counted_up count (suc steps) = min (counted_up count steps + 1) (2 ^ 64 - 1)

-- the bytes are one of these
abbrev pub IsAmong : List (List ℕ) → List ℕ → Type 0
IsAmong [] bytes = ⊥
IsAmong (node ∷ nodes) bytes = (bytes ≡ node) ⊎ IsAmong nodes bytes

-- no two of them are equal
abbrev pub AreDifferent : List (List ℕ) → Type 0
AreDifferent [] = ⊤
AreDifferent (node ∷ nodes) = (¬ IsAmong nodes node) × AreDifferent nodes

-- the bytes are a node's
abbrev pub IsNodeText : List ℕ → Type 0
IsNodeText bytes = (node : Node) × Spells bytes node

-- these nodes were fetched, one after the other: each is held, the used nodes have gained them, and they were counted
pub record HasFetched (shelf : ShelfUse) (from to : ℕ) (nodes : List (List ℕ)) : Type 0 where
  pub gained : GrownByAll shelf.before shelf.after (IsAmong nodes)
  pub all_held : AllByRecursion shelf.held nodes
  pub counted : to ≡ counted_up from (length nodes)

-- Which nodes a walk fetched, over any nodes whatever: different ones, each of a node's form, one at least; and where
-- it is refused perhaps none, and perhaps one more, which may be any.
abbrev pub Fetches : {A : Type 0} → Result A WalkFault → ShelfUse → ℕ → ℕ → Type 0
Fetches (Ok value) shelf from to =
    (nodes : List (List ℕ)) × HasFetched shelf from to nodes × AreDifferent nodes × AllByRecursion IsNodeText nodes × (1 ≤ length nodes)
Fetches (Err fault) shelf from to =
    (nodes last : List (List ℕ)) × HasFetched shelf from to (nodes ++ last) × AreDifferent nodes × AllByRecursion IsNodeText nodes × (length last ≤ 1)

-- what a refusal of a walk says of the shelf
abbrev pub cause_of : WalkFault → Cause
cause_of faults.Missing = NodeMissing
cause_of (faults.Malformed fault) = OtherCause
cause_of faults.WrongTreeOrLevel = OtherCause
cause_of faults.Disagrees = OtherCause
cause_of faults.Memory = NoMemory
