-- What a walk gives, over any nodes whatever: the entries in a range, or their number, as the nodes that it read have
-- them. It is said level by level, from the top down to the leaves.
-- Source: this project's trees, docs/FORMATS.md.
use Rattle.std.specs.Prelude.{◌≡◌, ℕ, suc, ◌+◌, ◌-◌, ◌^◌, min, sum_by, List, [], ◌∷◌, ◌++◌, ◌⊎◌, length, map, Option, IfSome, true}
use Rattle.std.specs.List.{AllByRecursion, Contains, flat_map}
use Rattle.tree_node.specs.NodeRefs.{number_of}
use Rattle.tree_node.specs.Nodes.{Binding, Leaf, Link, Node, level_of}
use Rattle.tree_node.specs.Order.{IsBelow}
use Rattle.tree_node.specs.Outcomes.{ShelfUse}
use Rattle.tree_node.specs.Trees.{entries_in}
use Rattle.tree_node.specs.declared.tree.Tree.{Tree}
use Rattle.tree_walk.specs.Choices.{AreThose}
use Rattle.tree_walk.specs.Fetches.{AreDifferent, HasFetched, IsAmong, IsNodeText}
use Rattle.tree_walk.specs.Ranges.{Begins, IsAtMost, IsCovered, IsIn, Range}
use Rattle.tree_walk.specs.Reasons.{Child, IsAccepted, IsWanted, Top, Wanted, left_wanted}
use Rattle.tree_walk.specs.Spans.{children_of_all}
use Rattle.tree_walk.specs.Walks.{IsEntryIn}

-- ---- the children that a walk enters

-- the range goes on above the bound: it is below hi, or hi begins it and under holds
abbrev pub ReachesAbove : Range → List ℕ → Type 0
ReachesAbove range bound = IsBelow bound range.hi ⊎ ((range.under ≡ true) × Begins range.hi bound)

-- the same of a left bound where there is one; without a bound it does
abbrev pub GoesOnAbove : Range → Option (List ℕ) → Type 0
GoesOnAbove range left = IfSome left (λ bound. ReachesAbove range bound)

-- A walk enters the child, which is as its parent states it: the child doesn't end below lo, the range goes on above
-- the child's left bound, and it isn't one of those that stay closed.
pub record IsEntered (Closed : Option (List ℕ) × Link → Type 0) (range : Range) (child : Option (List ℕ) × Link) : Type 0 where
  pub low : IsAtMost range.lo child.1.greatest
  pub high : GoesOnAbove range child.0
  pub opened : ¬ Closed child

-- where entries are given no child stays closed,
abbrev pub IsNever : Option (List ℕ) × Link → Type 0
IsNever child = ⊥

-- and where they are counted those do that the range covers
abbrev pub IsCoveredChild : Range → Option (List ℕ) × Link → Type 0
IsCoveredChild range child = IsCovered range child.0 child.1.greatest

-- ---- what the nodes of a level give

-- what a walk wants that enters a child at this level
abbrev pub wanted_of : ℕ → Option (List ℕ) × Link → Wanted
wanted_of level child = Child level child.0 child.1

-- for each that was wanted its node was accepted; these are the nodes, all of one level, each beside its left bound
abbrev pub AreAccepted : (List ℕ → Type 0) → ℕ → ℕ → List Wanted → List (Option (List ℕ) × Node) → Type 0
AreAccepted used tree level [] nodes = nodes ≡ []
AreAccepted used tree level (wanted ∷ others) [] = ⊥
AreAccepted used tree level (wanted ∷ others) (node ∷ nodes) =
    (node.0 ≡ left_wanted wanted) × (level_of node.1 ≡ level) × IsAccepted used tree wanted node.1 × AreAccepted used tree level others nodes

-- the entries of these nodes
abbrev pub entries_of_all : List (Option (List ℕ) × Node) → List Binding
entries_of_all nodes = flat_map (λ (node : Option (List ℕ) × Node). entries_in node.1) nodes

-- What a walk gives from these wanted nodes on, and the children that stay closed. Leaves give those of their entries
-- that are in the range. Inner nodes give what those of their children give that are entered.
pub data GivesFrom (Closed : Option (List ℕ) × Link → Type 0) (used : List ℕ → Type 0) (tree : ℕ) (range : Range) : List Wanted → List (Option (List ℕ) × Link) → List Binding → Type 0 where
  FromLeaves : (wanted : List Wanted) (nodes : List (Option (List ℕ) × Node)) (found : List Binding)
      → AreAccepted used tree 0 wanted nodes → AreThose (IsEntryIn range) (entries_of_all nodes) found → GivesFrom Closed used tree range wanted [] found
  FromInner : (level : ℕ) (wanted : List Wanted) (nodes : List (Option (List ℕ) × Node)) (entered closed below : List (Option (List ℕ) × Link)) (found : List Binding)
      → AreAccepted used tree (suc level) wanted nodes
      → AreThose (IsEntered Closed range) (children_of_all nodes) entered → AreThose Closed (children_of_all nodes) closed
      → GivesFrom Closed used tree range (map (wanted_of level) entered) below found → GivesFrom Closed used tree range wanted (closed ++ below) found

-- ---- what a walk gives

-- a walk gives these entries, or it says that there are so many
pub data Answer : Type 0 where
  These : (found : List Binding) → Answer
  SoMany : (number : ℕ) → Answer

-- a number of 64 bits: a greater one is the greatest of them
abbrev pub saturating_u64 : ℕ → ℕ
saturating_u64 n = min n (2 ^ 64 - 1)

-- the entries that are stated of these children, together
abbrev pub sum_stated : List (Option (List ℕ) × Link) → ℕ
sum_stated children = sum_by (λ (child : Option (List ℕ) × Link). child.1.number) children

-- These nodes give this answer, from the top with this digest on. A child that stays closed counts with the number that
-- its parent states.
abbrev pub Gives : (List ℕ → Type 0) → Tree → List ℕ → Range → Answer → Type 0
Gives used tree top range (These found) = GivesFrom IsNever used (number_of tree) range (Top top ∷ []) [] found
Gives used tree top range (SoMany number) =
    (closed : List (Option (List ℕ) × Link)) × (found : List Binding) × GivesFrom (IsCoveredChild range) used (number_of tree) range (Top top ∷ []) closed found
    × (number ≡ saturating_u64 (sum_stated closed + length found))

-- One walk that ended well. It fetched these nodes, which differ and are each of a node's form, and they alone give its
-- answer.
pub record IsWalk (shelf : ShelfUse) (from to : ℕ) (tree : Tree) (top : List ℕ) (range : Range) (answer : Answer) : Type 0 where
  pub nodes : List (List ℕ)
  pub fetched : HasFetched shelf from to nodes
  pub differ : AreDifferent nodes
  pub texts : AllByRecursion IsNodeText nodes
  pub gives : Gives (IsAmong nodes) tree top range answer

-- ---- one entry

-- where an entry that was given stands: in a leaf that was wanted and accepted, and its key is in the range
pub record IsGivenEntry (used : List ℕ → Type 0) (tree : ℕ) (top : List ℕ) (range : Range) (entry : Binding) : Type 0 where
  pub wanted : Wanted
  pub entries : List Binding
  pub is_wanted : IsWanted used tree top wanted
  pub accepted : IsAccepted used tree wanted (Leaf tree entries)
  pub among : Contains entries entry
  pub within : IsIn range entry.key
