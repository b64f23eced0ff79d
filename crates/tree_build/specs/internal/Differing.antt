-- How two lists of nodes with rising greatest keys differ, as a merge of both finds it.
use Rattle.std.specs.Prelude.{◌≡◌, ◌≢◌, ℕ, List, [], ◌∷◌, ◌++◌, None, Some, Bool, true, false, drop, map, ⊤}
use Rattle.std.specs.List.{AllByRecursion}
use Rattle.tree_node.specs.Nodes.{IsNode, Link, Node}
use Rattle.tree_node.specs.Order.{IsBelow}
use Rattle.tree_node.specs.Trees.{greatest_of, link_to}
use Rattle.tree_build.specs.Changing.{Change}
use Rattle.tree_build.specs.internal.Edits.{Each, IsOldNode}
use Rattle.tree_build.specs.internal.RisingChanges.{IsUpTo}
use Rattle.tree_build.specs.declared.node_merge.Counterpart.{Counterpart}
use Rattle.tree_build.specs.declared.node_merge.Counterpart.TheVariants.{Missing, Changed, Same}
use Rattle.tree_build.specs.declared.node_merge.MergeStep.{MergeStep}
use Rattle.tree_build.specs.declared.old_node.OldNode.{OldNode}
use Rattle.tree_build.specs.declared.piece.NewPiece.{NewPiece}

-- the item that stands for the node goes
abbrev pub taken : Node → Change Link
taken node = record { key = greatest_of node; put = None }

-- the item that stands for the node comes
abbrev pub put : Node → Change Link
put node = record { key = greatest_of node; put = Some (link_to node) }

-- The old nodes and the new ones, those of the old that aren't new, those of the new that aren't old, and the changes
-- from the items that stand for the old ones to those that stand for the new.
pub data Differ : List Node → List Node → List Node → List Node → List (Change Link) → Type 0 where
  nothing : Differ [] [] [] [] []
  gone_last : (o : Node) (os lost gained : List Node) (cs : List (Change Link)) → Differ os [] lost gained cs → Differ (o ∷ os) [] (o ∷ lost) gained (taken o ∷ cs)
  gone : (o : Node) (os : List Node) (n : Node) (ns lost gained : List Node) (cs : List (Change Link)) → IsBelow (greatest_of o) (greatest_of n)
      → Differ os (n ∷ ns) lost gained cs → Differ (o ∷ os) (n ∷ ns) (o ∷ lost) gained (taken o ∷ cs)
  came_last : (n : Node) (ns lost gained : List Node) (cs : List (Change Link)) → Differ [] ns lost gained cs → Differ [] (n ∷ ns) lost (n ∷ gained) (put n ∷ cs)
  came : (o : Node) (os : List Node) (n : Node) (ns lost gained : List Node) (cs : List (Change Link)) → IsBelow (greatest_of n) (greatest_of o)
      → Differ (o ∷ os) ns lost gained cs → Differ (o ∷ os) (n ∷ ns) lost (n ∷ gained) (put n ∷ cs)
  same : (o : Node) (os : List Node) (n : Node) (ns lost gained : List Node) (cs : List (Change Link)) → o ≡ n → Differ os ns lost gained cs → Differ (o ∷ os) (n ∷ ns) lost gained cs
  replaced : (o : Node) (os : List Node) (n : Node) (ns lost gained : List Node) (cs : List (Change Link)) → greatest_of o ≡ greatest_of n → o ≢ n
      → Differ os ns lost gained cs → Differ (o ∷ os) (n ∷ ns) (o ∷ lost) (n ∷ gained) (put n ∷ cs)

-- the first of the old nodes, where there is one, isn't below the key
abbrev pub FirstReaches : List ℕ → List OldNode → Type 0
FirstReaches key [] = ⊤
FirstReaches key (old ∷ olds) = IsUpTo key old.greatest.now

-- the first of the old nodes has the new one's greatest key, or none has it
abbrev pub IsCounterpart : List OldNode → NewPiece → Counterpart → Type 0
IsCounterpart [] new Missing = ⊤
IsCounterpart [] new Changed = ⊥
IsCounterpart [] new Same = ⊥
IsCounterpart (old ∷ olds) new Missing = IsBelow new.greatest.now old.greatest.now
IsCounterpart (old ∷ olds) new Changed = (old.greatest.now ≡ new.greatest.now) × (old.bytes.now ≢ new.node.bytes.items)
IsCounterpart (old ∷ olds) new Same = old.bytes.now ≡ new.node.bytes.items

-- they differ by these changes
pub record TheyDiffer (olds news : List Node) (changes : List (Change Link)) : Type 0 where
  pub lost : List Node
  pub gained : List Node
  pub parent_changes : Differ olds news lost gained changes

-- the items that stand for these old nodes go
abbrev pub gone_changes : List OldNode → List (Change Link)
gone_changes olds = map (λ (old : OldNode). record { key = old.greatest.now; put = None }) olds

-- the node, where it isn't an old one
abbrev pub gained_by : Bool → Node → List Node
gained_by true node = node ∷ []
gained_by false node = []

-- the items that stand for these old nodes go, and that for the new node comes, where it isn't an old one
abbrev pub step_changes : List OldNode → Bool → Node → List (Change Link)
step_changes olds true node = gone_changes olds ++ put node ∷ []
step_changes olds false node = gone_changes olds

-- At a new node these old ones are gone, and these are left. What the lists differ by from there on makes, with this
-- node and these changes, what they differ by.
pub record GoesOn (olds : List Node) (new : Node) (gone rest : List OldNode) (gained : List Node) (changes : List (Change Link)) : Type 0 where
  pub lost : List Node
  pub lost_stand : Each IsOldNode gone lost
  pub others : List Node
  pub stand : Each IsOldNode rest others
  pub are : AllByRecursion IsNode others
  pub then_differ : (news later earned : List Node) (more : List (Change Link)) → Differ others news later earned more → Differ olds (new ∷ news) (lost ++ later) (gained ++ earned) (changes ++ more)

-- so a step of the merge says of the old nodes, for which these stand, and the new one
abbrev pub IsMergeStep : List OldNode → List Node → Node → MergeStep → Type 0
IsMergeStep olds nodes new step =
    GoesOn nodes new step.gone.now (drop step.up_to olds) (gained_by step.is_new new) (step_changes step.below.now step.is_new new)
