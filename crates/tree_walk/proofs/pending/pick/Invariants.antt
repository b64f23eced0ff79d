use Rattle.std.proofs.Common.{◌≡◌, ◌++◌, [], ℕ, List, Option}
use Rattle.std.specs.List.{AllByRecursion}
use Rattle.std.specs.Option.{option_copied}
use Rattle.tree_node.specs.Nodes.{AreRisingFrom, Link, greatests_of}
use Rattle.tree_walk.specs.internal.Accounts.{Gains}
use Rattle.tree_walk.specs.internal.Openings.{IsClosedChild, IsOpenChild}
use Rattle.tree_walk.specs.Given.{IsEntered}
use Rattle.tree_walk.specs.Spans.{children_placed}
use Rattle.tree_walk.specs.internal.Pendings.{spots_of}
use Rattle.tree_walk.specs.Ranges.{IsAtMost, range_of}
use Rattle.tree_walk.proofs.ChoiceLemmas.{ArePicked}
use Rattle.tree_walk.proofs.pending.pick.Given as goal

-- the children so far that are opened were put after those before them, those that stay closed were gathered, and the
-- keys to come rise from lo on
abbrev pub invariant-loop-child : goal.invariant-loop-child
invariant-loop-child g l = record {
  rising : AreRisingFrom (option_copied l.bound) (greatests_of l.child-iterator);
  from : AllByRecursion (IsAtMost l.range.lo.now) (greatests_of l.child-iterator);
  so_far : (picked closed : List (Option (List ℕ) × Link)) × (spots_of l.pending.items ≡ spots_of l.fn.pending.items ++ picked)
      × ArePicked (IsOpenChild g.G.Gather.closing (range_of l.range)) (children_placed (option_copied l.left) l.fn.children) (children_placed (option_copied l.bound) l.child-iterator) picked
      × ArePicked (IsClosedChild g.G.Gather.closing (range_of l.range)) (children_placed (option_copied l.left) l.fn.children) (children_placed (option_copied l.bound) l.child-iterator) closed
      × Gains g.G.Gather.gathers l.fn.gathered l.gathered closed []
      × ArePicked (IsEntered (IsClosedChild g.G.Gather.closing (range_of l.range)) (range_of l.range)) (children_placed (option_copied l.left) l.fn.children) (children_placed (option_copied l.bound) l.child-iterator) picked;
}
