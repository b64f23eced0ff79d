use Rattle.std.proofs.Common.{[], List, None}
use Rattle.std.specs.List.{AllByRecursion}
use Rattle.tree_node.specs.Nodes.{AreRisingFrom, Binding, keys_of}
use Rattle.tree_walk.specs.internal.Accounts.{Gains}
use Rattle.tree_walk.specs.Ranges.{IsAtMost, range_of}
use Rattle.tree_walk.specs.Walks.{IsEntryIn}
use Rattle.tree_walk.proofs.ChoiceLemmas.{ArePicked}
use Rattle.tree_walk.proofs.descent.take.Given as goal

-- the entries so far that are in the range were gathered, and the keys to come rise from lo on
abbrev pub invariant-loop-item : goal.invariant-loop-item
invariant-loop-item g l = record {
  rising : AreRisingFrom None (keys_of l.item-iterator);
  from : AllByRecursion (IsAtMost l.range.lo.now) (keys_of l.item-iterator);
  so_far : (taken : List Binding) × ArePicked (IsEntryIn (range_of l.range)) l.fn.entries l.item-iterator taken × Gains g.G.Gather.gathers l.fn.gathered l.gathered [] taken;
}
