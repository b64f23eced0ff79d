use Rattle.std.proofs.Common.{◌≡◌, ℕ, suc, ◌≤◌, List, None}
use Rattle.tree_node.specs.NodeRefs.{number_of}
use Rattle.tree_node.specs.Shelves.{Stays}
use Rattle.tree_walk.specs.internal.Pendings.{AreInOrder, AreWanted, spots_of}
use Rattle.tree_walk.specs.Ranges.{range_of}
use Rattle.tree_walk.specs.Uses.{nodes_around}
use Rattle.tree_walk.specs.internal.Openings.{IsClosedChild}
use Rattle.tree_walk.proofs.GivenDown.{GatheringDown}
use Rattle.tree_walk.proofs.DescentFetches.{FetchingDown}
use Rattle.tree_walk.proofs.DescentLemmas.{HonestDown}
use Rattle.tree_walk.proofs.descent.descend.Given as goal

-- the nodes above this level were fetched, and its nodes that are opened are pending
abbrev pub invariant-loop-level : goal.invariant-loop-level
invariant-loop-level g l = record {
  within : l.level ≤ l.fn.level;
  calls : l.tally.calls ≡ l.fn.tally.calls;
  stays : Stays g.S.Shelf.is_fixed (g.S.Shelf.holds l.fn.shelf) (g.S.Shelf.holds l.shelf);
  grows : (bytes : List ℕ) → g.S.Shelf.used l.fn.shelf bytes → g.S.Shelf.used l.shelf bytes;
  order : AreInOrder None (spots_of l.pending.items);
  fetches : FetchingDown (suc l.level) (suc l.fn.level) (nodes_around g.S.Shelf.holds g.S.Shelf.used l.fn.shelf l.shelf) l.fn.tally.fetches l.tally.fetches;
  wanted : (top : List ℕ) → AreWanted (g.S.Shelf.used l.fn.shelf) (number_of l.way.tree) top l.fn.level (spots_of l.fn.pending.items)
      → AreWanted (g.S.Shelf.used l.shelf) (number_of l.way.tree) top l.level (spots_of l.pending.items);
  honest : HonestDown g.G.Gather.gathers g.G.Gather.closing (number_of l.way.tree) (range_of l.way.range.now) l.fn.level (spots_of l.fn.pending.items) l.fn.gathered l.level (spots_of l.pending.items) l.gathered (g.S.Shelf.used l.fn.shelf) (g.S.Shelf.used l.shelf);
  gives : GatheringDown g.G.Gather.gathers (IsClosedChild g.G.Gather.closing (range_of l.way.range.now)) (number_of l.way.tree) (range_of l.way.range.now) l.fn.level (spots_of l.fn.pending.items) l.fn.gathered (g.S.Shelf.used l.fn.shelf) l.fn.tally.fetches
      l.level (g.S.Shelf.holds l.shelf) (g.S.Shelf.used l.shelf) l.tally.fetches (spots_of l.pending.items) l.gathered;
}

abbrev pub decreases-loop-level : goal.decreases-loop-level
decreases-loop-level g l = l.level
