use Rattle.std.proofs.Common.{◌≡◌, ◌-◌, [], ℕ, List, Option, drop}
use Rattle.tree_node.specs.NodeRefs.{number_of}
use Rattle.tree_node.specs.Nodes.{Link, Node}
use Rattle.tree_node.specs.Shelves.{Stays}
use Rattle.tree_node.specs.Trees.{links_in}
use Rattle.tree_walk.specs.internal.Accounts.{Gains}
use Rattle.tree_walk.specs.internal.Openings.{IsClosedChild, IsOpenChild}
use Rattle.tree_walk.specs.Choices.{AreThose}
use Rattle.tree_walk.specs.Given.{IsEntered}
use Rattle.tree_walk.specs.Spans.{children_of_all, children_placed}
use Rattle.tree_walk.specs.internal.Pendings.{AreWanted, spots_of}
use Rattle.tree_walk.specs.Ranges.{range_of}
use Rattle.tree_walk.specs.Uses.{nodes_around}
use Rattle.tree_walk.proofs.GivenLevels.{ReadingLevel}
use Rattle.tree_walk.proofs.HonestLemmas.{HonestSoFar}
use Rattle.tree_walk.proofs.LevelFetches.{FetchingLevel}
use Rattle.tree_walk.proofs.SpotOrder.{IsOrderedUpTo}
use Rattle.tree_walk.proofs.descent.open_level.Given as goal

-- the nodes so far were fetched; those of their children that are opened are pending, and those that stay closed were
-- gathered
abbrev pub invariant-loop-node : goal.invariant-loop-node
invariant-loop-node g l = record {
  calls : l.tally.calls ≡ l.fn.tally.calls;
  stays : Stays g.S.Shelf.is_fixed (g.S.Shelf.holds l.fn.shelf) (g.S.Shelf.holds l.shelf);
  grows : (bytes : List ℕ) → g.S.Shelf.used l.fn.shelf bytes → g.S.Shelf.used l.shelf bytes;
  level : (low : Option (List ℕ)) × FetchingLevel l.level low (nodes_around g.S.Shelf.holds g.S.Shelf.used l.fn.shelf l.shelf) l.fn.tally.fetches l.tally.fetches (spots_of (drop l.node-index l.nodes))
      × IsOrderedUpTo low (spots_of l.pending.items);
  wanted : (top : List ℕ) → AreWanted (g.S.Shelf.used l.fn.shelf) (number_of l.way.tree) top l.level (spots_of l.nodes)
      → AreWanted (g.S.Shelf.used l.shelf) (number_of l.way.tree) top (l.level - 1) (spots_of l.pending.items);
  honest : HonestSoFar (λ (spot : Option (List ℕ) × Node). children_placed spot.0 (links_in spot.1)) (IsOpenChild g.G.Gather.closing (range_of l.way.range.now)) (number_of l.way.tree) l.level
      (spots_of l.nodes) (spots_of (drop l.node-index l.nodes)) (spots_of l.pending.items) (g.S.Shelf.used l.fn.shelf) (g.S.Shelf.used l.shelf);
  closed : (closed : List (Option (List ℕ) × Link)) × Gains g.G.Gather.gathers l.fn.gathered l.gathered closed []
      × HonestSoFar (λ (spot : Option (List ℕ) × Node). children_placed spot.0 (links_in spot.1)) (IsClosedChild g.G.Gather.closing (range_of l.way.range.now)) (number_of l.way.tree) l.level
      (spots_of l.nodes) (spots_of (drop l.node-index l.nodes)) closed (g.S.Shelf.used l.fn.shelf) (g.S.Shelf.used l.shelf);
  gives : (low : Option (List ℕ)) × (read : List (Option (List ℕ) × Node))
      × ReadingLevel (number_of l.way.tree) l.level (spots_of l.nodes) (g.S.Shelf.used l.fn.shelf) l.fn.tally.fetches low (g.S.Shelf.holds l.shelf) (g.S.Shelf.used l.shelf) l.tally.fetches (spots_of (drop l.node-index l.nodes)) read
      × AreThose (IsEntered (IsClosedChild g.G.Gather.closing (range_of l.way.range.now)) (range_of l.way.range.now)) (children_of_all read) (spots_of l.pending.items)
      × (closed : List (Option (List ℕ) × Link)) × AreThose (IsClosedChild g.G.Gather.closing (range_of l.way.range.now)) (children_of_all read) closed × Gains g.G.Gather.gathers l.fn.gathered l.gathered closed [];
}
