use Rattle.std.proofs.Common.{◌≡◌, ℕ, List, Option, drop, []}
use Rattle.tree_node.specs.NodeRefs.{number_of}
use Rattle.tree_node.specs.Nodes.{Binding, Node}
use Rattle.tree_node.specs.Shelves.{Stays}
use Rattle.tree_node.specs.Trees.{entries_in}
use Rattle.tree_walk.specs.internal.Accounts.{Gains}
use Rattle.tree_walk.specs.internal.Pendings.{spots_of}
use Rattle.tree_walk.specs.Choices.{AreThose}
use Rattle.tree_walk.specs.Given.{entries_of_all}
use Rattle.tree_walk.specs.Ranges.{range_of}
use Rattle.tree_walk.specs.Walks.{IsEntryIn}
use Rattle.tree_walk.specs.Uses.{nodes_around}
use Rattle.tree_walk.proofs.GivenLevels.{ReadingLevel}
use Rattle.tree_walk.proofs.HonestLemmas.{HonestSoFar}
use Rattle.tree_walk.proofs.LevelFetches.{FetchingLevel}
use Rattle.tree_walk.proofs.descent.take_leaves.Given as goal

-- the leaves so far were fetched, and those of their entries that are in the range were gathered
abbrev pub invariant-loop-node : goal.invariant-loop-node
invariant-loop-node g l = record {
  calls : l.tally.calls ≡ l.fn.tally.calls;
  stays : Stays g.S.Shelf.is_fixed (g.S.Shelf.holds l.fn.shelf) (g.S.Shelf.holds l.shelf);
  grows : (bytes : List ℕ) → g.S.Shelf.used l.fn.shelf bytes → g.S.Shelf.used l.shelf bytes;
  level : (low : Option (List ℕ)) × FetchingLevel 0 low (nodes_around g.S.Shelf.holds g.S.Shelf.used l.fn.shelf l.shelf) l.fn.tally.fetches l.tally.fetches (spots_of (drop l.node-index l.nodes));
  honest : (those : List Binding) × Gains g.G.Gather.gathers l.fn.gathered l.gathered [] those
      × HonestSoFar (λ (spot : Option (List ℕ) × Node). entries_in spot.1) (IsEntryIn (range_of l.way.range.now)) (number_of l.way.tree) 0 (spots_of l.nodes) (spots_of (drop l.node-index l.nodes)) those
      (g.S.Shelf.used l.fn.shelf) (g.S.Shelf.used l.shelf);
  gives : (low : Option (List ℕ)) × (read : List (Option (List ℕ) × Node))
      × ReadingLevel (number_of l.way.tree) 0 (spots_of l.nodes) (g.S.Shelf.used l.fn.shelf) l.fn.tally.fetches low (g.S.Shelf.holds l.shelf) (g.S.Shelf.used l.shelf) l.tally.fetches (spots_of (drop l.node-index l.nodes)) read
      × (found : List Binding) × AreThose (IsEntryIn (range_of l.way.range.now)) (entries_of_all read) found × Gains g.G.Gather.gathers l.fn.gathered l.gathered [] found;
}
