use Rattle.std.proofs.Common.{◌<◌, ◌++◌, ℕ, suc, List, get_or}
use Rattle.tree_node.specs.Shelves.{Stays}
use Rattle.node_pack.specs.declared.gathered.Gathered.{Gathered}
use Rattle.node_pack.specs.internal.Gathering.{AllGathered, AreGathered, AreLow, IsClosed, IsSeen}
use Rattle.node_pack.proofs.gather.take_level.Given as goal

-- the nodes so far are closed, and what was gathered is more than before
abbrev pub invariant-loop-node : goal.invariant-loop-node
invariant-loop-node g l = record {
  stays : Stays g.S.Shelf.is_fixed (g.S.Shelf.holds l.initial.shelf) (g.S.Shelf.holds l.shelf);
  grows : (key : List ℕ) → IsSeen l.initial.seen key → IsSeen l.seen key;
  closed : (i : ℕ) (d : Gathered) → i < l.node-index → IsClosed (g.S.Shelf.holds l.shelf) (IsSeen l.seen) (get_or l.level i d);
  gathered : (root : List ℕ) (before : List Gathered) → AllGathered (g.S.Shelf.holds l.initial.shelf) root l.level → AreGathered (g.S.Shelf.holds l.initial.shelf) root l.initial.seen (before ++ l.initial.next.items)
      → AreGathered (g.S.Shelf.holds l.shelf) root l.seen (before ++ l.next.items);
  low : (root : List ℕ) (height : ℕ) → AllGathered (g.S.Shelf.holds l.initial.shelf) root l.level → AreLow (suc height) l.level → AreLow height l.initial.next.items → AreLow height l.next.items;
}
