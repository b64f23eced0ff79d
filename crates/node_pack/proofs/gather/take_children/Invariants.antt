use Rattle.std.proofs.Common.{◌≡◌, ◌≤◌, ◌<◌, ◌++◌, ℕ, List, get_or}
use Rattle.tree_node.specs.Shelves.{Stays}
use Rattle.tree_node.specs.declared.digest.Digest.{Digest}
use Rattle.node_pack.specs.declared.gathered.Gathered.{Gathered}
use Rattle.node_pack.specs.internal.Gathering.{AreGathered, AreLow, IsFound, IsGathered, IsSeen, height_of, wanted_below}
use Rattle.node_pack.proofs.gather.take_children.Given as goal

-- the children so far are seen and found, and what was gathered is more than before
abbrev pub invariant-loop-child : goal.invariant-loop-child
invariant-loop-child g l = record {
  place : l.at ≡ l.child-index;
  stays : Stays g.S.Shelf.is_fixed (g.S.Shelf.holds l.initial.shelf) (g.S.Shelf.holds l.shelf);
  grows : (key : List ℕ) → IsSeen l.initial.seen key → IsSeen l.seen key;
  closed : (i : ℕ) (d : Digest) → i < l.child-index → IsSeen l.seen (get_or l.children i d).0 × IsFound (g.S.Shelf.holds l.shelf) (wanted_below l.node.role i) (get_or l.children i d).0;
  gathered : (root : List ℕ) (before : List Gathered) → IsGathered (g.S.Shelf.holds l.initial.shelf) root l.node → AreGathered (g.S.Shelf.holds l.initial.shelf) root l.initial.seen (before ++ l.initial.next.items)
      → AreGathered (g.S.Shelf.holds l.shelf) root l.seen (before ++ l.next.items);
  low : (root : List ℕ) (height : ℕ) → IsGathered (g.S.Shelf.holds l.initial.shelf) root l.node → height_of l.node.role ≤ height → AreLow height l.initial.next.items → AreLow height l.next.items;
}
