use Rattle.tree_node.specs.NodeRefs.{node_read}
use Rattle.tree_node.specs.Nodes.{level_of}
use Rattle.tree_node.specs.Shelves.{Stays}
use Rattle.tree_build.specs.internal.Edits.{IsOldNode}
use Rattle.tree_build.proofs.SeekStates.{SeekState}
use Rattle.tree_build.proofs.seek.seek.Given as goal

-- the node in hand is the sought one of its level
abbrev pub invariant-loop-found : goal.invariant-loop-found
invariant-loop-found g l = record {
  stays : Stays g.S.Shelf.is_fixed (g.S.Shelf.holds l.fn.shelf) (g.S.Shelf.holds l.shelf);
  state : SeekState (g.S.Shelf.used l.fn.shelf) l.top.0 l.level l.wanted l.above (g.S.Shelf.used l.shelf) (node_read l.found.node) l.last;
  old : IsOldNode l.found.old (node_read l.found.node);
}

abbrev pub decreases-loop-found : goal.decreases-loop-found
decreases-loop-found g l = level_of (node_read l.found.node)
