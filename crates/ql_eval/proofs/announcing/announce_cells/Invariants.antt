use Rattle.tree_node.specs.Shelves.{SameNodes, Stays}
use Rattle.ql_eval.proofs.announcing.announce_cells.Given as goal

abbrev pub invariant-loop-keys : goal.invariant-loop-keys
invariant-loop-keys g l = record {
  stays : Stays g.S.Shelf.is_fixed (g.S.Shelf.holds l.fn.shelf) (g.S.Shelf.holds l.shelf);
  used : SameNodes (g.S.Shelf.used l.fn.shelf) (g.S.Shelf.used l.shelf);
}
