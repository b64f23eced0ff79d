use Rattle.std.proofs.Common.{◌-◌, ◌++◌}
use Rattle.tree_node.specs.Shelves.{Stays}
use Rattle.node_pack.specs.declared.role.Wanted.TheVariants.{Root}
use Rattle.node_pack.specs.internal.Gathering.{AllClosed, AreGathered, AreLow, IsFound, IsSeen}
use Rattle.node_pack.proofs.gather.gather_levels.Given as goal

-- All is gathered down to a level. The children of the nodes of that level are to come.
abbrev pub invariant-loop-depth : goal.invariant-loop-depth
invariant-loop-depth g l = record {
  stays : Stays g.S.Shelf.is_fixed (g.S.Shelf.holds l.fn.shelf) (g.S.Shelf.holds l.shelf);
  are : AreGathered (g.S.Shelf.holds l.shelf) l.root.0 l.seen (l.nodes.items ++ l.level.items);
  closed : AllClosed (g.S.Shelf.holds l.shelf) (IsSeen l.seen) l.nodes.items;
  low : AreLow (65 - l.depth) l.level.items;
  rooted : IsSeen l.seen l.root.0;
  found : IsFound (g.S.Shelf.holds l.shelf) Root l.root.0;
}
