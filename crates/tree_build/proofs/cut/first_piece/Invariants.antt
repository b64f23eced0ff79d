use Rattle.std.proofs.Common.{◌≡◌, ◌<◌, take, drop}
use Rattle.tree_build.specs.Shapes.{shape_of}
use Rattle.tree_node.specs.Trees.{ends_by, pieces, pieces_from}
use Rattle.tree_build.proofs.cut.first_piece.Given as goal

-- no piece ended so far
abbrev pub invariant-loop-item : goal.invariant-loop-item
invariant-loop-item g l = record {
  count : l.len ≡ l.item-index;
  few : l.len < 64;
  going_on : pieces (ends_by (shape_of l.shape) g.T.Cut.marked) l.items ≡ pieces_from (ends_by (shape_of l.shape) g.T.Cut.marked) (take l.len l.items) (drop l.len l.items);
}
