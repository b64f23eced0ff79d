use Rattle.std.proofs.Common.{◌<◌, length, map, drop}
use Rattle.tree_node.specs.NodeRefs.{number_of}
use Rattle.tree_node.specs.Trees.{Two, ends_by}
use Rattle.tree_build.proofs.PendingLemmas.{IsCutting}
use Rattle.tree_build.proofs.open_piece.cut.Given as goal

-- what was made and is pending, with the items to come, is what all of them make
abbrev pub invariant-loop-item : goal.invariant-loop-item
invariant-loop-item g l = record {
  few : length l.pending.items < 64;
  cutting : IsCutting (λ xs. g.T.NodeItem.Fit (map g.T.NodeItem.meaning xs)) (ends_by Two g.T.Cut.marked) (λ piece. g.T.NodeItem.node_over (number_of l.tree) l.level (map g.T.NodeItem.meaning piece))
      l.fn.pending.items l.items l.fn.news.items l.news.items l.pending.items (drop l.item-index l.items);
}
