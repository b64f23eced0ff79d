use Rattle.std.proofs.Common.{◌≤◌, ◌-◌, length, drop, map}
use Rattle.tree_build.specs.Shapes.{shape_of}
use Rattle.tree_node.specs.Nodes.{Inner}
use Rattle.tree_node.specs.NodeRefs.{links_of, number_of}
use Rattle.tree_node.specs.Stocks.{HasNode}
use Rattle.tree_node.specs.Trees.{ends_by, is_marked_link, one_at_least, pieces}
use Rattle.tree_build.proofs.StockLemmas.{Underway}
use Rattle.tree_build.proofs.inner.put_level.Given as goal

-- the nodes over the children in front were put
abbrev pub invariant-loop-parents : goal.invariant-loop-parents
invariant-loop-parents l = record {
  within : l.start ≤ length l.children;
  so_far : Underway (HasNode l.fn.stock) (HasNode l.stock) (links_of l.parents.items)
      (map (Inner (number_of l.tree) l.level) (one_at_least (pieces (ends_by (shape_of l.shape) is_marked_link) (links_of l.children))))
      (map (Inner (number_of l.tree) l.level) (one_at_least (pieces (ends_by (shape_of l.shape) is_marked_link) (links_of (drop l.start l.children)))));
}

abbrev pub decreases-loop-parents : goal.decreases-loop-parents
decreases-loop-parents l = length l.children - l.start
