use Rattle.std.proofs.Common.{◌≤◌, ◌-◌, length, drop}
use Rattle.tree_build.specs.Shapes.{shape_of}
use Rattle.tree_node.specs.NodeRefs.{bindings_of, links_of, number_of}
use Rattle.tree_node.specs.Stocks.{HasNode}
use Rattle.tree_node.specs.Trees.{leaves}
use Rattle.tree_build.proofs.StockLemmas.{Underway}
use Rattle.tree_build.proofs.leaf.put_leaves.Given as goal

-- the leaves over the entries in front were put
abbrev pub invariant-loop-children : goal.invariant-loop-children
invariant-loop-children l = record {
  within : l.start ≤ length l.entries;
  so_far : Underway (HasNode l.fn.stock) (HasNode l.stock) (links_of l.children.items) (leaves (shape_of l.shape) (number_of l.tree) (bindings_of l.entries))
      (leaves (shape_of l.shape) (number_of l.tree) (bindings_of (drop l.start l.entries)));
}

abbrev pub decreases-loop-children : goal.decreases-loop-children
decreases-loop-children l = length l.entries - l.start
