use Rattle.std.proofs.Common.{length}
use Rattle.tree_build.specs.Shapes.{shape_of}
use Rattle.tree_node.specs.NodeRefs.{bindings_of, links_of, number_of}
use Rattle.tree_node.specs.Stocks.{HasNode}
use Rattle.tree_build.proofs.BuildLemmas.{Rising}
use Rattle.tree_build.proofs.builder.build.Given as goal

-- the levels up to that of the children were put
abbrev pub invariant-loop-alloc : goal.invariant-loop-alloc
invariant-loop-alloc l = Rising (shape_of l.shape) (number_of l.tree) (bindings_of l.entries) l.level (links_of l.children.items) (HasNode l.fn.stock) (HasNode l.stock)

abbrev pub decreases-loop-alloc : goal.decreases-loop-alloc
decreases-loop-alloc l = length l.children.items
