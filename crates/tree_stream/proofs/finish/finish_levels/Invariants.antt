use Rattle.std.proofs.Common.{List, ◌-◌}
use Rattle.tree_build.specs.Shapes.{shape_of}
use Rattle.tree_node.specs.NodeRefs.{number_of}
use Rattle.tree_node.specs.Nodes.{Binding}
use Rattle.tree_stream.specs.internal.Finishing.{IsWhole}
use Rattle.tree_stream.proofs.finish.finish_levels.Given as goal

-- the levels up to this one are written
abbrev pub invariant-loop-digest : goal.invariant-loop-digest
invariant-loop-digest g l = (entries : List Binding)
    → IsWhole (shape_of l.shape) (number_of l.tree) entries 0 l.last l.fn.levels.items (g.W.NodeWriter.given l.fn.writer)
    → IsWhole (shape_of l.shape) (number_of l.tree) entries l.at l.last l.levels.items (g.W.NodeWriter.given l.writer)

-- no node is above level 30
abbrev pub decreases-loop-digest : goal.decreases-loop-digest
decreases-loop-digest g l = 30 - l.at
