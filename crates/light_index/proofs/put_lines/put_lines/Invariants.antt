use Rattle.std.proofs.Common.{◌≡◌, length, take}
use Rattle.light_index.proofs.put_lines.put_lines.Given as goal
use Rattle.tree_build.specs.Rebuilding.{IsAmong, nodes_of}
use Rattle.tree_node.specs.Outcomes.{GrownByAll}
use Rattle.tree_node.specs.Stocks.{HasNode}

-- the lines so far have been put
abbrev pub invariant-loop-line : goal.invariant-loop-line
invariant-loop-line l = record {
  front : l.yielded ≡ take (length l.yielded) l.fn.lines.items;
  put : GrownByAll (HasNode l.fn.stock) (HasNode l.stock) (IsAmong (nodes_of l.yielded));
}
