use Rattle.std.proofs.Common.{◌≡◌, length, take}
use Rattle.tree_build.specs.Rebuilding.{IsAmong, nodes_of}
use Rattle.tree_node.specs.Outcomes.{GrownByAll}
use Rattle.tree_node.specs.Stocks.{HasNode}
use Rattle.osm_index.proofs.node_changes.put_nodes.Given as goal

-- the nodes so far have been put
abbrev pub invariant-loop-node : goal.invariant-loop-node
invariant-loop-node l = record {
  count : l.number ≡ length l.yielded;
  front : l.yielded ≡ take (length l.yielded) l.fn.nodes.items;
  put : GrownByAll (HasNode l.fn.stock) (HasNode l.stock) (IsAmong (nodes_of l.yielded));
}
