use Rattle.std.proofs.Common.{◌≡◌, take, map, sum_by}
use Rattle.tree_node.specs.NodeRefs.{link_of}
use Rattle.tree_node.specs.Nodes.{Link}
use Rattle.tree_stream.proofs.level.entries_below.Given as goal

-- the sum so far
abbrev pub invariant-loop-child : goal.invariant-loop-child
invariant-loop-child l = l.number ≡ sum_by (λ (link : Link). link.number) (map link_of (take l.child-index l.children))
