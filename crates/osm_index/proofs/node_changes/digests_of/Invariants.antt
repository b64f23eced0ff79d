use Rattle.std.proofs.Common.{◌≡◌, map, take}
use Rattle.osm_index.proofs.node_changes.digests_of.Given as goal

abbrev pub invariant-loop-node : goal.invariant-loop-node
invariant-loop-node l = l.digests.items ≡ map (λ node. node.digest) (take l.node-index l.nodes)
