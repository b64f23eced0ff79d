use Rattle.std.proofs.Common.{◌↔◌, ℕ, List, take}
use Rattle.tree_build.specs.Rebuilding.{IsAmong, digests_of}
use Rattle.tree_node.specs.Digests.{digest}
use Rattle.tree_node.specs.Stocks.{HasNode}
use Rattle.osm_index.proofs.node_changes.remove_nodes.Given as goal

-- what is left without the nodes of the digests so far
abbrev pub invariant-loop-digest : goal.invariant-loop-digest
invariant-loop-digest l =
    (bytes : List ℕ) → HasNode l.stock bytes ↔ (HasNode l.fn.stock bytes × ¬ IsAmong (digests_of (take l.digest-index l.digests)) (digest bytes))
