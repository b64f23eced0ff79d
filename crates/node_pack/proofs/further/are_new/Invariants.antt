use Rattle.std.proofs.Common.{take}
use Rattle.node_pack.specs.Additions.{AreNew, bytes_of, earlier_place}
use Rattle.node_pack.proofs.further.are_new.Given as goal

-- the nodes so far are new
abbrev pub invariant-loop-node : goal.invariant-loop-node
invariant-loop-node g l = AreNew (earlier_place l.number l.known) (bytes_of (take l.node-index l.nodes))
