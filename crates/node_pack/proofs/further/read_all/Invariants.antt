use Rattle.std.proofs.Common.{take}
use Rattle.node_pack.specs.Additions.{bytes_of}
use Rattle.node_pack.specs.internal.Laying.{AreFit}
use Rattle.node_pack.proofs.further.read_all.Given as goal

-- the nodes so far
abbrev pub invariant-loop-node : goal.invariant-loop-node
invariant-loop-node l = AreFit (bytes_of (take l.node-index l.nodes)) l.read.items
