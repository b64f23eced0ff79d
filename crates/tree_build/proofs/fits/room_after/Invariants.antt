use Rattle.std.proofs.Common.{drop}
use Rattle.tree_node.specs.NodeRefs.{links_of}
use Rattle.tree_node.specs.Nodes.{Link}
use Rattle.tree_build.proofs.FitChecks.{RoomLeft}
use Rattle.tree_build.proofs.fits.room_after.Given as goal

-- so much is left after the children so far
abbrev pub invariant-loop-child : goal.invariant-loop-child
invariant-loop-child l = RoomLeft (λ (link : Link). link.number) l.room (links_of l.children) l.left (links_of (drop l.child-index l.children))
