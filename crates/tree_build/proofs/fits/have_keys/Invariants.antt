use Rattle.std.proofs.Common.{◌≤◌, drop, length}
use Rattle.tree_node.specs.NodeRefs.{links_of}
use Rattle.tree_node.specs.Nodes.{Link}
use Rattle.tree_build.proofs.FitChecks.{AllLeft}
use Rattle.tree_build.proofs.fits.have_keys.Given as goal

-- the keys so far are within the limit
abbrev pub invariant-loop-child : goal.invariant-loop-child
invariant-loop-child l = AllLeft (λ (link : Link). length link.greatest ≤ 8203) (links_of l.children) (links_of (drop l.child-index l.children))
