use Rattle.tree_node.specs.Nodes.{Link}
use Rattle.tree_node.specs.NodeRefs.{link_of}
use Rattle.tree_build.proofs.FitLemmas.{last_is}
use Rattle.tree_build.proofs.inner.last_greatest.Goals as goal

pub returns-in-Some : goal.returns-in-Some
returns-in-Some c = let at = c.in-Some.ensures.item.3 in last_is (λ (l : Link). l.greatest) link_of c.args.children.now c.in-Some.child.now at.0 at.1
