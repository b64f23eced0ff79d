use Rattle.tree_node.specs.Nodes.{Binding}
use Rattle.tree_node.specs.NodeRefs.{binding_of}
use Rattle.tree_build.proofs.FitLemmas.{last_is}
use Rattle.tree_build.proofs.leaf.last_key.Goals as goal

pub returns-in-Some : goal.returns-in-Some
returns-in-Some c = let at = c.in-Some.ensures.item.3 in last_is (λ (e : Binding). e.key) binding_of c.args.entries.now c.in-Some.entry.now at.0 at.1
