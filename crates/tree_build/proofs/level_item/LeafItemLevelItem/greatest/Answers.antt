use Rattle.tree_node.specs.Nodes.{Binding}
use Rattle.tree_build.specs.internal.LeafItems.{entry_of}
use Rattle.tree_build.proofs.FitLemmas.{last_is}
use Rattle.tree_build.proofs.level_item.LeafItemLevelItem.greatest.Goals as goal

pub returns-in-Some : goal.returns-in-Some
returns-in-Some c = λ tree level. let at = c.in-Some.ensures.item.3 in last_is (λ (e : Binding). e.key) entry_of c.args.items.now c.in-Some.item.now at.0 at.1
