use Rattle.std.proofs.Common.{map}
use Rattle.tree_node.specs.Trees.{FitsTree}
use Rattle.tree_build.specs.internal.FitLaws.{entries_parts}
use Rattle.tree_build.specs.internal.LeafItems.{entry_of}
use Rattle.tree_build.proofs.ChangeLemmas.{all_append}
use Rattle.tree_build.proofs.level_item.LeafItemNodeItem.fit.Goals as goal

pub returns-then-all_fit : goal.returns-then-all_fit
returns-then-all_fit c = (
  (λ yes. all_append FitsTree (map entry_of c.args.before.now) (map entry_of c.args.items.now) (c.all_fit.ensures.0 c.if-all_fit.true) (c.all_fit-then-all_fit.ensures.0 yes)),
  (λ all. c.all_fit-then-all_fit.ensures.1 (entries_parts (map entry_of c.args.before.now) (map entry_of c.args.items.now) all).1),
)

pub returns-else-all_fit : goal.returns-else-all_fit
returns-else-all_fit c = (
  (λ yes. absurd (let no = c.if-all_fit.false in cc)),
  (λ all. c.all_fit.ensures.1 (entries_parts (map entry_of c.args.before.now) (map entry_of c.args.items.now) all).0),
)
