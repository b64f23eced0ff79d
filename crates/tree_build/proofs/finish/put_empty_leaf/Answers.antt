use Rattle.std.proofs.Common.{◌∙◌, ap, refl}
use Rattle.tree_node.specs.Digests.{digest}
use Rattle.tree_build.proofs.FoundLemmas.{gained_set}
use Rattle.tree_build.proofs.finish.put_empty_leaf.Goals as goal

pub returns : goal.returns
returns c = (
  c.in_ok-leaf.leaf.node.own ∙ ap digest c.in_ok-leaf.ensures.bytes,
  (
    c.in_ok-leaf.leaf,
    c.in_ok-leaf.ensures,
    gained_set c.in_ok-leaf.leaf c.args.edits.now.items c.index_mut.result.now (record { olds = c.index_mut.result.now.olds; news = c.push.new.self }) c.requires c.index_mut.ensures.value (refl, c.in_ok-push.ensures.items),
  ),
)
