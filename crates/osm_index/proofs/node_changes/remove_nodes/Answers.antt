use Rattle.tree_node.specs.Stocks.{HasNode}
use Rattle.osm_index.proofs.NodeChangeLemmas.{removed_more}
use Rattle.osm_index.proofs.node_changes.remove_nodes.Goals as goal

pub loop-digest-preserved : goal.loop-digest-preserved
loop-digest-preserved c =
    removed_more (HasNode c.args.stock.now) (HasNode c.loop-digest.stock) (HasNode c.remove.new.self) c.args.digests.now c.loop-digest.digest-index _ c.loop-digest-test.true c.loop-digest.invariant c.remove.ensures
