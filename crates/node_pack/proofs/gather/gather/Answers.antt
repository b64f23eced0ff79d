use Rattle.node_pack.proofs.WholeLemmas.{whole_permuted}
use Rattle.node_pack.proofs.gather.gather.Goals as goal

pub returns-clause-whole : goal.returns-clause-whole
returns-clause-whole g c =
    whole_permuted c.in_ok-nodes.nodes.items c.sort_by_key.new.self.items c.sort_by_key.ensures.permutation (g.S.Shelf.holds c.gather_levels.new.shelf) c.args.root.now.0 c.in_ok-nodes.ensures.whole
