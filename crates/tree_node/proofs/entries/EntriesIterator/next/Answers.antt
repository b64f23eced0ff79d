use Rattle.tree_node.proofs.HeldLemmas.{entries_begin}
use Rattle.tree_node.proofs.entries.EntriesIterator.next.Goals as goal

pub front-requires : goal.front-requires
front-requires c = entries_begin c.self.inside.count c.self.inside.rest.now c.self.inside.greatest.now c.if-self-eq0.false c.self.invariant
