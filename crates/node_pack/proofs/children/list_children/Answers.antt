use Rattle.node_pack.proofs.ChildLemmas.{listed, tops_are}
use Rattle.node_pack.proofs.children.list_children.Goals as goal

pub returns-in-Some : goal.returns-in-Some
returns-in-Some c = λ digests has.
    listed c.extend_from_slice.result c.extend_from_slice.new.self.items c.clear.new.self.items _ digests c.extend_from_slice.ensures.items c.clear.ensures.items
    (tops_are c.args.node.now c.in-Some.manifest digests c.in-Some.ensures.some c.in-Some.ensures.width has)
