use Rattle.outside_shelf.specs.declared.refused.Refused.TheVariants.{Other}
use Rattle.pack_compact.proofs.ReadLemmas.{other_read, record_of}
use Rattle.pack_compact.proofs.copy.read_node.Goals as goal

pub returns-then-ne-clause-ends : goal.returns-then-ne-clause-ends
returns-then-ne-clause-ends g c = λ known held at.
    other_read Other known c.args.key.now.0 c.in_ok-record.record c.node-node.result.now c.digest_of.result.0 c.ne.result c.digest_of.ensures c.ne.ensures c.if-ne.true c.node-node.ensures.given
    (record_of (g.F.ReadAt.reads c.args.files.now) known c.args.key.now.0 c.args.place c.in_ok-record.record held at c.in_ok-record.ensures.read)
