use Rattle.node_pack.proofs.WriteLemmas.{front_of_whole}
use Rattle.node_pack.proofs.TableLemmas.{records_begun, records_more, records_written}
use Rattle.node_pack.proofs.records.write_records.Goals as goal

pub returns-clause-whole : goal.returns-clause-whole
returns-clause-whole g c =
    records_written c.args.places.now c.args.nodes.now c.loop-node.node-index (g.W.Write.contents c.args.writer.now) (g.W.Write.contents c.loop-node.writer) c.loop-node-test.false c.loop-node.invariant

pub returns-clause-begun : goal.returns-clause-begun
returns-clause-begun g c =
    front_of_whole (g.W.Write.contents c.args.writer.now) (g.W.Write.contents c.loop-node.writer) _
    (records_written c.args.places.now c.args.nodes.now c.loop-node.node-index (g.W.Write.contents c.args.writer.now) (g.W.Write.contents c.loop-node.writer) c.loop-node-test.false c.loop-node.invariant)

pub returns-in_err-write_record-clause-begun : goal.returns-in_err-write_record-clause-begun
returns-in_err-write_record-clause-begun g c =
    records_begun c.args.places.now c.args.nodes.now c.loop-node.node-index c.node-item.result c.node-item.result (g.W.Write.contents c.args.writer.now) (g.W.Write.contents c.loop-node.writer)
    (g.W.Write.contents c.write_record.new.writer) c.loop-node-test.true c.node-item.is c.loop-node.invariant c.write_record.ensures.begun

pub loop-node-preserved : goal.loop-node-preserved
loop-node-preserved g c =
    records_more c.args.places.now c.args.nodes.now c.loop-node.node-index c.node-item.result c.node-item.result (g.W.Write.contents c.args.writer.now) (g.W.Write.contents c.loop-node.writer)
    (g.W.Write.contents c.write_record.new.writer) c.loop-node-test.true c.node-item.is c.loop-node.invariant c.in_ok-write_record.ensures.whole
