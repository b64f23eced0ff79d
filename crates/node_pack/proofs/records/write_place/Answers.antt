use Rattle.node_pack.proofs.WriteLemmas.{one_begun, two_begun, two_written}
use Rattle.node_pack.proofs.records.write_place.Goals as goal

pub returns-in_err-write_whole-clause-begun : goal.returns-in_err-write_whole-clause-begun
returns-in_err-write_whole-clause-begun g c =
    one_begun (g.W.Write.contents c.args.writer.now) (g.W.Write.contents c.write_whole.new.writer) _ _ _ c.to_be_bytes.ensures c.write_whole.ensures.begun

pub returns-clause-whole : goal.returns-clause-whole
returns-clause-whole g c =
    two_written (g.W.Write.contents c.args.writer.now) (g.W.Write.contents c.write_whole.new.writer) (g.W.Write.contents c.write_whole-2.new.writer) _ _ _ _ c.to_be_bytes.ensures c.to_be_bytes-2.ensures
    c.write_whole-2.result c.in_ok-write_whole.ensures.whole c.write_whole-2.ensures.whole

pub returns-clause-begun : goal.returns-clause-begun
returns-clause-begun g c =
    two_begun (g.W.Write.contents c.args.writer.now) (g.W.Write.contents c.write_whole.new.writer) (g.W.Write.contents c.write_whole-2.new.writer) _ _ _ _ c.to_be_bytes.ensures c.to_be_bytes-2.ensures
    c.in_ok-write_whole.ensures.whole c.write_whole-2.ensures.begun
