use Rattle.std.proofs.Common.{List, ap}
use Rattle.tree_node.specs.declared.digest.Digest.{Digest}
use Rattle.node_pack.specs.Packs.{digests_of, table}
use Rattle.node_pack.specs.internal.Gathering.{place_by}
use Rattle.node_pack.proofs.WriteLemmas.{one_begun, second_begun, three_begun, three_written}
use Rattle.node_pack.proofs.records.write_record.Goals as goal

pub returns-in_err-write_whole-clause-begun : goal.returns-in_err-write_whole-clause-begun
returns-in_err-write_whole-clause-begun g c =
    one_begun (g.W.Write.contents c.args.writer.now) (g.W.Write.contents c.write_whole.new.writer) _ _ _ c.to_be_bytes.ensures c.write_whole.ensures.begun

pub returns-in_err-write_whole-2-clause-begun : goal.returns-in_err-write_whole-2-clause-begun
returns-in_err-write_whole-2-clause-begun g c =
    second_begun (g.W.Write.contents c.args.writer.now) (g.W.Write.contents c.write_whole.new.writer) (g.W.Write.contents c.write_whole-2.new.writer) _ _ c.args.node.now.bytes.now _ c.to_be_bytes.ensures
    c.in_ok-write_whole.ensures.whole c.write_whole-2.ensures.begun

pub returns-clause-whole : goal.returns-clause-whole
returns-clause-whole g c =
    three_written (g.W.Write.contents c.args.writer.now) (g.W.Write.contents c.write_whole.new.writer) (g.W.Write.contents c.write_whole-2.new.writer) (g.W.Write.contents c.write_table.new.writer) _ _ c.args.node.now.bytes.now _ _
    c.to_be_bytes.ensures (ap (λ (l : List Digest). table (place_by c.args.places.now) (digests_of l)) c.as_slice.ensures.value) c.write_table.result c.in_ok-write_whole.ensures.whole c.in_ok-write_whole-2.ensures.whole c.write_table.ensures.whole

pub returns-clause-begun : goal.returns-clause-begun
returns-clause-begun g c =
    three_begun (g.W.Write.contents c.args.writer.now) (g.W.Write.contents c.write_whole.new.writer) (g.W.Write.contents c.write_whole-2.new.writer) (g.W.Write.contents c.write_table.new.writer) _ _ c.args.node.now.bytes.now _ _
    c.to_be_bytes.ensures (ap (λ (l : List Digest). table (place_by c.args.places.now) (digests_of l)) c.as_slice.ensures.value) c.in_ok-write_whole.ensures.whole c.in_ok-write_whole-2.ensures.whole c.write_table.ensures.begun
