use Rattle.std.proofs.Common.{[]}
use Rattle.node_pack.proofs.WriteLemmas.{front_of_whole}
use Rattle.node_pack.proofs.TableLemmas.{table_begun, table_more, table_written}
use Rattle.node_pack.proofs.records.write_table.Goals as goal

pub returns-clause-whole : goal.returns-clause-whole
returns-clause-whole g c =
    table_written c.args.places.now c.args.children.now c.loop-child.child-index (g.W.Write.contents c.args.writer.now) (g.W.Write.contents c.loop-child.writer) c.loop-child-test.false c.loop-child.invariant

pub returns-clause-begun : goal.returns-clause-begun
returns-clause-begun g c =
    front_of_whole (g.W.Write.contents c.args.writer.now) (g.W.Write.contents c.loop-child.writer) _
    (table_written c.args.places.now c.args.children.now c.loop-child.child-index (g.W.Write.contents c.args.writer.now) (g.W.Write.contents c.loop-child.writer) c.loop-child-test.false c.loop-child.invariant)

pub returns-in_err-write_place-clause-begun : goal.returns-in_err-write_place-clause-begun
returns-in_err-write_place-clause-begun g c =
    table_begun c.args.places.now c.args.children.now c.loop-child.child-index (record { 0 = [] }) (g.W.Write.contents c.args.writer.now) (g.W.Write.contents c.loop-child.writer) (g.W.Write.contents c.write_place.new.writer)
    c.place_of.result c.loop-child-test.true c.place_of.ensures c.loop-child.invariant c.write_place.ensures.begun

pub loop-child-preserved : goal.loop-child-preserved
loop-child-preserved g c =
    table_more c.args.places.now c.args.children.now c.loop-child.child-index (record { 0 = [] }) (g.W.Write.contents c.args.writer.now) (g.W.Write.contents c.loop-child.writer) (g.W.Write.contents c.write_place.new.writer)
    c.place_of.result c.loop-child-test.true c.place_of.ensures c.loop-child.invariant c.in_ok-write_place.ensures.whole
