use Rattle.std.proofs.Common.{subst}
use Rattle.byte_io.specs.Written.{AppendsFront}
use Rattle.osm_commands.proofs.DocumentLemmas.{front_of_both, front_of_first}
use Rattle.osm_commands.proofs.document_writer.write_parts.Goals as goal

pub returns-in_err-write_whole-2-clause-begun : goal.returns-in_err-write_whole-2-clause-begun
returns-in_err-write_whole-2-clause-begun g c =
    let old = g.W.Write.contents c.args.writer.now in
    let new = g.W.Write.contents c.write_whole-2.new.writer in
    subst (AppendsFront old new) c.document_parts-parts.ensures
    (front_of_both old (g.W.Write.contents c.write_whole.new.writer) new _ _ c.in_ok-write_whole.ensures.whole
    (front_of_first (g.W.Write.contents c.write_whole.new.writer) new _ _ c.in_err-write_whole-2.ensures.begun))

pub returns-clause-begun : goal.returns-clause-begun
returns-clause-begun g c =
    let old = g.W.Write.contents c.args.writer.now in
    let new = g.W.Write.contents c.write_whole-3.new.writer in
    subst (AppendsFront old new) c.document_parts-parts.ensures
    (front_of_both old (g.W.Write.contents c.write_whole.new.writer) new _ _ c.in_ok-write_whole.ensures.whole
    (front_of_both (g.W.Write.contents c.write_whole.new.writer) (g.W.Write.contents c.write_whole-2.new.writer) new _ _ c.in_ok-write_whole-2.ensures.whole c.write_whole-3.ensures.begun))
