use Rattle.std.proofs.Common.{rules, ◌++◌, ℕ, List, ap, subst}
use Rattle.std.specs.Io.KnownBytes.{Appends}
use Rattle.std.proofs.KnownBytes.{Appends-trans}
use Rattle.byte_io.specs.Written.{AppendsFront}
use Rattle.pack_assembly.specs.internal.Placing.{rest_of, rows_bytes, tops_table}
use Rattle.pack_assembly.proofs.LevelLemmas.{on_ok}
use Rattle.pack_assembly.proofs.ReadyLemmas.{ready_on}
use Rattle.pack_assembly.specs.declared.layout.PlacedRow.{PlacedRow}
use Rattle.pack_assembly.proofs.WriteLemmas.{front_of_both, front_of_first}
use Rattle.pack_assembly.proofs.pack.write_parts.Goals as goal

pub returns-in_err-write_whole-clause-begun : goal.returns-in_err-write_whole-clause-begun
returns-in_err-write_whole-clause-begun g c = λ true p ready heights.
    front_of_first (g.W.Write.contents c.args.writer.now) (g.W.Write.contents c.write_whole.new.writer) c.args.front.now (rest_of p) c.write_whole.ensures.begun

pub returns-in_err-write_tops-clause-begun : goal.returns-in_err-write_tops-clause-begun
returns-in_err-write_tops-clause-begun g c = λ true p ready heights.
    front_of_both (g.W.Write.contents c.args.writer.now) (g.W.Write.contents c.write_whole.new.writer) (g.W.Write.contents c.write_tops.new.writer) c.args.front.now (rest_of p) c.in_ok-write_whole.ensures.whole
    (front_of_first (g.W.Write.contents c.write_whole.new.writer) (g.W.Write.contents c.write_tops.new.writer) (tops_table p) _ (c.write_tops.ensures.begun true p ready heights))

pub returns-clause-whole : goal.returns-clause-whole
returns-clause-whole g c = λ true p ready heights.
    let now = ready_on p (g.L.NodeLevels.nodes c.args.levels.now) (g.L.NodeLevels.nodes c.write_tops.new.levels) c.args.rows.now ready c.in_ok-write_tops.ensures.nodes in
    let first = c.in_ok-write_whole.ensures.whole in
    let second = c.in_ok-write_tops.ensures.whole true p ready heights in
    let same = ap (λ (rs : List PlacedRow). tops_table p ++ rows_bytes p rs) ready.rows_are in
    on_ok c.write_rows.result (c.write_rows.ensures.whole true p now) (λ third.
    subst (λ (rest : List ℕ). Appends (g.W.Write.contents c.args.writer.now) (g.W.Write.contents c.write_rows.new.writer) (c.args.front.now ++ rest)) same
    (Appends-trans (g.W.Write.contents c.args.writer.now) (g.W.Write.contents c.write_whole.new.writer) (g.W.Write.contents c.write_rows.new.writer) c.args.front.now (tops_table p ++ rows_bytes p c.args.rows.now) first
    (Appends-trans (g.W.Write.contents c.write_whole.new.writer) (g.W.Write.contents c.write_tops.new.writer) (g.W.Write.contents c.write_rows.new.writer) (tops_table p) (rows_bytes p c.args.rows.now) second third)))

pub returns-clause-begun : goal.returns-clause-begun
returns-clause-begun g c = λ true p ready heights.
    let now = ready_on p (g.L.NodeLevels.nodes c.args.levels.now) (g.L.NodeLevels.nodes c.write_tops.new.levels) c.args.rows.now ready c.in_ok-write_tops.ensures.nodes in
    let first = c.in_ok-write_whole.ensures.whole in
    let second = c.in_ok-write_tops.ensures.whole true p ready heights in
    let same = ap (λ (rs : List PlacedRow). tops_table p ++ rows_bytes p rs) ready.rows_are in
    subst (λ (rest : List ℕ). AppendsFront (g.W.Write.contents c.args.writer.now) (g.W.Write.contents c.write_rows.new.writer) (c.args.front.now ++ rest)) same
    (front_of_both (g.W.Write.contents c.args.writer.now) (g.W.Write.contents c.write_whole.new.writer) (g.W.Write.contents c.write_rows.new.writer) c.args.front.now (tops_table p ++ rows_bytes p c.args.rows.now) first
    (front_of_both (g.W.Write.contents c.write_whole.new.writer) (g.W.Write.contents c.write_tops.new.writer) (g.W.Write.contents c.write_rows.new.writer) (tops_table p) (rows_bytes p c.args.rows.now) second (c.write_rows.ensures.begun true p now)))

pub returns-in_err-write_tops-clause-device : goal.returns-in_err-write_tops-clause-device
returns-in_err-write_tops-clause-device g c = λ true refuses p ready heights told. c.in_err-write_tops.ensures.device true refuses p ready heights (search rules)

pub returns-clause-device : goal.returns-clause-device
returns-clause-device g c = λ true refuses p ready heights.
    c.write_rows.ensures.device true refuses p (ready_on p (g.L.NodeLevels.nodes c.args.levels.now) (g.L.NodeLevels.nodes c.write_tops.new.levels) c.args.rows.now ready c.in_ok-write_tops.ensures.nodes)
