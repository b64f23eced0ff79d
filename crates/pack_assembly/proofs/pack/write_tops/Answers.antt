use Rattle.std.proofs.Common.{rules, ◌++◌}
use Rattle.std.proofs.KnownBytes.{Appends-trans}
use Rattle.tree_node.specs.declared.tree.Tree.TheVariants.{Backs, Cells, Objects, Tags}
use Rattle.pack_assembly.specs.internal.Placing.{top_table}
use Rattle.pack_assembly.proofs.LevelLemmas.{on_ok}
use Rattle.pack_assembly.proofs.ReadyLemmas.{ready_on}
use Rattle.pack_assembly.proofs.WriteLemmas.{front_of_both, front_of_first}
use Rattle.pack_assembly.proofs.pack.write_tops.Goals as goal

pub returns-in_err-write_top-clause-begun : goal.returns-in_err-write_top-clause-begun
returns-in_err-write_top-clause-begun g c = λ true p ready heights.
    let r1 = ready in
    (front_of_first (g.W.Write.contents c.args.writer.now) (g.W.Write.contents c.write_top.new.writer) (top_table p Objects) (top_table p Tags ++ (top_table p Cells ++ top_table p Backs)) (c.write_top.ensures.begun true p r1 heights))

pub returns-in_err-write_top-2-clause-begun : goal.returns-in_err-write_top-2-clause-begun
returns-in_err-write_top-2-clause-begun g c = λ true p ready heights.
    let r1 = ready in
    let r2 = ready_on p (g.L.NodeLevels.nodes c.args.levels.now) (g.L.NodeLevels.nodes c.write_top.new.levels) c.args.rows.now r1 c.in_ok-write_top.ensures.nodes in
    let w1 = c.in_ok-write_top.ensures.whole true p r1 heights in
    (front_of_both (g.W.Write.contents c.args.writer.now) (g.W.Write.contents c.write_top.new.writer) (g.W.Write.contents c.write_top-2.new.writer) (top_table p Objects) (top_table p Tags ++ (top_table p Cells ++ top_table p Backs)) w1 (front_of_first (g.W.Write.contents c.write_top.new.writer) (g.W.Write.contents c.write_top-2.new.writer) (top_table p Tags) (top_table p Cells ++ top_table p Backs) (c.write_top-2.ensures.begun true p r2 heights)))

pub returns-in_err-write_top-3-clause-begun : goal.returns-in_err-write_top-3-clause-begun
returns-in_err-write_top-3-clause-begun g c = λ true p ready heights.
    let r1 = ready in
    let r2 = ready_on p (g.L.NodeLevels.nodes c.args.levels.now) (g.L.NodeLevels.nodes c.write_top.new.levels) c.args.rows.now r1 c.in_ok-write_top.ensures.nodes in
    let w1 = c.in_ok-write_top.ensures.whole true p r1 heights in
    let r3 = ready_on p (g.L.NodeLevels.nodes c.write_top.new.levels) (g.L.NodeLevels.nodes c.write_top-2.new.levels) c.args.rows.now r2 c.in_ok-write_top-2.ensures.nodes in
    let w2 = c.in_ok-write_top-2.ensures.whole true p r2 heights in
    (front_of_both (g.W.Write.contents c.args.writer.now) (g.W.Write.contents c.write_top.new.writer) (g.W.Write.contents c.write_top-3.new.writer) (top_table p Objects) (top_table p Tags ++ (top_table p Cells ++ top_table p Backs)) w1 (front_of_both (g.W.Write.contents c.write_top.new.writer) (g.W.Write.contents c.write_top-2.new.writer) (g.W.Write.contents c.write_top-3.new.writer) (top_table p Tags) (top_table p Cells ++ top_table p Backs) w2 (front_of_first (g.W.Write.contents c.write_top-2.new.writer) (g.W.Write.contents c.write_top-3.new.writer) (top_table p Cells) (top_table p Backs) (c.write_top-3.ensures.begun true p r3 heights))))

pub returns-clause-begun : goal.returns-clause-begun
returns-clause-begun g c = λ true p ready heights.
    let r1 = ready in
    let r2 = ready_on p (g.L.NodeLevels.nodes c.args.levels.now) (g.L.NodeLevels.nodes c.write_top.new.levels) c.args.rows.now r1 c.in_ok-write_top.ensures.nodes in
    let w1 = c.in_ok-write_top.ensures.whole true p r1 heights in
    let r3 = ready_on p (g.L.NodeLevels.nodes c.write_top.new.levels) (g.L.NodeLevels.nodes c.write_top-2.new.levels) c.args.rows.now r2 c.in_ok-write_top-2.ensures.nodes in
    let w2 = c.in_ok-write_top-2.ensures.whole true p r2 heights in
    let r4 = ready_on p (g.L.NodeLevels.nodes c.write_top-2.new.levels) (g.L.NodeLevels.nodes c.write_top-3.new.levels) c.args.rows.now r3 c.in_ok-write_top-3.ensures.nodes in
    let w3 = c.in_ok-write_top-3.ensures.whole true p r3 heights in
    (front_of_both (g.W.Write.contents c.args.writer.now) (g.W.Write.contents c.write_top.new.writer) (g.W.Write.contents c.write_top-4.new.writer) (top_table p Objects) (top_table p Tags ++ (top_table p Cells ++ top_table p Backs)) w1 (front_of_both (g.W.Write.contents c.write_top.new.writer) (g.W.Write.contents c.write_top-2.new.writer) (g.W.Write.contents c.write_top-4.new.writer) (top_table p Tags) (top_table p Cells ++ top_table p Backs) w2 (front_of_both (g.W.Write.contents c.write_top-2.new.writer) (g.W.Write.contents c.write_top-3.new.writer) (g.W.Write.contents c.write_top-4.new.writer) (top_table p Cells) (top_table p Backs) w3 (c.write_top-4.ensures.begun true p r4 heights))))

pub returns-clause-whole : goal.returns-clause-whole
returns-clause-whole g c = λ true p ready heights.
    let r1 = ready in
    let r2 = ready_on p (g.L.NodeLevels.nodes c.args.levels.now) (g.L.NodeLevels.nodes c.write_top.new.levels) c.args.rows.now r1 c.in_ok-write_top.ensures.nodes in
    let w1 = c.in_ok-write_top.ensures.whole true p r1 heights in
    let r3 = ready_on p (g.L.NodeLevels.nodes c.write_top.new.levels) (g.L.NodeLevels.nodes c.write_top-2.new.levels) c.args.rows.now r2 c.in_ok-write_top-2.ensures.nodes in
    let w2 = c.in_ok-write_top-2.ensures.whole true p r2 heights in
    let r4 = ready_on p (g.L.NodeLevels.nodes c.write_top-2.new.levels) (g.L.NodeLevels.nodes c.write_top-3.new.levels) c.args.rows.now r3 c.in_ok-write_top-3.ensures.nodes in
    let w3 = c.in_ok-write_top-3.ensures.whole true p r3 heights in
    on_ok c.write_top-4.result (c.write_top-4.ensures.whole true p r4 heights) (λ w4. (Appends-trans (g.W.Write.contents c.args.writer.now) (g.W.Write.contents c.write_top.new.writer) (g.W.Write.contents c.write_top-4.new.writer) (top_table p Objects) (top_table p Tags ++ (top_table p Cells ++ top_table p Backs)) w1 (Appends-trans (g.W.Write.contents c.write_top.new.writer) (g.W.Write.contents c.write_top-2.new.writer) (g.W.Write.contents c.write_top-4.new.writer) (top_table p Tags) (top_table p Cells ++ top_table p Backs) w2 (Appends-trans (g.W.Write.contents c.write_top-2.new.writer) (g.W.Write.contents c.write_top-3.new.writer) (g.W.Write.contents c.write_top-4.new.writer) (top_table p Cells) (top_table p Backs) w3 w4))))

pub returns-in_err-write_top-clause-device : goal.returns-in_err-write_top-clause-device
returns-in_err-write_top-clause-device g c = λ true refuses p ready heights told.
    let r1 = ready in
    c.in_err-write_top.ensures.device true refuses p r1 heights (search rules)

pub returns-in_err-write_top-2-clause-device : goal.returns-in_err-write_top-2-clause-device
returns-in_err-write_top-2-clause-device g c = λ true refuses p ready heights told.
    let r1 = ready in
    let r2 = ready_on p (g.L.NodeLevels.nodes c.args.levels.now) (g.L.NodeLevels.nodes c.write_top.new.levels) c.args.rows.now r1 c.in_ok-write_top.ensures.nodes in
    c.in_err-write_top-2.ensures.device true refuses p r2 heights (search rules)

pub returns-in_err-write_top-3-clause-device : goal.returns-in_err-write_top-3-clause-device
returns-in_err-write_top-3-clause-device g c = λ true refuses p ready heights told.
    let r1 = ready in
    let r2 = ready_on p (g.L.NodeLevels.nodes c.args.levels.now) (g.L.NodeLevels.nodes c.write_top.new.levels) c.args.rows.now r1 c.in_ok-write_top.ensures.nodes in
    let r3 = ready_on p (g.L.NodeLevels.nodes c.write_top.new.levels) (g.L.NodeLevels.nodes c.write_top-2.new.levels) c.args.rows.now r2 c.in_ok-write_top-2.ensures.nodes in
    c.in_err-write_top-3.ensures.device true refuses p r3 heights (search rules)

pub returns-clause-device : goal.returns-clause-device
returns-clause-device g c = λ true refuses p ready heights.
    let r1 = ready in
    let r2 = ready_on p (g.L.NodeLevels.nodes c.args.levels.now) (g.L.NodeLevels.nodes c.write_top.new.levels) c.args.rows.now r1 c.in_ok-write_top.ensures.nodes in
    let r3 = ready_on p (g.L.NodeLevels.nodes c.write_top.new.levels) (g.L.NodeLevels.nodes c.write_top-2.new.levels) c.args.rows.now r2 c.in_ok-write_top-2.ensures.nodes in
    let r4 = ready_on p (g.L.NodeLevels.nodes c.write_top-2.new.levels) (g.L.NodeLevels.nodes c.write_top-3.new.levels) c.args.rows.now r3 c.in_ok-write_top-3.ensures.nodes in
    c.write_top-4.ensures.device true refuses p r4 heights
