use Rattle.std.proofs.Common.{rules, List, get_or, subst, ◌∙◌}
use Rattle.std.specs.Io.KnownBytes.{Appends}
use Rattle.tree_node.specs.declared.tree.Tree.TheVariants.{Objects}
use Rattle.pack_assembly.specs.internal.Placing.{row_bytes, rows_bytes}
use Rattle.pack_assembly.proofs.ReadyLemmas.{ready_on, row_among}
use Rattle.std.proofs.lemmas.List.{take_all}
use Rattle.std.proofs.lemmas.List.Elements.{Contains-get_or}
use Rattle.pack_assembly.specs.declared.layout.PlacedRow.{PlacedRow}
use Rattle.pack_assembly.proofs.WriteLemmas.{front_of_whole, one_more_written, part_written}
use Rattle.pack_assembly.proofs.pack.write_rows.Goals as goal

pub returns-clause-whole : goal.returns-clause-whole
returns-clause-whole g c = λ true p ready.
    subst (λ (l : List PlacedRow). Appends (g.W.Write.contents c.args.writer.now) (g.W.Write.contents c.loop-placed.writer) (rows_bytes p l))
    (take_all c.loop-placed.placed-index c.args.rows.now c.loop-placed-test.false) (c.loop-placed.invariant.1 true p ready)

pub returns-clause-begun : goal.returns-clause-begun
returns-clause-begun g c = λ true p ready.
    front_of_whole (g.W.Write.contents c.args.writer.now) (g.W.Write.contents c.loop-placed.writer) (rows_bytes p c.args.rows.now)
    (subst (λ (l : List PlacedRow). Appends (g.W.Write.contents c.args.writer.now) (g.W.Write.contents c.loop-placed.writer) (rows_bytes p l))
    (take_all c.loop-placed.placed-index c.args.rows.now c.loop-placed-test.false) (c.loop-placed.invariant.1 true p ready))

pub returns-in_err-write_row-clause-begun : goal.returns-in_err-write_row-clause-begun
returns-in_err-write_row-clause-begun g c = λ true p ready.
    let d : PlacedRow = record { row = record { tree = Objects; level = 0 }; at = 0 } in
    let now = ready_on p (g.L.NodeLevels.nodes c.args.levels.now) (g.L.NodeLevels.nodes c.loop-placed.levels) c.args.rows.now ready c.loop-placed.invariant.0 in
    let placed = get_or c.args.rows.now c.loop-placed.placed-index d in
    let among = row_among p (g.L.NodeLevels.nodes c.args.levels.now) c.args.rows.now ready placed (Contains-get_or c.args.rows.now c.loop-placed.placed-index d c.loop-placed-test.true) in
    part_written (λ (q : PlacedRow). row_bytes p q.row) c.args.rows.now c.loop-placed.placed-index d (g.W.Write.contents c.args.writer.now) (g.W.Write.contents c.loop-placed.writer) (g.W.Write.contents c.write_row.new.writer)
    c.loop-placed-test.true (c.loop-placed.invariant.1 true p ready) (c.write_row.ensures.begun true p now among)

pub loop-placed-preserved : goal.loop-placed-preserved
loop-placed-preserved g c = (
  c.in_ok-write_row.ensures.nodes ∙ c.loop-placed.invariant.0,
  λ true p ready.
      let d : PlacedRow = record { row = record { tree = Objects; level = 0 }; at = 0 } in
      let now = ready_on p (g.L.NodeLevels.nodes c.args.levels.now) (g.L.NodeLevels.nodes c.loop-placed.levels) c.args.rows.now ready c.loop-placed.invariant.0 in
      let placed = get_or c.args.rows.now c.loop-placed.placed-index d in
      let among = row_among p (g.L.NodeLevels.nodes c.args.levels.now) c.args.rows.now ready placed (Contains-get_or c.args.rows.now c.loop-placed.placed-index d c.loop-placed-test.true) in
      one_more_written (λ (q : PlacedRow). row_bytes p q.row) c.args.rows.now c.loop-placed.placed-index d (g.W.Write.contents c.args.writer.now) (g.W.Write.contents c.loop-placed.writer) (g.W.Write.contents c.write_row.new.writer)
      c.loop-placed-test.true (c.loop-placed.invariant.1 true p ready) (c.in_ok-write_row.ensures.whole true p now among),
)

pub returns-in_err-write_row-clause-device : goal.returns-in_err-write_row-clause-device
returns-in_err-write_row-clause-device g c = λ true refuses p ready told.
    let d : PlacedRow = record { row = record { tree = Objects; level = 0 }; at = 0 } in
    let now = ready_on p (g.L.NodeLevels.nodes c.args.levels.now) (g.L.NodeLevels.nodes c.loop-placed.levels) c.args.rows.now ready c.loop-placed.invariant.0 in
    let placed = get_or c.args.rows.now c.loop-placed.placed-index d in
    let among = row_among p (g.L.NodeLevels.nodes c.args.levels.now) c.args.rows.now ready placed (Contains-get_or c.args.rows.now c.loop-placed.placed-index d c.loop-placed-test.true) in
    c.in_err-write_row.ensures.device true refuses p now among (search rules)
