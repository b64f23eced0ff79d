use Rattle.std.proofs.Common.{inl, inr, subst, sym}
use Rattle.std.proofs.lemmas.Result.{IfOk-weaker}
use Rattle.osm_keys.specs.Ranges.{AreColumns}
use Rattle.osm_keys.specs.declared.columns.Columns.{Columns}
use Rattle.osm_keys.specs.internal.Cells.{columns_in, rows_in}
use Rattle.osm_keys.proofs.CellLemmas.{are_ranges, rows_kept}
use Rattle.osm_keys.proofs.Ids.{same_number}
use Rattle.osm_keys.proofs.cells.cell_ranges.Goals as goal
use Rattle.osm_keys.proofs.cells.cell_ranges.Goals.{then-crosses_meridian, else-crosses_meridian}

pub returns : goal.returns
returns c =
    let b = c.args.area.now in
    let edges = c.inside-edges.result in
    let are = c.inside-edges.ensures in
    let west_is = same_number edges.west are.west_few in
    let east_is = same_number edges.east are.east_few in
    let rows = rows_kept edges.south edges.north (rows_in c.between-rows.result) are.south_few are.north_few c.between-rows.ensures in
    let columns : AreColumns b edges.west edges.east (columns_in c.if-crosses_meridian.columns) = elim c.if-crosses_meridian.branch [
      | then-crosses_meridian w ↦ subst (λ (x : Columns). AreColumns b edges.west edges.east (columns_in x)) (sym w.columns-is)
          (inl (c.crosses_meridian.ensures.0 w.if-crosses_meridian.true, rw (west_is, east_is) at w.around-columns.ensures))
      | else-crosses_meridian w ↦ subst (λ (x : Columns). AreColumns b edges.west edges.east (columns_in x)) (sym w.columns-is)
          (inr ((λ crosses. let is = c.crosses_meridian.ensures.1 crosses in let is_not = w.if-crosses_meridian.false in cc), rw (west_is, east_is) at w.between-columns.ensures))
    ] in
    IfOk-weaker c.ranges_of.result _ _
    (λ ranges listed. are_ranges b edges are (rows_in c.between-rows.result) (columns_in c.if-crosses_meridian.columns) rows columns ranges.items listed)
    c.ranges_of.ensures
