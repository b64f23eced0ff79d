use Rattle.std.proofs.Common.{inl, inr, refl, subst, sym}
use Rattle.osm_keys.specs.FineRanges.{AreFineColumns}
use Rattle.light_keys.specs.declared.fine_columns.FineColumns.{FineColumns}
use Rattle.light_keys.specs.internal.FineCells.{columns_in, rows_in}
use Rattle.light_keys.proofs.RangeSteps.{are_ranges, rows_kept}
use Rattle.osm_keys.proofs.Ids.{same_number}
use Rattle.light_keys.proofs.fine_ranges.FineRanges.of.Goals as goal
use Rattle.light_keys.proofs.fine_ranges.FineRanges.of.Goals.{then-crosses_meridian, else-crosses_meridian}

pub returns : goal.returns
returns c =
    let b = c.args.area.now in
    let edges = c.inside-edges.result in
    let are = c.inside-edges.ensures in
    let west_is = same_number edges.west are.west_few in
    let east_is = same_number edges.east are.east_few in
    let rows = rows_kept edges.south edges.north (rows_in c.between-rows.result) are.south_few are.north_few c.between-rows.ensures in
    let columns : AreFineColumns b edges.west edges.east (columns_in c.if-crosses_meridian.columns) = elim c.if-crosses_meridian.branch [
      | then-crosses_meridian w ↦ subst (λ (x : FineColumns). AreFineColumns b edges.west edges.east (columns_in x)) (sym w.columns-is)
          (inl (c.crosses_meridian.ensures.0 w.if-crosses_meridian.true, rw (west_is, east_is) at w.around-columns.ensures))
      | else-crosses_meridian w ↦ subst (λ (x : FineColumns). AreFineColumns b edges.west edges.east (columns_in x)) (sym w.columns-is)
          (inr ((λ crosses. let is = c.crosses_meridian.ensures.1 crosses in let is_not = w.if-crosses_meridian.false in cc), rw (west_is, east_is) at w.between-columns.ensures))
    ] in
    are_ranges b edges are (rows_in c.between-rows.result) (columns_in c.if-crosses_meridian.columns) rows columns _ refl
