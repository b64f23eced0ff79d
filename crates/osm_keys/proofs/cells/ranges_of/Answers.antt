use Rattle.std.proofs.Common.{ℕ, arith, map}
use Rattle.osm_keys.specs.Ranges.{cell_range}
use Rattle.osm_keys.specs.internal.Cells.{columns_in}
use Rattle.osm_keys.proofs.CellLemmas.{row_done}
use Rattle.osm_keys.proofs.cells.ranges_of.Goals as goal

pub loop-row-preserved : goal.loop-row-preserved
loop-row-preserved c = record {
  begun = omega arith;
  within = omega arith;
  done = row_done (λ (row : ℕ). map (cell_range row) (columns_in c.args.columns)) c.args.rows.first c.loop-row.row _ _ c.loop-row.invariant.begun c.loop-row.invariant.done c.in_ok-append_row.ensures;
}
