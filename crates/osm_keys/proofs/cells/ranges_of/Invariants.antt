use Rattle.std.proofs.Common.{◌≡◌, ◌-◌, ◌≤◌, map}
use Rattle.std.specs.List.{flat_map, range_with_len}
use Rattle.osm_keys.specs.Ranges.{cell_range}
use Rattle.osm_keys.specs.internal.Cells.{columns_in}
use Rattle.osm_keys.proofs.cells.ranges_of.Given as goal

abbrev pub invariant-loop-row : goal.invariant-loop-row
invariant-loop-row l = record {
  begun : l.fn.rows.first ≤ l.row;
  within : l.row - l.fn.rows.first ≤ l.fn.rows.end - l.fn.rows.first;
  done : l.ranges.items ≡ flat_map (λ row. map (cell_range row) (columns_in l.fn.columns)) (range_with_len l.fn.rows.first (l.row - l.fn.rows.first));
}
