-- The edges, the rows and the columns of a box as the code has them.
-- Source: this project.
use Rattle.std.specs.List.{range_with_len}
use Rattle.std.specs.Prelude.{ℕ, ◌-◌, ◌≤◌, List, [], ◌∷◌, unsigned_abs}
use Rattle.osm_model.specs.Boxes.{ExactBox}
use Rattle.osm_model.specs.Degrees.{limit}
use Rattle.osm_model.specs.Edges.{IsCeiling, IsFloor}
use Rattle.osm_model.specs.declared.axis.Axis.TheVariants.{Lat, Lon}
use Rattle.light_keys.specs.declared.column_span.ColumnSpan.{ColumnSpan}
use Rattle.light_keys.specs.declared.fine_columns.FineColumns.{FineColumns}
use Rattle.light_keys.specs.declared.fine_columns.FineColumns.TheVariants as columns
use Rattle.light_keys.specs.declared.fine_rows.FineRows.{FineRows}
use Rattle.light_keys.specs.declared.whole_edges.WholeEdges.{WholeEdges}

-- the edges of the box, rounded to whole units inside it, which are in their ranges
pub record AreWholeEdges (b : ExactBox) (edges : WholeEdges) : Type 0 where
  pub south : IsCeiling b.south.value edges.south
  pub west : IsCeiling b.west.value edges.west
  pub north : IsFloor b.north.value edges.north
  pub east : IsFloor b.east.value edges.east
  pub south_few : unsigned_abs edges.south ≤ limit Lat
  pub west_few : unsigned_abs edges.west ≤ limit Lon
  pub north_few : unsigned_abs edges.north ≤ limit Lat
  pub east_few : unsigned_abs edges.east ≤ limit Lon

abbrev pub rows_in : FineRows → List ℕ
rows_in rows = range_with_len rows.first (rows.end - rows.first)

abbrev pub ends_of : ColumnSpan → ℕ × ℕ
ends_of span = (span.first, span.last)

abbrev pub columns_in : FineColumns → List (ℕ × ℕ)
columns_in columns.None = []
columns_in (columns.One span) = ends_of span ∷ []
columns_in (columns.Two first second) = ends_of first ∷ ends_of second ∷ []
