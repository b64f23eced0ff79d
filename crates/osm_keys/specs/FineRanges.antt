-- The ranges of keys in which the nodes of a box are found among fine cells.
-- Source: this project.
use Rattle.std.specs.List.{flat_map, range_with_len}
use Rattle.std.specs.Prelude.{◌≡◌, ℕ, ◌+◌, ◌-◌, List, [], ◌∷◌, ◌⊎◌, map, ℤ, ◌≤ℤ◌, ◌<ℤ◌, true}
use Rattle.osm_model.specs.Boxes.{ExactBox}
use Rattle.osm_model.specs.Edges.{IsGreater, IsCeiling, IsFloor}
use Rattle.osm_model.specs.Places.{IsPlace}
use Rattle.tree_walk.specs.Ranges.{Range}
use Rattle.osm_keys.specs.FineKeys.{fine_column, fine_corner, fine_row, last_fine_column}

-- the fine cells of a row from one column to another
abbrev pub fine_range : ℕ → ℕ × ℕ → Range
fine_range row columns = record { lo = fine_corner row columns.0; hi = fine_corner row columns.1; under = true }

-- the rows from one latitude to another: none where the first is above the second
abbrev pub AreFineRows : ℤ → ℤ → List ℕ → Type 0
AreFineRows south north rows =
    ((north <ℤ south) × (rows ≡ [])) ⊎ ((south ≤ℤ north) × (rows ≡ range_with_len (fine_row south) (fine_row north + 1 - fine_row south)))

-- The first and last columns in each row: from west to east, none where west is above east. A box that crosses the
-- 180th meridian goes from west to the last column, and from column 0 to east.
abbrev pub AreFineColumns : ExactBox → ℤ → ℤ → List (ℕ × ℕ) → Type 0
AreFineColumns b west east columns =
    (IsGreater b.west.value b.east.value × (columns ≡ (fine_column west, last_fine_column) ∷ (0, fine_column east) ∷ []))
    ⊎ ((¬ IsGreater b.west.value b.east.value) × (((east <ℤ west) × (columns ≡ [])) ⊎ ((west ≤ℤ east) × (columns ≡ (fine_column west, fine_column east) ∷ []))))

-- the ranges of the fine cells that a box meets: row by row from the south, with the least units that aren't below its
-- southern and western edges and the greatest that aren't above its northern and eastern ones. These make two
-- locations, the corners.
pub record AreFineRanges (b : ExactBox) (ranges : List Range) : Type 0 where
  pub south : ℤ
  pub west : ℤ
  pub north : ℤ
  pub east : ℤ
  pub south_is : IsCeiling b.south.value south
  pub west_is : IsCeiling b.west.value west
  pub north_is : IsFloor b.north.value north
  pub east_is : IsFloor b.east.value east
  pub southwest : IsPlace (record { lon = west; lat = south })
  pub northeast : IsPlace (record { lon = east; lat = north })
  pub rows : List ℕ
  pub columns : List (ℕ × ℕ)
  pub rows_are : AreFineRows south north rows
  pub columns_are : AreFineColumns b west east columns
  pub ranges_are : ranges ≡ flat_map (λ row. map (fine_range row) columns) rows
