-- The ranges of a box, as they are given one by one.
use Rattle.std.proofs.Common.{◌≡◌, ℕ, suc, ◌+◌, ◌-◌, ◌<◌, ◌≤◌, ℤ, unsigned_abs, to_z, of_z, w32, List, [], ◌∷◌, ◌++◌, Option, None, Some, length, map, refl, sym, ap, subst, ◌∙◌, arith}
use Rattle.std.specs.List.{flat_map, range_with_len}
use Rattle.std.specs.Iterator.{MakesProgress, item_count}
use Rattle.std.specs.Option.{option_to_list}
use Rattle.osm_model.specs.Boxes.{ExactBox}
use Rattle.tree_walk.specs.Ranges.{Range}
use Rattle.osm_keys.proofs.Ids.{same_number}
use Rattle.osm_keys.specs.FineRanges.{AreFineColumns, AreFineRanges, AreFineRows, fine_range}
use Rattle.light_keys.specs.declared.whole_edges.WholeEdges.{WholeEdges}
use Rattle.light_keys.specs.internal.FineCells.{AreWholeEdges}

-- the ranges of some rows, from one up to another
abbrev pub left_over : List (ℕ × ℕ) → ℕ → ℕ → List Range
left_over columns row end = flat_map (λ row. map (fine_range row) columns) (range_with_len row (end - row))

-- without columns there are none
none_in : (rows : List ℕ) → flat_map (λ row. map (fine_range row) []) rows ≡ []
none_in [] = refl
none_in (r ∷ rows) = none_in rows

pub no_columns : (columns : List (ℕ × ℕ)) (row end : ℕ) → columns ≡ [] → left_over columns row end ≡ []
no_columns columns row end e = subst (λ (l : List (ℕ × ℕ)). left_over l row end ≡ []) (sym e) (none_in (range_with_len row (end - row)))

-- and without rows there are none
pub no_rows : (columns : List (ℕ × ℕ)) (row end : ℕ) → end ≤ row → left_over columns row end ≡ []
no_rows columns row end le =
    let over : end - row ≡ 0 = omega arith in
    ap (λ (n : ℕ). flat_map (λ row. map (fine_range row) columns) (range_with_len row n)) over

-- the ranges of the first row come before those of the others
pub first_row : (columns : List (ℕ × ℕ)) (row end : ℕ) → row < end → left_over columns row end ≡ map (fine_range row) columns ++ left_over columns (row + 1) end
first_row columns row end less =
    let more : end - row ≡ suc (end - (row + 1)) = omega arith in
    ap (λ (n : ℕ). flat_map (λ row. map (fine_range row) columns) (range_with_len row n)) more

module _ (columns : List (ℕ × ℕ)) (row end : ℕ) (less : row < end) (second : Option Range) (none : second ≡ None) where
  pub one_more : (span : ℕ × ℕ) → columns ≡ span ∷ [] → option_to_list second ++ left_over columns row end ≡ fine_range row span ∷ (option_to_list second ++ left_over columns (row + 1) end)
  one_more span is = rw none (first_row columns row end less ∙ ap (λ (l : List (ℕ × ℕ)). map (fine_range row) l ++ left_over columns (row + 1) end) is)

  pub two_more : (span other : ℕ × ℕ) → columns ≡ span ∷ other ∷ [] → option_to_list second ++ left_over columns row end ≡ fine_range row span ∷ fine_range row other ∷ left_over columns (row + 1) end
  two_more span other is = rw none (first_row columns row end less ∙ ap (λ (l : List (ℕ × ℕ)). map (fine_range row) l ++ left_over columns (row + 1) end) is)

pub nothing_left : (columns : List (ℕ × ℕ)) (row end : ℕ) (second : Option Range) → second ≡ None → columns ≡ [] → option_to_list second ++ left_over columns row end ≡ []
nothing_left columns row end second none is = rw none (no_columns columns row end is)

-- a range that was given is no longer left
pub moved : (can : List Range → Type 0) (s t : List Range) (x : Range) → can t → s ≡ x ∷ t → MakesProgress can (item_count (λ (ranges : List Range). ranges)) s (Some x) t
moved can s t x may e = record {
  on = λ _. (may, tt, (let size = ap length e in omega (arith, size)));
  keeps = may;
  rests = λ _. tt;
}

-- ---- the ranges of a box

pub are_ranges : (b : ExactBox) (edges : WholeEdges) → AreWholeEdges b edges → (rows : List ℕ) (columns : List (ℕ × ℕ)) → AreFineRows edges.south edges.north rows → AreFineColumns b edges.west edges.east columns
    → (ranges : List Range) → ranges ≡ flat_map (λ row. map (fine_range row) columns) rows → AreFineRanges b ranges
are_ranges b edges are rows columns are_rows are_columns ranges e = record {
  south = edges.south;
  west = edges.west;
  north = edges.north;
  east = edges.east;
  south_is = are.south;
  west_is = are.west;
  north_is = are.north;
  east_is = are.east;
  southwest = record { lon = are.west_few; lat = are.south_few };
  northeast = record { lon = are.east_few; lat = are.north_few };
  rows = rows;
  columns = columns;
  rows_are = are_rows;
  columns_are = are_columns;
  ranges_are = e;
}

-- rows between units that fit 32 bits
pub rows_kept : (south north : ℤ) (rows : List ℕ) → unsigned_abs south ≤ 900000000 → unsigned_abs north ≤ 900000000 → AreFineRows (to_z w32 (of_z w32 south)) (to_z w32 (of_z w32 north)) rows → AreFineRows south north rows
rows_kept south north rows s n are =
    subst (λ (z : ℤ). AreFineRows south z rows) (same_number north (omega (arith, n)))
    (subst (λ (z : ℤ). AreFineRows z (to_z w32 (of_z w32 north)) rows) (same_number south (omega (arith, s))) are)
