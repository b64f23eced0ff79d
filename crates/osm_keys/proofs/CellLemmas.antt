-- Ranges of cells, as they are made.
use Rattle.std.proofs.Common.{◌≡◌, ℕ, zero, suc, ◌+◌, ◌-◌, ◌<◌, ◌≤◌, ℤ, unsigned_abs, to_z, of_z, w32, true, List, [], ◌∷◌, ◌++◌, length, map, take, drop, get_or, refl, sym, ap, subst, ◌∙◌, append_assoc, append-nil, arith}
use Rattle.std.specs.List.{flat_map, range_with_len}
use Rattle.std.proofs.lemmas.List.{take_at, drop_at, length-append}
use Rattle.osm_model.specs.Boxes.{ExactBox}
use Rattle.osm_model.specs.Degrees.{Decimal, limit}
use Rattle.osm_model.specs.Edges.{ExactEdge}
use Rattle.osm_model.specs.declared.axis.Axis.{Axis}
use Rattle.tree_walk.specs.Ranges.{IsIn, Range}
use Rattle.osm_keys.specs.Keys.{cell_bytes}
use Rattle.osm_keys.specs.declared.whole_edges.WholeEdges.{WholeEdges}
use Rattle.osm_keys.specs.internal.Cells.{AreWholeEdges}
use Rattle.osm_keys.specs.Ranges.{AreCellRanges, AreColumns, AreRows, cell_range}
use Rattle.osm_keys.proofs.Ids.{same_number}
use Rattle.osm_keys.proofs.shared.CellLaws.{first_in}

pub one_more_row : (f : ℕ → List Range) (a n : ℕ) → flat_map f (range_with_len a (suc n)) ≡ flat_map f (range_with_len a n) ++ f (a + n)
one_more_row f a zero = let at : a ≡ a + 0 = omega arith in append-nil (f a) ∙ ap f at
one_more_row f a (suc n) =
    let more = one_more_row f (a + 1) n in
    let at : (a + 1) + n ≡ a + suc n = omega arith in
    ap (λ (l : List Range). f a ++ l) (more ∙ ap (λ (m : ℕ). flat_map f (range_with_len (a + 1) n) ++ f m) at) ∙ sym (append_assoc (f a) (flat_map f (range_with_len (a + 1) n)) (f (a + suc n)))

-- so a row more has been done
pub row_done : (f : ℕ → List Range) (first row : ℕ) (old new : List Range) → first ≤ row → old ≡ flat_map f (range_with_len first (row - first)) → new ≡ old ++ f row
    → new ≡ flat_map f (range_with_len first (row + 1 - first))
row_done f first row old new le done more =
    let next : suc (row - first) ≡ row + 1 - first = omega arith in
    let here : row ≡ first + (row - first) = omega arith in
    more ∙ ap (λ (l : List Range). l ++ f row) done ∙ ap (λ (r : ℕ). flat_map f (range_with_len first (row - first)) ++ f r) here
    ∙ sym (one_more_row f first (row - first)) ∙ ap (λ (n : ℕ). flat_map f (range_with_len first n)) next

-- ---- the ranges of a box

pub are_ranges : (b : ExactBox) (edges : WholeEdges) → AreWholeEdges b edges → (rows : List ℕ) (columns : List (ℕ × ℕ)) → AreRows edges.south edges.north rows → AreColumns b edges.west edges.east columns
    → (ranges : List Range) → ranges ≡ flat_map (λ row. map (cell_range row) columns) rows → AreCellRanges b ranges
are_ranges b edges are rows columns are_rows are_columns ranges e = record {
  south = edges.south;
  west = edges.west;
  north = edges.north;
  east = edges.east;
  south_is = are.south;
  west_is = are.west;
  north_is = are.north;
  east_is = are.east;
  southwest = record { lon = are.west_few; lat = are.south_few };
  northeast = record { lon = are.east_few; lat = are.north_few };
  rows = rows;
  columns = columns;
  rows_are = are_rows;
  columns_are = are_columns;
  ranges_are = e;
}

-- rows and columns between units that fit 32 bits
pub rows_kept : (south north : ℤ) (rows : List ℕ) → unsigned_abs south ≤ 900000000 → unsigned_abs north ≤ 900000000 → AreRows (to_z w32 (of_z w32 south)) (to_z w32 (of_z w32 north)) rows → AreRows south north rows
rows_kept south north rows s n are =
    subst (λ (z : ℤ). AreRows south z rows) (same_number north (omega (arith, n)))
    (subst (λ (z : ℤ). AreRows z (to_z w32 (of_z w32 north)) rows) (same_number south (omega (arith, s))) are)

-- an edge of the box in whole units, which fit 32 bits
pub one_edge : (IsRounded : Decimal → ℤ → Type 0) (e f : ExactEdge) (axis : Axis) (z : ℤ) → e ≡ f → f.axis ≡ axis → IsRounded e.value z → unsigned_abs z ≤ limit e.axis → limit axis ≤ 1800000000
    → IsRounded f.value (to_z w32 (of_z w32 z)) × (unsigned_abs (to_z w32 (of_z w32 z)) ≤ limit axis)
one_edge IsRounded e f axis z same is rounded within wide =
    let few : unsigned_abs z ≤ limit axis = subst (λ (a : Axis). unsigned_abs z ≤ limit a) is (subst (λ (x : ExactEdge). unsigned_abs z ≤ limit x.axis) same within) in
    let kept : z ≡ to_z w32 (of_z w32 z) = sym (same_number z (omega (arith, few, wide))) in (
      subst (λ (y : ℤ). IsRounded f.value y) kept (subst (λ (x : ExactEdge). IsRounded x.value z) same rounded),
      subst (λ (y : ℤ). unsigned_abs y ≤ limit axis) kept few,
    )

-- ---- the two ends of a range in eight bytes

cell_len : (row column : ℕ) → length (cell_bytes row column) ≡ 4
unfolding cell_bytes
cell_len row column = refl

-- two cells are what they are byte by byte
pub eight_bytes : (low high : List ℕ) (row first last : ℕ) → low ≡ cell_bytes row first → high ≡ cell_bytes row last
    → (get_or low 0 0 ∷ get_or low 1 0 ∷ get_or low 2 0 ∷ get_or low 3 0 ∷ get_or high 0 0 ∷ get_or high 1 0 ∷ get_or high 2 0 ∷ get_or high 3 0 ∷ []) ≡ cell_bytes row first ++ cell_bytes row last
unfolding cell_bytes
eight_bytes low high row first last e f = rw (e, f) refl

module _ (bytes : List ℕ) (row first last : ℕ) (e : bytes ≡ cell_bytes row first ++ cell_bytes row last) where
  low_end : take 4 bytes ≡ cell_bytes row first
  low_end = ap (λ (l : List ℕ). take 4 l) e ∙ take_at (cell_bytes row first) (cell_bytes row last) 4 (cell_len row first)

  high_end : drop 4 bytes ≡ cell_bytes row last
  high_end = ap (λ (l : List ℕ). drop 4 l) e ∙ drop_at (cell_bytes row first) (cell_bytes row last) 4 (cell_len row first)

  both_ends : length bytes ≡ 8
  both_ends = ap (λ (l : List ℕ). length l) e ∙ length-append (cell_bytes row first) (cell_bytes row last) ∙ omega (arith, cell_len row first, cell_len row last)

  -- they are the ends of the range
  pub range_is : record { lo = take 4 bytes; hi = drop 4 bytes; under = true } ≡ cell_range row (first, last)
  range_is = ap (λ (l : List ℕ). record { lo = l; hi = drop 4 bytes; under = true }) low_end ∙ ap (λ (h : List ℕ). record { lo = cell_bytes row first; hi = h; under = true }) high_end

  pub range_kept : row < 65536 → last < 65536 → first ≤ last → (4 ≤ length bytes) × (4 ≤ length bytes) × IsIn (record { lo = take 4 bytes; hi = drop 4 bytes; under = true }) (take 4 bytes)
  range_kept hr hl le =
      let inside = first_in row first last hr hl le in
      (omega (arith, both_ends), omega (arith, both_ends), subst (λ (range : Range). IsIn range (take 4 bytes)) (sym range_is) (subst (λ (key : List ℕ). IsIn (cell_range row (first, last)) key) (sym low_end) inside))
