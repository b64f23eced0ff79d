-- What the ranges of a box find among fine cells.
use Rattle.std.proofs.Common.{◌≡◌, ◌⊎◌, inl, inr, ℕ, zero, suc, ◌+◌, ◌-◌, ◌*◌, ◌^◌, ◌<◌, ◌≤◌, ℤ, pos, negsuc, ◌*ℤ◌, unsigned_abs, List, [], ◌∷◌, ◌++◌, length, map, Some, sym, ap, subst, ◌∙◌, arith}
use Rattle.std.specs.List.{Contains, flat_map, range_with_len, slice_get}
use Rattle.std.specs.Prelude.{◌≤ℤ◌, ◌<ℤ◌}
use Rattle.std.proofs.Math.Nat.{mul-le-mul_right, pow-suc}
use Rattle.std.proofs.lemmas.Bool.{cases_lt}
use Rattle.std.proofs.lemmas.Int.{ints}
use Rattle.std.proofs.lemmas.List.{length-append}
use Rattle.std.proofs.lemmas.List.Elements.{Contains-append_cases}
use Rattle.std.proofs.lemmas.List.FromFn.{get_or-range_with_len, length-range_with_len}
use Rattle.osm_model.specs.Boxes.{ExactBox, Holds, Spans}
use Rattle.osm_model.specs.Degrees.{decimals}
use Rattle.osm_model.specs.Edges.{IsGreater, IsAtLeast, IsAtMost, numerator, scale}
use Rattle.osm_model.specs.Places.{IsPlace, Place}
use Rattle.tree_walk.specs.Ranges.{IsIn, Range}
use Rattle.osm_keys.specs.Keys.{id_bytes}
use Rattle.osm_keys.proofs.shared.CellLaws.{AtMostOne, one_place}
use Rattle.osm_keys.proofs.shared.Members.{first_or_in_rest, from_all, from_map, here, in_all, in_map, in_rest, none}
use Rattle.osm_keys.specs.FineKeys.{fine_cell_key, fine_column, fine_row, last_fine_column}
use Rattle.osm_keys.specs.FineRanges.{AreFineColumns, AreFineRanges, AreFineRows, fine_range}
use Rattle.light_keys.proofs.shared.FineOrder.{apart, column_back, column_few, column_rises, fine_in, in_fine, row_back, row_few, row_rises}

-- ---- rows of a list

in_row_list : (a n r : ℕ) → a ≤ r → r < a + n → Contains (range_with_len a n) r
in_row_list a n r low high =
    let lt : r - a < n = omega arith in
    (r - a, omega (arith, length-range_with_len a n), get_or-range_with_len a n (r - a) r lt ∙ omega arith)

from_row_list : (a n r : ℕ) → Contains (range_with_len a n) r → (a ≤ r) × (r < a + n)
from_row_list a n r (k, inside, e) =
    let lt : k < n = omega (arith, length-range_with_len a n) in
    let at : a + k ≡ r = sym (get_or-range_with_len a n k r lt) ∙ e in
    (omega arith, omega arith)

-- ---- the ranges of a box, and the key of a place

module _ (b : ExactBox) (ranges : List Range) (are : AreFineRanges b ranges) where
  -- each row is one of those from south to north
  row_within : (r : ℕ) → Contains are.rows r → (fine_row are.south ≤ r) × (r ≤ fine_row are.north)
  row_within r there =
      elim are.rows_are [
        | inl (_, e) ↦ absurd (none r (subst (λ (rows : List ℕ). Contains rows r) e there))
        | inr (le, e) ↦
            let bounds = from_row_list (fine_row are.south) (fine_row are.north + 1 - fine_row are.south) r (subst (λ (rows : List ℕ). Contains rows r) e there) in
            let rise = row_rises are.south are.north are.southwest.lat le in
            (bounds.0, omega (arith, bounds.0, bounds.1, rise))
      ]

  row_bound : (r : ℕ) → Contains are.rows r → r < 65536
  row_bound r there = let within = row_within r there in omega (arith, within.1, row_few are.north are.northeast.lat)

  west_few : fine_column are.west ≤ 3600000000
  west_few = column_few are.west are.southwest.lon

  east_few : fine_column are.east ≤ 3600000000
  east_few = column_few are.east are.northeast.lon

  -- what the columns of a box are
  abbrev IsSpan : ℕ × ℕ → Type 0
  IsSpan span =
      (IsGreater b.west.value b.east.value × ((span ≡ (fine_column are.west, last_fine_column)) ⊎ (span ≡ (0, fine_column are.east))))
      ⊎ ((¬ IsGreater b.west.value b.east.value) × (span ≡ (fine_column are.west, fine_column are.east)))

  is_span : (span : ℕ × ℕ) → Contains are.columns span → IsSpan span
  is_span span there =
      elim are.columns_are [
        | inl (crosses, e) ↦ inl (
          crosses,
          elim (first_or_in_rest (fine_column are.west, last_fine_column) ((0, fine_column are.east) ∷ []) span (subst (λ (l : List (ℕ × ℕ)). Contains l span) e there)) [
            | inl same ↦ inl (sym same)
            | inr rest ↦ elim (first_or_in_rest (0, fine_column are.east) [] span rest) [ inl same ↦ inr (sym same) | inr more ↦ absurd (none span more) ]
          ],
        )
        | inr (uncrossed, inl (_, e)) ↦ absurd (none span (subst (λ (l : List (ℕ × ℕ)). Contains l span) e there))
        | inr (uncrossed, inr (_, e)) ↦ inr (
          uncrossed,
          elim (first_or_in_rest (fine_column are.west, fine_column are.east) [] span (subst (λ (l : List (ℕ × ℕ)). Contains l span) e there)) [
            | inl same ↦ sym same
            | inr more ↦ absurd (none span more)
          ],
        )
      ]

  abbrev HasBounds : ℕ × ℕ → Type 0
  HasBounds span = (span.0 < 4294967296) × (span.1 < 4294967296)

  bounds_of : (span : ℕ × ℕ) → IsSpan span → HasBounds span
  bounds_of span (inl (_, inl e)) = subst HasBounds (sym e) (omega (arith, west_few), omega arith)
  bounds_of span (inl (_, inr e)) = subst HasBounds (sym e) (omega arith, omega (arith, east_few))
  bounds_of span (inr (_, e)) = subst HasBounds (sym e) (omega (arith, west_few), omega (arith, east_few))

  span_bounds : (span : ℕ × ℕ) → Contains are.columns span → HasBounds span
  span_bounds span there = bounds_of span (is_span span there)

  module _ (place : Place) (is : IsPlace place) where
    -- a row of the box
    row_in : Holds b place → Contains are.rows (fine_row place.lat)
    row_in holds =
        let from_south : are.south ≤ℤ place.lat = (are.south_is place.lat).0 holds.above_south in
        let to_north : place.lat ≤ℤ are.north = (are.north_is place.lat).0 holds.below_north in
        elim are.rows_are [
          | inl (lt, e) ↦ absurd (omega (arith, ints))
          | inr (le, e) ↦ subst (λ (rows : List ℕ). Contains rows (fine_row place.lat)) (sym e)
              (in_row_list (fine_row are.south) (fine_row are.north + 1 - fine_row are.south) (fine_row place.lat)
              (row_rises are.south place.lat are.southwest.lat from_south)
              (omega (arith, row_rises place.lat are.north is.lat to_north, row_rises are.south place.lat are.southwest.lat from_south)))
        ]

    -- the columns around the place, among those of the box
    abbrev HasColumns : Type 0
    HasColumns = (span : ℕ × ℕ) × Contains are.columns span × (span.0 ≤ fine_column place.lon) × (fine_column place.lon ≤ span.1)

    columns_around : IsGreater b.west.value b.east.value → are.columns ≡ (fine_column are.west, last_fine_column) ∷ (0, fine_column are.east) ∷ [] → Spans b.west.value b.east.value place.lon → HasColumns
    columns_around crosses e (inl (uncrossed, _, _)) = absurd (uncrossed crosses)
    columns_around crosses e (inr (_, inl from_west)) = (
      (fine_column are.west, last_fine_column),
      subst (λ (columns : List (ℕ × ℕ)). Contains columns (fine_column are.west, last_fine_column)) (sym e) (here (fine_column are.west, last_fine_column) ((0, fine_column are.east) ∷ [])),
      column_rises are.west place.lon are.southwest.lon ((are.west_is place.lon).0 from_west),
      column_few place.lon is.lon,
    )
    columns_around crosses e (inr (_, inr to_east)) = (
      (0, fine_column are.east),
      subst (λ (columns : List (ℕ × ℕ)). Contains columns (0, fine_column are.east)) (sym e) (in_rest (fine_column are.west, last_fine_column) ((0, fine_column are.east) ∷ []) (0, fine_column are.east) (here (0, fine_column are.east) [])),
      omega arith,
      column_rises place.lon are.east is.lon ((are.east_is place.lon).0 to_east),
    )

    columns_between : ¬ IsGreater b.west.value b.east.value → ((are.east <ℤ are.west) × (are.columns ≡ [])) ⊎ ((are.west ≤ℤ are.east) × (are.columns ≡ (fine_column are.west, fine_column are.east) ∷ []))
        → Spans b.west.value b.east.value place.lon → HasColumns
    columns_between uncrossed of (inr (crosses, _)) = absurd (uncrossed crosses)
    columns_between uncrossed of (inl (_, from_west, to_east)) =
        let from : are.west ≤ℤ place.lon = (are.west_is place.lon).0 from_west in
        let to : place.lon ≤ℤ are.east = (are.east_is place.lon).0 to_east in
        elim of [
          | inl (lt, e) ↦ absurd (omega (arith, ints))
          | inr (le, e) ↦ (
            (fine_column are.west, fine_column are.east),
            subst (λ (columns : List (ℕ × ℕ)). Contains columns (fine_column are.west, fine_column are.east)) (sym e) (here (fine_column are.west, fine_column are.east) []),
            column_rises are.west place.lon are.southwest.lon from,
            column_rises place.lon are.east is.lon to,
          )
        ]

    columns_in : Holds b place → HasColumns
    columns_in holds =
        elim are.columns_are [
          | inl (crosses, e) ↦ columns_around crosses e holds.between
          | inr (uncrossed, of) ↦ columns_between uncrossed of holds.between
        ]

    -- a place that the box holds has its key in one of the ranges
    pub key_held : Holds b place → (id : ℤ) → (range : Range) × Contains ranges range × IsIn range (fine_cell_key place id)
    key_held holds id =
        let found = columns_in holds in
        let row = row_in holds in
        let bounds = span_bounds found.0 found.1 in
        let range = fine_range (fine_row place.lat) found.0 in
        let there = in_all (λ (r : ℕ). map (fine_range r) are.columns) are.rows (fine_row place.lat) range row (in_map (fine_range (fine_row place.lat)) are.columns found.0 found.1) in (
          range,
          subst (λ (list : List Range). Contains list range) (sym are.ranges_are) there,
          fine_in (fine_row place.lat) found.0.0 found.0.1 (fine_column place.lon) (id_bytes id) (row_bound (fine_row place.lat) row) bounds.0 bounds.1 (omega (arith, column_few place.lon is.lon)) found.2 found.3,
        )

    -- ---- what a key in one of the ranges says of its place

    -- its row, and columns that it is in
    abbrev IsFound : Type 0
    IsFound = (span : ℕ × ℕ) × IsSpan span × (span.0 ≤ fine_column place.lon) × (fine_column place.lon ≤ span.1) × (fine_row are.south ≤ fine_row place.lat) × (fine_row place.lat ≤ fine_row are.north)

    key_found : (id : ℤ) (range : Range) → Contains ranges range → IsIn range (fine_cell_key place id) → IsFound
    key_found id range there inside =
        let from = from_all (λ (r : ℕ). map (fine_range r) are.columns) are.rows range (subst (λ (list : List Range). Contains list range) are.ranges_are there) in
        let span = from_map (fine_range from.0) are.columns range from.2 in
        let bounds = span_bounds span.0 span.1 in
        let place_few : fine_row place.lat < 65536 = omega (arith, row_few place.lat is.lat) in
        let at = in_fine from.0 span.0.0 span.0.1 (fine_row place.lat) (fine_column place.lon) (id_bytes id) (row_bound from.0 from.1) bounds.0 bounds.1 place_few (omega (arith, column_few place.lon is.lon))
        (subst (λ (x : Range). IsIn x (fine_cell_key place id)) span.2 inside) in
        let rows = row_within from.0 from.1 in
        (span.0, is_span span.0 span.1, at.1, at.2, omega (arith, at.0, rows.0), omega (arith, at.0, rows.1))

    from_west : fine_column are.west ≤ fine_column place.lon → IsAtLeast place.lon b.west.value
    from_west le = (are.west_is place.lon).1 (column_back are.west place.lon are.southwest.lon is.lon le)

    to_east : fine_column place.lon ≤ fine_column are.east → IsAtMost place.lon b.east.value
    to_east le = (are.east_is place.lon).1 (column_back place.lon are.east is.lon are.northeast.lon le)

    spans_by : (span : ℕ × ℕ) → IsSpan span → span.0 ≤ fine_column place.lon → fine_column place.lon ≤ span.1 → Spans b.west.value b.east.value place.lon
    spans_by span (inl (crosses, inl e)) low high = inr (crosses, inl (from_west (subst (λ (s : ℕ × ℕ). s.0 ≤ fine_column place.lon) e low)))
    spans_by span (inl (crosses, inr e)) low high = inr (crosses, inr (to_east (subst (λ (s : ℕ × ℕ). fine_column place.lon ≤ s.1) e high)))
    spans_by span (inr (uncrossed, e)) low high = inl (
      uncrossed,
      from_west (subst (λ (s : ℕ × ℕ). s.0 ≤ fine_column place.lon) e low),
      to_east (subst (λ (s : ℕ × ℕ). fine_column place.lon ≤ s.1) e high),
    )

    -- its longitude is in the box, and its row is one of the box
    pub key_spans : (id : ℤ) (range : Range) → Contains ranges range → IsIn range (fine_cell_key place id)
        → Spans b.west.value b.east.value place.lon × (fine_row are.south ≤ fine_row place.lat) × (fine_row place.lat ≤ fine_row are.north)
    key_spans id range there inside =
        let found = key_found id range there inside in
        (spans_by found.0 found.1 found.2 found.3, found.4, found.5)

    -- between the first row and the last one the box holds it
    pub key_inner : (id : ℤ) (range : Range) → Contains ranges range → IsIn range (fine_cell_key place id)
        → fine_row are.south < fine_row place.lat → fine_row place.lat < fine_row are.north → Holds b place
    key_inner id range there inside above below =
        let spans = (key_spans id range there inside).0 in
        record {
          above_south = (are.south_is place.lat).1 (row_back are.south place.lat are.southwest.lat is.lat above);
          below_north = (are.north_is place.lat).1 (row_back place.lat are.north is.lat are.northeast.lat below);
          between = spans;
        }

-- ---- a box across the 180th meridian

ten_positive : (k : ℕ) → 0 < 10 ^ k
ten_positive zero = omega arith
ten_positive (suc k) =
    let before = ten_positive k in
    let split : 10 ^ suc k ≡ 10 ^ k * 10 = pow-suc 10 k in
    omega (arith, before, split)

-- a whole number between two fractions, the first of which is greater
none_between : (x p q sw se : ℕ) → p * 10000000 ≤ x * sw → x * se ≤ q * 10000000 → q * sw < p * se → ⊥
none_between x p q sw se low high turned =
    let a = mul-le-mul_right se low in
    let b = mul-le-mul_right sw high in
    omega (arith, a, b, turned)

-- no unit is at least a decimal and at most one below it
no_unit : (u west east : ℤ) (sw se : ℕ) → 0 < sw → 0 < se → (west *ℤ pos 10000000) ≤ℤ (u *ℤ pos sw) → (u *ℤ pos se) ≤ℤ (east *ℤ pos 10000000) → (east *ℤ pos sw) <ℤ (west *ℤ pos se) → ⊥
no_unit (pos x) (pos p) (pos q) sw se a b low high turned =
    let l : p * 10000000 ≤ x * sw = omega (arith, ints) in
    let h : x * se ≤ q * 10000000 = omega (arith, ints) in
    let t : q * sw < p * se = omega (arith, ints) in
    none_between x p q sw se l h t
no_unit (pos x) (pos p) (negsuc q) sw se a b low high turned = omega (arith, ints)
no_unit (pos x) (negsuc p) (pos q) sw se a b low high turned = omega (arith, ints)
no_unit (pos x) (negsuc p) (negsuc q) sw se a b low high turned = omega (arith, ints)
no_unit (negsuc x) (pos p) (pos q) sw se a b low high turned = omega (arith, ints)
no_unit (negsuc x) (pos p) (negsuc q) sw se a b low high turned = omega (arith, ints)
no_unit (negsuc x) (negsuc p) (pos q) sw se a b low high turned = omega (arith, ints)
no_unit (negsuc x) (negsuc p) (negsuc q) sw se a b low high turned =
    let l : (x + 1) * sw ≤ (p + 1) * 10000000 = omega (arith, ints) in
    let h : (q + 1) * 10000000 ≤ (x + 1) * se = omega (arith, ints) in
    let t : (p + 1) * se < (q + 1) * sw = omega (arith, ints) in
    none_between (x + 1) (q + 1) (p + 1) se sw h l t

-- its eastern edge is west of its western one in whole units too, since no unit lies from west to east
turned : (b : ExactBox) (ranges : List Range) (are : AreFineRanges b ranges) → IsGreater b.west.value b.east.value → fine_column are.east < fine_column are.west
turned b ranges are crosses =
    elim (cases_lt (fine_column are.east) (fine_column are.west)) [
      | inl lt ↦ lt
      | inr le ↦
          let same : are.west ≤ℤ are.west = omega (arith, ints) in
          let from = column_back are.west are.east are.southwest.lon are.northeast.lon le in
          absurd (no_unit are.west (numerator b.west.value) (numerator b.east.value) (scale b.west.value) (scale b.east.value)
          (ten_positive (length (decimals b.west.value.fraction))) (ten_positive (length (decimals b.east.value.fraction)))
          ((are.west_is are.west).1 same) ((are.east_is are.west).1 from) crosses)
    ]

-- ---- no key is in two ranges

module _ (b : ExactBox) (ranges : List Range) (are : AreFineRanges b ranges) (key : List ℕ) where
  abbrev HasKey : Range → Type 0
  HasKey range = IsIn range key

  one_of_two : (xs ys : List Range) → AtMostOne HasKey xs → AtMostOne HasKey ys → ((x y : Range) → Contains xs x → HasKey x → Contains ys y → HasKey y → ⊥) → AtMostOne HasKey (xs ++ ys)
  one_of_two [] ys first second apart = second
  one_of_two (z ∷ xs) ys first second apart = (
    (λ has y there also. elim (Contains-append_cases xs ys y there) [
      | inl in_first ↦ first.0 has y in_first also
      | inr in_second ↦ apart z y (here z xs) has in_second also
    ]),
    one_of_two xs ys first.1 second (λ x y hx px hy py. apart x y (in_rest z xs x hx) px hy py),
  )

  abbrev AreFew : List (ℕ × ℕ) → Type 0
  AreFew columns = (span : ℕ × ℕ) → Contains columns span → (span.0 < 4294967296) × (span.1 < 4294967296)

  -- ranges of two rows have no key in common
  rows_apart : (columns : List (ℕ × ℕ)) → AreFew columns → (r s : ℕ) → r < s → s < 65536 → (x y : Range) → Contains (map (fine_range r) columns) x → HasKey x → Contains (map (fine_range s) columns) y → HasKey y → ⊥
  rows_apart columns few r s less hs x y hx px hy py =
      let first = from_map (fine_range r) columns x hx in
      let second = from_map (fine_range s) columns y hy in
      let bounds = few first.0 first.1 in
      let others = few second.0 second.1 in
      apart r s first.0.0 first.0.1 second.0.0 second.0.1 key (omega arith) hs bounds.1 others.0 (omega (arith, bounds.1))
      (subst HasKey first.2 px) (subst HasKey second.2 py)

  once_in_rows : (columns : List (ℕ × ℕ)) → AreFew columns → ((r : ℕ) → r < 65536 → AtMostOne HasKey (map (fine_range r) columns))
      → (n a : ℕ) → a + n ≤ 65536 → AtMostOne HasKey (flat_map (λ r. map (fine_range r) columns) (range_with_len a n))
  once_in_rows columns few each zero a fits = tt
  once_in_rows columns few each (suc n) a fits =
      let f = λ (r : ℕ). map (fine_range r) columns in
      one_of_two (f a) (flat_map f (range_with_len (a + 1) n)) (each a (omega arith)) (once_in_rows columns few each n (a + 1) (omega arith))
      (λ x y hx px hy py.
      let later = from_all f (range_with_len (a + 1) n) y hy in
      let bounds = from_row_list (a + 1) n later.0 later.1 in
      rows_apart columns few a later.0 (omega (arith, bounds.0)) (omega (arith, bounds.1)) x y hx px later.2 py)

  once_if : (columns : List (ℕ × ℕ)) → are.columns ≡ columns → ((r : ℕ) → r < 65536 → AtMostOne HasKey (map (fine_range r) columns)) → AtMostOne HasKey ranges
  once_if columns e each =
      let f = λ (columns : List (ℕ × ℕ)). λ (r : ℕ). map (fine_range r) columns in
      let few : AreFew columns = subst AreFew e (λ span there. span_bounds b ranges are span there) in
      let whole : ranges ≡ flat_map (f columns) are.rows = are.ranges_are ∙ ap (λ (l : List (ℕ × ℕ)). flat_map (f l) are.rows) e in
      subst (λ (list : List Range). AtMostOne HasKey list) (sym whole) (elim are.rows_are [
        | inl (_, none_there) ↦ subst (λ (rows : List ℕ). AtMostOne HasKey (flat_map (f columns) rows)) (sym none_there) tt
        | inr (_, listed) ↦ subst (λ (rows : List ℕ). AtMostOne HasKey (flat_map (f columns) rows)) (sym listed)
            (once_in_rows columns few each (fine_row are.north + 1 - fine_row are.south) (fine_row are.south)
            (omega (arith, row_few are.north are.northeast.lat, row_few are.south are.southwest.lat)))
      ])

  two_once : IsGreater b.west.value b.east.value → (r : ℕ) → r < 65536 → AtMostOne HasKey (map (fine_range r) ((fine_column are.west, last_fine_column) ∷ (0, fine_column are.east) ∷ []))
  two_once crosses r hr = (
    (λ has y there also. elim (first_or_in_rest (fine_range r (0, fine_column are.east)) [] y there) [
      | inl same ↦ apart r r 0 (fine_column are.east) (fine_column are.west) last_fine_column key hr hr
          (omega (arith, east_few b ranges are)) (omega (arith, west_few b ranges are)) (omega (arith, turned b ranges are crosses)) (subst HasKey (sym same) also) has
      | inr more ↦ none y more
    ]),
    ((λ has y there also. none y there), tt),
  )

  key_once : AtMostOne HasKey ranges
  key_once =
      elim are.columns_are [
        | inl (crosses, e) ↦ once_if ((fine_column are.west, last_fine_column) ∷ (0, fine_column are.east) ∷ []) e (two_once crosses)
        | inr (uncrossed, inl (_, e)) ↦ once_if [] e (λ r hr. tt)
        | inr (uncrossed, inr (_, e)) ↦ once_if ((fine_column are.west, fine_column are.east) ∷ []) e (λ r hr. ((λ has y there also. none y there), tt))
      ]

  -- so it is in one place of the list
  pub key_in_one : (k j : ℕ) (x y : Range) → slice_get ranges k ≡ Some x → slice_get ranges j ≡ Some y → IsIn x key → IsIn y key → k ≡ j
  key_in_one k j x y e f p q = one_place HasKey ranges key_once k j x y e f p q

-- ---- how many ranges there are

two_a_row : (f : ℕ → List Range) (rows : List ℕ) → ((r : ℕ) → length (f r) ≤ 2) → length (flat_map f rows) ≤ 2 * length rows
two_a_row f [] few = omega arith
two_a_row f (r ∷ rows) few = omega (arith, length-append (f r) (flat_map f rows), few r, two_a_row f rows few)

few_rows : (south north : ℤ) (rows : List ℕ) → unsigned_abs north ≤ 900000000 → AreFineRows south north rows → length rows ≤ 18001
few_rows south north rows few (inl (_, e)) = subst (λ (l : List ℕ). length l ≤ 18001) (sym e) (omega arith)
few_rows south north rows few (inr (_, e)) = subst (λ (l : List ℕ). length l ≤ 18001) (sym e) (omega (arith, length-range_with_len (fine_row south) (fine_row north + 1 - fine_row south), row_few north few))

few_columns : (b : ExactBox) (west east : ℤ) (columns : List (ℕ × ℕ)) (r : ℕ) → AreFineColumns b west east columns → length (map (fine_range r) columns) ≤ 2
few_columns b west east columns r (inl (_, e)) = subst (λ (l : List (ℕ × ℕ)). length (map (fine_range r) l) ≤ 2) (sym e) (omega arith)
few_columns b west east columns r (inr (_, inl (_, e))) = subst (λ (l : List (ℕ × ℕ)). length (map (fine_range r) l) ≤ 2) (sym e) (omega arith)
few_columns b west east columns r (inr (_, inr (_, e))) = subst (λ (l : List (ℕ × ℕ)). length (map (fine_range r) l) ≤ 2) (sym e) (omega arith)

-- two for each row of the earth at most
pub few_ranges : (b : ExactBox) (ranges : List Range) → AreFineRanges b ranges → length ranges ≤ 36002
few_ranges b ranges are =
    let f = λ (r : ℕ). map (fine_range r) are.columns in
    let each = two_a_row f are.rows (λ r. few_columns b are.west are.east are.columns r are.columns_are) in
    let rows = few_rows are.south are.north are.rows are.northeast.lat are.rows_are in
    subst (λ (list : List Range). length list ≤ 36002) (sym are.ranges_are) (omega (arith, each, rows))
