-- What the ranges of a box's cells find.
use Rattle.std.proofs.Common.{◌≡◌, ◌↔◌, ◌⊎◌, inl, inr, ℕ, zero, suc, ◌+◌, ◌-◌, ◌*◌, ◌/◌, ◌%◌, ◌<◌, ◌≤◌, ℤ, pos, negsuc, unsigned_abs, true, List, [], ◌∷◌, ◌++◌, length, map, Some, refl, sym, ap, subst, ◌∙◌, append-nil, arith}
use Rattle.std.specs.List.{Contains, flat_map, range_with_len, slice_get}
use Rattle.std.specs.Prelude.{◌≤ℤ◌, ◌<ℤ◌}
use Rattle.std.proofs.lemmas.Bool.{cases_order}
use Rattle.std.proofs.lemmas.Int.{ints}
use Rattle.std.proofs.lemmas.List.{length-append}
use Rattle.std.proofs.lemmas.List.Elements.{Contains-append_cases}
use Rattle.std.proofs.lemmas.List.FromFn.{get_or-range_with_len, length-range_with_len}
use Rattle.std.proofs.lemmas.Option.{get_or_from_slice_get, slice_get_within}
use Rattle.osm_model.specs.Boxes.{ExactBox, Holds, Spans}
use Rattle.osm_model.specs.Edges.{IsGreater}
use Rattle.osm_model.specs.Elements.{Element}
use Rattle.osm_model.specs.Limits.{BodyInRange}
use Rattle.osm_model.specs.Places.{IsPlace, Place}
use Rattle.osm_model.specs.declared.body.Body.{Body}
use Rattle.osm_model.specs.declared.body.Body.TheVariants as bodies
use Rattle.tree_node.specs.Nodes.{Binding}
use Rattle.tree_node.specs.Order.{IsBelow}
use Rattle.tree_node.specs.declared.tree.Tree.TheVariants.{Cells}
use Rattle.tree_walk.specs.Choices.{AreThose}
use Rattle.tree_walk.specs.Ranges.{Begins, IsAtMost, IsIn, Range}
use Rattle.tree_walk.specs.Walks.{IsEntryIn}
use Rattle.tree_walk.proofs.shared.KeyLemmas.{below_cons, cons_below}
use Rattle.osm_keys.specs.Entries.{cell_entry, placed_key}
use Rattle.osm_keys.specs.Grains.{grain_of}
use Rattle.osm_keys.specs.Keys.{above, cell_bytes, cell_key, column, id_bytes, last_column, row}
use Rattle.osm_keys.specs.Publications.{IsPublication, Publication}
use Rattle.osm_keys.specs.Ranges.{AreCellRanges, AreColumns, AreRows, cell_range}
use Rattle.osm_keys.proofs.shared.Members.{first_or_in_rest, from_all, from_map, here, in_all, in_map, in_rest, none}
use Rattle.osm_keys.proofs.shared.OneObject.{is_element}
use Rattle.osm_keys.proofs.shared.RangeLaws.{found_is, front_at_most}

-- ---- rows and columns

above_rises : (least : ℕ) (y z : ℤ) → unsigned_abs y ≤ least → y ≤ℤ z → above least y ≤ above least z
above_rises least (pos m) (pos n) few up = omega (arith, ints)
above_rises least (pos m) (negsuc n) few up = omega (arith, ints)
above_rises least (negsuc m) (pos n) few up = omega (arith, ints)
above_rises least (negsuc m) (negsuc n) few up = omega (arith, ints)

above_few : (least : ℕ) (z : ℤ) → unsigned_abs z ≤ least → above least z ≤ 2 * least
above_few least (pos n) few = omega (arith, ints)
above_few least (negsuc n) few = omega (arith, ints)

-- rows rise with latitudes, and columns with longitudes
pub row_rises : (y z : ℤ) → unsigned_abs y ≤ 900000000 → y ≤ℤ z → row y ≤ row z
row_rises y z few up = omega (arith, above_rises 900000000 y z few up)

pub column_rises : (y z : ℤ) → unsigned_abs y ≤ 1800000000 → y ≤ℤ z → column y ≤ column z
column_rises y z few up = omega (arith, above_rises 1800000000 y z few up)

pub row_few : (z : ℤ) → unsigned_abs z ≤ 900000000 → row z ≤ 1800
row_few z few = omega (arith, above_few 900000000 z few)

pub column_few : (z : ℤ) → unsigned_abs z ≤ 1800000000 → column z ≤ last_column
column_few z few = omega (arith, above_few 1800000000 z few)

-- ---- strings that begin with four bytes, by the number that the four make

less_below : (a b c d w x y z : ℕ) (xs ys : List ℕ) → b < 256 → c < 256 → d < 256 → x < 256 → y < 256 → z < 256
    → a * 16777216 + b * 65536 + c * 256 + d < w * 16777216 + x * 65536 + y * 256 + z → IsBelow (a ∷ b ∷ c ∷ d ∷ xs) (w ∷ x ∷ y ∷ z ∷ ys)
less_below a b c d w x y z xs ys hb hc hd hx hy hz less =
    cons_below a w (b ∷ c ∷ d ∷ xs) (x ∷ y ∷ z ∷ ys) (elim (cases_order a w) [
      | inl e ↦ inr (
        e,
        cons_below b x (c ∷ d ∷ xs) (y ∷ z ∷ ys) (elim (cases_order b x) [
          | inl f ↦ inr (
            f,
            cons_below c y (d ∷ xs) (z ∷ ys) (elim (cases_order c y) [
              | inl g ↦ inr (g, cons_below d z xs ys (inl (omega arith)))
              | inr (inl lt) ↦ inl lt
              | inr (inr gt) ↦ absurd (omega arith)
            ]),
          )
          | inr (inl lt) ↦ inl lt
          | inr (inr gt) ↦ absurd (omega arith)
        ]),
      )
      | inr (inl lt) ↦ inl lt
      | inr (inr gt) ↦ absurd (omega arith)
    ])

below_not_more : (a b c d w x y z : ℕ) (xs ys : List ℕ) → b < 256 → c < 256 → d < 256 → x < 256 → y < 256 → z < 256
    → IsBelow (a ∷ b ∷ c ∷ d ∷ xs) (w ∷ x ∷ y ∷ z ∷ ys) → a * 16777216 + b * 65536 + c * 256 + d ≤ w * 16777216 + x * 65536 + y * 256 + z
below_not_more a b c d w x y z xs ys hb hc hd hx hy hz below =
    elim (below_cons a w (b ∷ c ∷ d ∷ xs) (x ∷ y ∷ z ∷ ys) below) [
      | inl lt ↦ omega arith
      | inr (e, more) ↦ elim (below_cons b x (c ∷ d ∷ xs) (y ∷ z ∷ ys) more) [
        | inl lt ↦ omega arith
        | inr (f, most) ↦ elim (below_cons c y (d ∷ xs) (z ∷ ys) most) [
          | inl lt ↦ omega arith
          | inr (g, last) ↦ elim (below_cons d z xs ys last) [ inl lt ↦ omega arith | inr (h, _) ↦ omega arith ]
        ]
      ]
    ]

-- ---- cells in order

four : (r c : ℕ) → cell_bytes r c ≡ (r / 256 % 256) ∷ (r % 256) ∷ (c / 256 % 256) ∷ (c % 256) ∷ []
unfolding cell_bytes
four r c = refl

cells_below : (r c s d : ℕ) (xs ys : List ℕ) → r < 65536 → c < 65536 → s < 65536 → d < 65536 → r * 65536 + c < s * 65536 + d → IsBelow (cell_bytes r c ++ xs) (cell_bytes s d ++ ys)
cells_below r c s d xs ys hr hc hs hd less =
    rw (four r c, four s d)
    (less_below (r / 256 % 256) (r % 256) (c / 256 % 256) (c % 256) (s / 256 % 256) (s % 256) (d / 256 % 256) (d % 256) xs ys
    (omega arith) (omega arith) (omega arith) (omega arith) (omega arith) (omega arith) (omega arith))

cells_not_more : (r c s d : ℕ) (xs ys : List ℕ) → r < 65536 → c < 65536 → s < 65536 → d < 65536 → IsBelow (cell_bytes r c ++ xs) (cell_bytes s d ++ ys) → r * 65536 + c ≤ s * 65536 + d
cells_not_more r c s d xs ys hr hc hs hd below =
    let bytes = rw (four r c, four s d) at below in
    let less = below_not_more (r / 256 % 256) (r % 256) (c / 256 % 256) (c % 256) (s / 256 % 256) (s % 256) (d / 256 % 256) (d % 256) xs ys
    (omega arith) (omega arith) (omega arith) (omega arith) (omega arith) (omega arith) bytes in
    omega (arith, less)

cells_same : (r c s d : ℕ) (xs ys : List ℕ) → r < 65536 → c < 65536 → s < 65536 → d < 65536 → cell_bytes r c ++ xs ≡ cell_bytes s d ++ ys → r * 65536 + c ≡ s * 65536 + d
cells_same r c s d xs ys hr hc hs hd e =
    let bytes = rw (four r c, four s d) at e in
    let first : r / 256 % 256 ≡ s / 256 % 256 = cc in
    let second : r % 256 ≡ s % 256 = cc in
    let third : c / 256 % 256 ≡ d / 256 % 256 = cc in
    let fourth : c % 256 ≡ d % 256 = cc in
    omega arith

-- ---- keys in ranges of cells

no_tail : (r c : ℕ) → cell_bytes r c ++ [] ≡ cell_bytes r c
no_tail r c = append-nil (cell_bytes r c)

from_low : (r c s d : ℕ) (rest : List ℕ) → r < 65536 → c < 65536 → s < 65536 → d < 65536 → IsAtMost (cell_bytes r c) (cell_bytes s d ++ rest) → r * 65536 + c ≤ s * 65536 + d
from_low r c s d rest hr hc hs hd (inl below) = cells_not_more r c s d [] rest hr hc hs hd (subst (λ (l : List ℕ). IsBelow l (cell_bytes s d ++ rest)) (sym (no_tail r c)) below)
from_low r c s d rest hr hc hs hd (inr e) = omega (arith, cells_same r c s d [] rest hr hc hs hd (no_tail r c ∙ e))

to_high : (r c s d : ℕ) (rest : List ℕ) → r < 65536 → c < 65536 → s < 65536 → d < 65536 → IsAtMost (cell_bytes s d ++ rest) (cell_bytes r c) → s * 65536 + d ≤ r * 65536 + c
to_high r c s d rest hr hc hs hd (inl below) = cells_not_more s d r c rest [] hs hd hr hc (subst (λ (l : List ℕ). IsBelow (cell_bytes s d ++ rest) l) (sym (no_tail r c)) below)
to_high r c s d rest hr hc hs hd (inr e) = omega (arith, cells_same s d r c rest [] hs hd hr hc (e ∙ sym (no_tail r c)))

-- the key's cell is in the row, in one of these columns
pub in_cells : (r first last s d : ℕ) (rest : List ℕ) → r < 65536 → first < 65536 → last < 65536 → s < 65536 → d < 65536
    → IsIn (cell_range r (first, last)) (cell_bytes s d ++ rest) → (s ≡ r) × (first ≤ d) × (d ≤ last)
in_cells r first last s d rest hr hf hl hs hd inside =
    let low = from_low r first s d rest hr hf hs hd inside.0 in
    let high : s * 65536 + d ≤ r * 65536 + last = elim inside.1 [
      | inl most ↦ to_high r last s d rest hr hl hs hd most
      | inr begun ↦ omega (arith, cells_same s d r last rest begun.1.0 hs hd hr hl begun.1.1)
    ] in
    (omega arith, omega arith, omega arith)

low_in : (r c d : ℕ) (rest : List ℕ) → r < 65536 → c < 65536 → d < 65536 → c ≤ d → IsAtMost (cell_bytes r c) (cell_bytes r d ++ rest)
low_in r c d rest hr hc hd le =
    elim (cases_order c d) [
      | inl e ↦ subst (λ (n : ℕ). IsAtMost (cell_bytes r c) (cell_bytes r n ++ rest)) e (front_at_most (cell_bytes r c) rest)
      | inr (inl lt) ↦ inl (subst (λ (l : List ℕ). IsBelow l (cell_bytes r d ++ rest)) (no_tail r c) (cells_below r c r d [] rest hr hc hr hd (omega arith)))
      | inr (inr gt) ↦ absurd (omega arith)
    ]

high_in : (r c d : ℕ) (rest : List ℕ) → r < 65536 → c < 65536 → d < 65536 → d ≤ c
    → IsAtMost (cell_bytes r d ++ rest) (cell_bytes r c) ⊎ ((true ≡ true) × Begins (cell_bytes r c) (cell_bytes r d ++ rest))
high_in r c d rest hr hc hd le =
    elim (cases_order d c) [
      | inl e ↦ inr (refl, (rest, ap (λ (n : ℕ). cell_bytes r n ++ rest) e))
      | inr (inl lt) ↦ inl (inl (subst (λ (l : List ℕ). IsBelow (cell_bytes r d ++ rest) l) (no_tail r c) (cells_below r d r c rest [] hr hd hr hc (omega arith))))
      | inr (inr gt) ↦ absurd (omega arith)
    ]

pub cells_in : (r first last d : ℕ) (rest : List ℕ) → r < 65536 → first < 65536 → last < 65536 → d < 65536 → first ≤ d → d ≤ last → IsIn (cell_range r (first, last)) (cell_bytes r d ++ rest)
cells_in r first last d rest hr hf hl hd low high = (low_in r first d rest hr hf hd low, high_in r last d rest hr hl hd high)

-- so the first cell is in its own range
pub first_in : (r first last : ℕ) → r < 65536 → last < 65536 → first ≤ last → IsIn (cell_range r (first, last)) (cell_bytes r first)
first_in r first last hr hl le = subst (λ (key : List ℕ). IsIn (cell_range r (first, last)) key) (no_tail r first) (cells_in r first last first [] hr (omega arith) hl (omega arith) (omega arith) le)

-- ---- rows of a list

in_row_list : (a n r : ℕ) → a ≤ r → r < a + n → Contains (range_with_len a n) r
in_row_list a n r low high =
    let lt : r - a < n = omega arith in
    (r - a, omega (arith, length-range_with_len a n), get_or-range_with_len a n (r - a) r lt ∙ omega arith)

from_row_list : (a n r : ℕ) → Contains (range_with_len a n) r → (a ≤ r) × (r < a + n)
from_row_list a n r (k, inside, e) =
    let lt : k < n = omega (arith, length-range_with_len a n) in
    let at : a + k ≡ r = sym (get_or-range_with_len a n k r lt) ∙ e in
    (omega arith, omega arith)

-- ---- the ranges of a box

module _ (b : ExactBox) (ranges : List Range) (are : AreCellRanges b ranges) (place : Place) (id : ℤ) (is : IsPlace place) where
  -- a row of the box
  row_in : Holds b place → Contains are.rows (row place.lat)
  row_in holds =
      let from_south : are.south ≤ℤ place.lat = (are.south_is place.lat).0 holds.above_south in
      let to_north : place.lat ≤ℤ are.north = (are.north_is place.lat).0 holds.below_north in
      elim are.rows_are [
        | inl (lt, e) ↦ absurd (omega (arith, ints))
        | inr (le, e) ↦ subst (λ (rows : List ℕ). Contains rows (row place.lat)) (sym e)
            (in_row_list (row are.south) (row are.north + 1 - row are.south) (row place.lat)
            (row_rises are.south place.lat are.southwest.lat from_south)
            (omega (arith, row_rises place.lat are.north is.lat to_north, row_rises are.south place.lat are.southwest.lat from_south)))
      ]

  -- the columns of the place, among those of the box
  abbrev HasColumns : Type 0
  HasColumns = (columns : ℕ × ℕ) × Contains are.columns columns × (columns.0 ≤ column place.lon) × (column place.lon ≤ columns.1) × (columns.1 ≤ last_column)

  columns_around : IsGreater b.west.value b.east.value → are.columns ≡ (column are.west, last_column) ∷ (0, column are.east) ∷ [] → Spans b.west.value b.east.value place.lon → HasColumns
  columns_around crosses e (inl (uncrossed, _, _)) = absurd (uncrossed crosses)
  columns_around crosses e (inr (_, inl from_west)) = (
    (column are.west, last_column),
    subst (λ (columns : List (ℕ × ℕ)). Contains columns (column are.west, last_column)) (sym e) (here (column are.west, last_column) ((0, column are.east) ∷ [])),
    column_rises are.west place.lon are.southwest.lon ((are.west_is place.lon).0 from_west),
    column_few place.lon is.lon,
    omega arith,
  )
  columns_around crosses e (inr (_, inr to_east)) = (
    (0, column are.east),
    subst (λ (columns : List (ℕ × ℕ)). Contains columns (0, column are.east)) (sym e) (in_rest (column are.west, last_column) ((0, column are.east) ∷ []) (0, column are.east) (here (0, column are.east) [])),
    omega arith,
    column_rises place.lon are.east is.lon ((are.east_is place.lon).0 to_east),
    column_few are.east are.northeast.lon,
  )

  columns_between : ¬ IsGreater b.west.value b.east.value → ((are.east <ℤ are.west) × (are.columns ≡ [])) ⊎ ((are.west ≤ℤ are.east) × (are.columns ≡ (column are.west, column are.east) ∷ []))
      → Spans b.west.value b.east.value place.lon → HasColumns
  columns_between uncrossed of (inr (crosses, _)) = absurd (uncrossed crosses)
  columns_between uncrossed of (inl (_, from_west, to_east)) =
      let from : are.west ≤ℤ place.lon = (are.west_is place.lon).0 from_west in
      let to : place.lon ≤ℤ are.east = (are.east_is place.lon).0 to_east in
      elim of [
        | inl (lt, e) ↦ absurd (omega (arith, ints))
        | inr (le, e) ↦ (
          (column are.west, column are.east),
          subst (λ (columns : List (ℕ × ℕ)). Contains columns (column are.west, column are.east)) (sym e) (here (column are.west, column are.east) []),
          column_rises are.west place.lon are.southwest.lon from,
          column_rises place.lon are.east is.lon to,
          column_few are.east are.northeast.lon,
        )
      ]

  columns_in : Holds b place → HasColumns
  columns_in holds =
      elim are.columns_are [
        | inl (crosses, e) ↦ columns_around crosses e holds.between
        | inr (uncrossed, of) ↦ columns_between uncrossed of holds.between
      ]

  -- a place that the box holds has its key in one of the ranges
  pub key_held : Holds b place → (range : Range) × Contains ranges range × IsIn range (cell_key place id)
  key_held holds =
      let found = columns_in holds in
      let range = cell_range (row place.lat) found.0 in
      let there = in_all (λ (r : ℕ). map (cell_range r) are.columns) are.rows (row place.lat) range (row_in holds) (in_map (cell_range (row place.lat)) are.columns found.0 found.1) in
      let few = row_few place.lat is.lat in (
        range,
        subst (λ (list : List Range). Contains list range) (sym are.ranges_are) there,
        cells_in (row place.lat) found.0.0 found.0.1 (column place.lon) (id_bytes id) (omega arith) (omega (arith, found.2, found.3, found.4)) (omega (arith, found.4)) (omega (arith, found.3, found.4)) found.2 found.3,
      )

-- ---- lists of which one item at most has a property

module _ {X : Type 0} (Has : X → Type 0) where
  abbrev pub AtMostOne : List X → Type 0
  AtMostOne [] = Unit {0}
  AtMostOne (x ∷ xs) = (Has x → (y : X) → Contains xs y → Has y → ⊥) × AtMostOne xs

  one_of_two : (xs ys : List X) → AtMostOne xs → AtMostOne ys → ((x y : X) → Contains xs x → Has x → Contains ys y → Has y → ⊥) → AtMostOne (xs ++ ys)
  one_of_two [] ys first second apart = second
  one_of_two (z ∷ xs) ys first second apart = (
    (λ has y there also. elim (Contains-append_cases xs ys y there) [
      | inl in_first ↦ first.0 has y in_first also
      | inr in_second ↦ apart z y (here z xs) has in_second also
    ]),
    one_of_two xs ys first.1 second (λ x y hx px hy py. apart x y (in_rest z xs x hx) px hy py),
  )

  there_at : (xs : List X) (j : ℕ) (y : X) → slice_get xs j ≡ Some y → Contains xs y
  there_at xs j y e = (j, slice_get_within xs j y e, get_or_from_slice_get xs j y y e)

  -- so it stands at one place
  pub one_place : (xs : List X) → AtMostOne xs → (k j : ℕ) (x y : X) → slice_get xs k ≡ Some x → slice_get xs j ≡ Some y → Has x → Has y → k ≡ j
  one_place [] once k j x y e f p q = absurd cc
  one_place (z ∷ xs) once zero zero x y e f p q = refl
  one_place (z ∷ xs) once zero (suc j) x y e f p q =
      let same : z ≡ x = cc in
      absurd (once.0 (subst Has (sym same) p) y (there_at xs j y f) q)
  one_place (z ∷ xs) once (suc k) zero x y e f p q =
      let same : z ≡ y = cc in
      absurd (once.0 (subst Has (sym same) q) x (there_at xs k x e) p)
  one_place (z ∷ xs) once (suc k) (suc j) x y e f p q = ap suc (one_place xs once.1 k j x y e f p q)

-- ---- a place in the ranges of a box

-- columns have two bytes
abbrev AreFew : List (ℕ × ℕ) → Type 0
AreFew columns = (span : ℕ × ℕ) → Contains columns span → (span.0 < 65536) × (span.1 < 65536)

module _ (place : Place) (id : ℤ) (is : IsPlace place) where
  abbrev HasKey : Range → Type 0
  HasKey range = IsIn range (cell_key place id)

  in_span : (r : ℕ) (span : ℕ × ℕ) → r < 65536 → span.0 < 65536 → span.1 < 65536 → HasKey (cell_range r span) → (row place.lat ≡ r) × (span.0 ≤ column place.lon) × (column place.lon ≤ span.1)
  in_span r span hr hf hl has =
      in_cells r span.0 span.1 (row place.lat) (column place.lon) (id_bytes id) hr hf hl (omega (arith, row_few place.lat is.lat)) (omega (arith, column_few place.lon is.lon)) has

  -- a range of a row, and the row
  in_one_row : (columns : List (ℕ × ℕ)) → AreFew columns → (r : ℕ) → r < 65536 → (range : Range) → Contains (map (cell_range r) columns) range → HasKey range → row place.lat ≡ r
  in_one_row columns few r hr range there has =
      let from = from_map (cell_range r) columns range there in
      let bounds = few from.0 from.1 in
      (in_span r from.0 hr bounds.0 bounds.1 (subst HasKey from.2 has)).0

  once_in_rows : (columns : List (ℕ × ℕ)) → AreFew columns → ((r : ℕ) → r < 65536 → AtMostOne HasKey (map (cell_range r) columns))
      → (n a : ℕ) → a + n ≤ 65536 → AtMostOne HasKey (flat_map (λ r. map (cell_range r) columns) (range_with_len a n))
  once_in_rows columns few each zero a fits = tt
  once_in_rows columns few each (suc n) a fits =
      let f = λ (r : ℕ). map (cell_range r) columns in
      one_of_two HasKey (f a) (flat_map f (range_with_len (a + 1) n)) (each a (omega arith)) (once_in_rows columns few each n (a + 1) (omega arith))
      (λ x y hx px hy py.
      let later = from_all f (range_with_len (a + 1) n) y hy in
      let bounds = from_row_list (a + 1) n later.0 later.1 in
      let first : row place.lat ≡ a = in_one_row columns few a (omega arith) x hx px in
      let second : row place.lat ≡ later.0 = in_one_row columns few later.0 (omega (arith, bounds.1)) y later.2 py in
      omega (arith, bounds.0))

  module _ (b : ExactBox) (ranges : List Range) (are : AreCellRanges b ranges) where
    row_bound : row are.north ≤ 1800
    row_bound = row_few are.north are.northeast.lat

    once_if : (columns : List (ℕ × ℕ)) → are.columns ≡ columns → AreFew columns → ((r : ℕ) → r < 65536 → AtMostOne HasKey (map (cell_range r) columns)) → AtMostOne HasKey ranges
    once_if columns e few each =
        let f = λ (columns : List (ℕ × ℕ)). λ (r : ℕ). map (cell_range r) columns in
        let whole : ranges ≡ flat_map (f columns) are.rows = are.ranges_are ∙ ap (λ (l : List (ℕ × ℕ)). flat_map (f l) are.rows) e in
        subst (λ (list : List Range). AtMostOne HasKey list) (sym whole) (elim are.rows_are [
          | inl (_, none_there) ↦ subst (λ (rows : List ℕ). AtMostOne HasKey (flat_map (f columns) rows)) (sym none_there) tt
          | inr (_, listed) ↦ subst (λ (rows : List ℕ). AtMostOne HasKey (flat_map (f columns) rows)) (sym listed)
              (once_in_rows columns few each (row are.north + 1 - row are.south) (row are.south) (omega (arith, row_bound, row_few are.south are.southwest.lat)))
        ])

    abbrev IsApart : Type 0
    IsApart = (¬ IsGreater b.west.value b.east.value) ⊎ (column are.east < column are.west)

    west_few : column are.west < 65536
    west_few = omega (arith, column_few are.west are.southwest.lon)

    east_few : column are.east < 65536
    east_few = omega (arith, column_few are.east are.northeast.lon)

    -- the columns of one span, and of the two of a box across the 180th meridian
    one_few : (span : ℕ × ℕ) → span.0 < 65536 → span.1 < 65536 → AreFew (span ∷ [])
    one_few span first last s there =
        elim (first_or_in_rest span [] s there) [
          | inl same ↦ subst (λ (t : ℕ × ℕ). (t.0 < 65536) × (t.1 < 65536)) same (first, last)
          | inr more ↦ absurd (none s more)
        ]

    two_few : AreFew ((column are.west, last_column) ∷ (0, column are.east) ∷ [])
    two_few s there =
        elim (first_or_in_rest (column are.west, last_column) ((0, column are.east) ∷ []) s there) [
          | inl same ↦ subst (λ (t : ℕ × ℕ). (t.0 < 65536) × (t.1 < 65536)) same (west_few, omega arith)
          | inr rest ↦ one_few (0, column are.east) (omega arith) east_few s rest
        ]

    -- both spans of a row have the key only where west's column isn't east of east's
    not_both : (r : ℕ) → r < 65536 → HasKey (cell_range r (column are.west, last_column)) → HasKey (cell_range r (0, column are.east)) → column are.west ≤ column are.east
    not_both r hr first second =
        let west = in_span r (column are.west, last_column) hr west_few (omega arith) first in
        let east = in_span r (0, column are.east) hr (omega arith) east_few second in
        omega (arith, west.1, east.2)

    apart_spans : IsGreater b.west.value b.east.value → IsApart → (column are.west ≤ column are.east) → ⊥
    apart_spans crosses (inl uncrossed) le = uncrossed crosses
    apart_spans crosses (inr less) le = omega arith

    two_once : IsGreater b.west.value b.east.value → IsApart → (r : ℕ) → r < 65536 → AtMostOne HasKey (map (cell_range r) ((column are.west, last_column) ∷ (0, column are.east) ∷ []))
    two_once crosses apart r hr = (
      (λ has y there also. elim (first_or_in_rest (cell_range r (0, column are.east)) [] y there) [
        | inl same ↦ apart_spans crosses apart (not_both r hr has (subst HasKey (sym same) also))
        | inr more ↦ none y more
      ]),
      ((λ has y there also. none y there), tt),
    )

    pub key_once : IsApart → AtMostOne HasKey ranges
    key_once apart =
        elim are.columns_are [
          | inl (crosses, e) ↦ once_if ((column are.west, last_column) ∷ (0, column are.east) ∷ []) e two_few (two_once crosses apart)
          | inr (uncrossed, inl (_, e)) ↦ once_if [] e (λ span there. absurd (none span there)) (λ r hr. tt)
          | inr (uncrossed, inr (_, e)) ↦ once_if ((column are.west, column are.east) ∷ []) e (one_few (column are.west, column are.east) west_few east_few) (λ r hr. ((λ has y there also. none y there), tt))
        ]

-- ---- how many ranges there are

two_a_row : (f : ℕ → List Range) (rows : List ℕ) → ((r : ℕ) → length (f r) ≤ 2) → length (flat_map f rows) ≤ 2 * length rows
two_a_row f [] few = omega arith
two_a_row f (r ∷ rows) few = omega (arith, length-append (f r) (flat_map f rows), few r, two_a_row f rows few)

few_rows : (south north : ℤ) (rows : List ℕ) → unsigned_abs north ≤ 900000000 → AreRows south north rows → length rows ≤ 1801
few_rows south north rows few (inl (_, e)) = subst (λ (l : List ℕ). length l ≤ 1801) (sym e) (omega arith)
few_rows south north rows few (inr (_, e)) = subst (λ (l : List ℕ). length l ≤ 1801) (sym e) (omega (arith, length-range_with_len (row south) (row north + 1 - row south), row_few north few))

few_columns : (b : ExactBox) (west east : ℤ) (columns : List (ℕ × ℕ)) (r : ℕ) → AreColumns b west east columns → length (map (cell_range r) columns) ≤ 2
few_columns b west east columns r (inl (_, e)) = subst (λ (l : List (ℕ × ℕ)). length (map (cell_range r) l) ≤ 2) (sym e) (omega arith)
few_columns b west east columns r (inr (_, inl (_, e))) = subst (λ (l : List (ℕ × ℕ)). length (map (cell_range r) l) ≤ 2) (sym e) (omega arith)
few_columns b west east columns r (inr (_, inr (_, e))) = subst (λ (l : List (ℕ × ℕ)). length (map (cell_range r) l) ≤ 2) (sym e) (omega arith)

-- two for each row of the earth at most
pub few_ranges : (b : ExactBox) (ranges : List Range) → AreCellRanges b ranges → length ranges ≤ 3602
few_ranges b ranges are =
    let f = λ (r : ℕ). map (cell_range r) are.columns in
    let each = two_a_row f are.rows (λ r. few_columns b are.west are.east are.columns r are.columns_are) in
    let rows = few_rows are.south are.north are.rows are.northeast.lat are.rows_are in
    subst (λ (list : List Range). length list ≤ 3602) (sym are.ranges_are) (omega (arith, each, rows))

-- ---- what the ranges find in a tree of a set

place_of : (body : Body) (place : Place) → BodyInRange body → body ≡ bodies.Node place → IsPlace place
place_of body place fits e = subst BodyInRange e fits

-- a range finds nodes of the map, just those whose key is in it
pub cell_found : (p : Publication) → IsPublication p → (range : Range) (found : List Binding) → AreThose (IsEntryIn range) (p.entries Cells) found
    → (entry : Binding) → Contains found entry ↔ ((o : Element) × (place : Place) × Contains p.objects o × (o.body ≡ bodies.Node place) × IsIn range (placed_key (grain_of p.edition) place o.id) × (entry ≡ cell_entry (grain_of p.edition) place o))
cell_found p is range found those entry =
    let f = found_is p is Cells found range those entry in (
      (λ h.
          let x = f.0 h in
          let of = x.0.2 in
          (x.0.0, of.0, x.0.1, of.1, subst (λ (e : Binding). IsIn range e.key) of.2 x.1, of.2)),
      (λ (o, place, there, node, inside, e).
          f.1 ((o, there, (place, node, e)), subst (λ (x : Binding). IsIn range x.key) (sym e) inside)),
    )

module _ (p : Publication) (is : IsPublication p) (b : ExactBox) (ranges : List Range) (are : AreCellRanges b ranges) (o : Element) (there : Contains p.objects o) (place : Place) (node : o.body ≡ bodies.Node place) where
  in_place : IsPlace place
  in_place = place_of o.body place (is_element p.objects o is.set there).body_in_range node

  -- a node that the box holds is found by one of the ranges
  pub cell_held : Holds b place → (range : Range) × Contains ranges range × IsIn range (cell_key place o.id)
  cell_held holds = key_held b ranges are place o.id in_place holds

  -- and by one only, but for a box that goes round the earth to the cell that it begins in
  pub cell_once : ((¬ IsGreater b.west.value b.east.value) ⊎ (column are.east < column are.west)) → (k j : ℕ) (x y : Range)
      → slice_get ranges k ≡ Some x → slice_get ranges j ≡ Some y → IsIn x (cell_key place o.id) → IsIn y (cell_key place o.id) → k ≡ j
  cell_once apart k j x y e f p q = one_place (HasKey place o.id in_place) ranges (key_once place o.id in_place b ranges are apart) k j x y e f p q
