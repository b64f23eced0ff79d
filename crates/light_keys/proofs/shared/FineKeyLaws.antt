-- Keys of fine cells in order, and what keys and values say.
use Rattle.std.proofs.Common.{◌≡◌, ◌↔◌, ◌⊎◌, inl, inr, ℕ, ◌+◌, ◌*◌, ◌/◌, ◌^◌, ◌<◌, ◌≤◌, ℤ, pos, negsuc, unsigned_abs, FitsSigned, w64, List, ◌++◌, length, drop, refl, sym, ap, subst, ◌∙◌, arith}
use Rattle.std.specs.Ordering.{int_cmp}
use Rattle.std.specs.Prelude.{◌<ℤ◌}
use Rattle.std.specs.declared.cmp.Ordering.{Ordering}
use Rattle.std.specs.declared.cmp.Ordering.TheVariants.{Less, Equal, Greater}
use Rattle.std.proofs.lemmas.Bool.{cases_order}
use Rattle.std.proofs.lemmas.Cmp.{int_ranked}
use Rattle.std.proofs.lemmas.Int.{ints}
use Rattle.osm_model.specs.Places.{IsPlace, Place}
use Rattle.tree_node.specs.Order.{IsBelow}
use Rattle.tree_node.specs.internal.OrderLemmas.{not_itself, order_trans}
use Rattle.osm_keys.specs.Keys.{above, id_bytes}
use Rattle.osm_keys.proofs.shared.OneObject.{same_id}
use Rattle.osm_keys.specs.FineKeys.{IsBefore, IsFineCell, SaysFineCell, fine_cell_key, fine_cell_value, fine_column, fine_corner, fine_row}
use Rattle.light_keys.proofs.FineLemmas.{column_is, latitude_is, line_is, row_is}
use Rattle.light_keys.proofs.shared.FineOrder.{bytes_below, column_few, column_less, corner_below, rest_below, row_few}

-- ---- ids in order

id_rises : (y z : ℤ) → FitsSigned w64 y → FitsSigned w64 z → y <ℤ z → above (2 ^ 63) y < above (2 ^ 63) z
id_rises (pos m) (pos n) f g less = omega (arith, ints)
id_rises (pos m) (negsuc n) f g less = absurd (omega (arith, ints))
id_rises (negsuc m) (pos n) f g less = omega (arith, ints)
id_rises (negsuc m) (negsuc n) f g less = omega (arith, ints)

id_few : (z : ℤ) → FitsSigned w64 z → above (2 ^ 63) z < 18446744073709551616
id_few (pos n) fits = omega (arith, ints)
id_few (negsuc n) fits = omega (arith, ints)

ids_below : (y z : ℤ) → FitsSigned w64 y → FitsSigned w64 z → y <ℤ z → IsBelow (id_bytes y) (id_bytes z)
unfolding id_bytes
ids_below y z f g less =
    let few_y = id_few y f in
    let few_z = id_few z g in
    let none_y : above (2 ^ 63) y / 18446744073709551616 ≡ 0 = omega (arith, few_y) in
    let none_z : above (2 ^ 63) z / 18446744073709551616 ≡ 0 = omega (arith, few_z) in
    bytes_below 8 (above (2 ^ 63) y) (above (2 ^ 63) z) (none_y ∙ sym none_z) (id_rises y z f g less)

-- ---- whole numbers, one of two or the same

cases_of : (y z : ℤ) (o : Ordering) → o ≡ int_cmp y z → (y ≡ z) ⊎ ((y <ℤ z) ⊎ (z <ℤ y))
cases_of y z Less e = inr (inl (int_ranked y z Less e))
cases_of y z Equal e = inl (int_ranked y z Equal e)
cases_of y z Greater e = inr (inr (int_ranked y z Greater e))

int_cases : (y z : ℤ) → (y ≡ z) ⊎ ((y <ℤ z) ⊎ (z <ℤ y))
int_cases y z = cases_of y z (int_cmp y z) refl

-- ---- keys in order

module _ (p q : Place) (y z : ℤ) (is : IsPlace p) (is_too : IsPlace q) (fits : FitsSigned w64 y) (fits_too : FitsSigned w64 z) where
  row_p : fine_row p.lat < 65536
  row_p = omega (arith, row_few p.lat is.lat)

  row_q : fine_row q.lat < 65536
  row_q = omega (arith, row_few q.lat is_too.lat)

  column_p : fine_column p.lon < 4294967296
  column_p = omega (arith, column_few p.lon is.lon)

  column_q : fine_column q.lon < 4294967296
  column_q = omega (arith, column_few q.lon is_too.lon)

  corners : fine_row p.lat * 4294967296 + fine_column p.lon < fine_row q.lat * 4294967296 + fine_column q.lon → IsBelow (fine_cell_key p y) (fine_cell_key q z)
  corners less = corner_below (fine_row p.lat) (fine_column p.lon) (fine_row q.lat) (fine_column q.lon) row_p column_p row_q column_q (id_bytes y) (id_bytes z) less

  -- what comes before has the lower key
  pub before_below : IsBefore p y q z → IsBelow (fine_cell_key p y) (fine_cell_key q z)
  before_below (inl rows) = corners (omega (arith, rows, column_p, column_q))
  before_below (inr (same, inl lons)) = corners (omega (arith, same, column_less p.lon q.lon is.lon lons))
  before_below (inr (same, inr (lons, ids))) =
      let corner : fine_corner (fine_row p.lat) (fine_column p.lon) ≡ fine_corner (fine_row q.lat) (fine_column q.lon) =
      ap (λ (r : ℕ). fine_corner r (fine_column p.lon)) same ∙ ap (λ (l : ℤ). fine_corner (fine_row q.lat) (fine_column l)) lons in
      subst (λ (c : List ℕ). IsBelow (fine_cell_key p y) (c ++ id_bytes z)) corner (rest_below (fine_corner (fine_row p.lat) (fine_column p.lon)) (id_bytes y) (id_bytes z) (ids_below y z fits fits_too ids))

-- one of two comes before the other one, or both have the same key
abbrev AreRanked : Place → ℤ → Place → ℤ → Type 0
AreRanked p y q z = IsBefore p y q z ⊎ (IsBefore q z p y ⊎ (fine_cell_key p y ≡ fine_cell_key q z))

same_key : (p q : Place) (y z : ℤ) → fine_row p.lat ≡ fine_row q.lat → p.lon ≡ q.lon → y ≡ z → fine_cell_key p y ≡ fine_cell_key q z
same_key p q y z rows lons ids =
    ap (λ (r : ℕ). fine_corner r (fine_column p.lon) ++ id_bytes y) rows ∙ ap (λ (l : ℤ). fine_corner (fine_row q.lat) (fine_column l) ++ id_bytes y) lons ∙ ap (λ (i : ℤ). fine_corner (fine_row q.lat) (fine_column q.lon) ++ id_bytes i) ids

ranked : (p q : Place) (y z : ℤ) → AreRanked p y q z
ranked p q y z =
    elim (cases_order (fine_row p.lat) (fine_row q.lat)) [
      | inr (inl lt) ↦ inl (inl lt)
      | inr (inr gt) ↦ inr (inl (inl gt))
      | inl rows ↦ elim (int_cases p.lon q.lon) [
        | inr (inl lt) ↦ inl (inr (rows, inl lt))
        | inr (inr gt) ↦ inr (inl (inr (sym rows, inl gt)))
        | inl lons ↦ elim (int_cases y z) [
          | inr (inl lt) ↦ inl (inr (rows, inr (lons, lt)))
          | inr (inr gt) ↦ inr (inl (inr (sym rows, inr (sym lons, gt))))
          | inl ids ↦ inr (inr (same_key p q y z rows lons ids))
        ]
      ]
    ]

below_before : (p q : Place) (y z : ℤ) → IsPlace p → IsPlace q → FitsSigned w64 y → FitsSigned w64 z → AreRanked p y q z → IsBelow (fine_cell_key p y) (fine_cell_key q z) → IsBefore p y q z
below_before p q y z is is_too fits fits_too (inl before) below = before
below_before p q y z is is_too fits fits_too (inr (inl after)) below =
    absurd (not_itself (fine_cell_key p y) (fine_cell_key p y) (order_trans (fine_cell_key p y) (fine_cell_key q z) (fine_cell_key p y) below (before_below q p z y is_too is fits_too fits after)) refl)
below_before p q y z is is_too fits fits_too (inr (inr same)) below = absurd (not_itself (fine_cell_key p y) (fine_cell_key q z) below same)

pub keys_as_places : (p q : Place) (y z : ℤ) → IsPlace p → IsPlace q → FitsSigned w64 y → FitsSigned w64 z → IsBelow (fine_cell_key p y) (fine_cell_key q z) ↔ IsBefore p y q z
keys_as_places p q y z is is_too fits fits_too = (below_before p q y z is is_too fits fits_too (ranked p q y z), before_below p q y z is is_too fits fits_too)

-- ---- what is written, and what it says

pub written_says : (place : Place) → IsPlace place → (id : ℤ) (line : List ℕ) → length line ≡ 32 → SaysFineCell (fine_cell_key place id) (fine_cell_value place.lat line) (fine_row place.lat) place id line
written_says place is id line wide = record {
  key_is = refl;
  value_is = refl;
  in_rows = row_few place.lat is.lat;
  is_place = is;
  wide = wide;
}

place_of_parts : (p q : Place) → p.lon ≡ q.lon → p.lat ≡ q.lat → p ≡ q
place_of_parts p q e f =
    let of_lon : ℤ → Place = λ z. record { lon = z; lat = p.lat } in
    let of_lat : ℤ → Place = λ z. record { lon = q.lon; lat = z } in
    ap of_lon e ∙ ap of_lat f

-- two longitudes in one column are the same
one_column : (y z : ℤ) → unsigned_abs y ≤ 1800000000 → unsigned_abs z ≤ 1800000000 → fine_column y ≡ fine_column z → y ≡ z
one_column y z few few_too e =
    elim (int_cases y z) [
      | inl same ↦ same
      | inr (inl less) ↦ absurd (omega (arith, e, column_less y z few less))
      | inr (inr more) ↦ absurd (omega (arith, e, column_less z y few_too more))
    ]

after_corner : (key : List ℕ) (row column : ℕ) (id : ℤ) → key ≡ fine_corner row column ++ id_bytes id → drop 6 key ≡ id_bytes id
unfolding fine_corner
after_corner key row column id e = ap (λ (l : List ℕ). drop 6 l) e

pub one_fine_cell : (key value : List ℕ) (row other : ℕ) (p q : Place) (y z : ℤ) (line another : List ℕ) → FitsSigned w64 y → FitsSigned w64 z → SaysFineCell key value row p y line → SaysFineCell key value other q z another → (row ≡ other) × (p ≡ q) × (y ≡ z) × (line ≡ another)
one_fine_cell key value row other p q y z line another fits fits_too says says_too =
    let cell : IsFineCell row (fine_column p.lon) = record { in_rows = says.in_rows; in_columns = column_few p.lon says.is_place.lon } in
    let cell_too : IsFineCell other (fine_column q.lon) = record { in_rows = says_too.in_rows; in_columns = column_few q.lon says_too.is_place.lon } in
    let columns = sym (column_is key row (fine_column p.lon) y cell says.key_is) ∙ column_is key other (fine_column q.lon) z cell_too says_too.key_is in
    let lats = sym (latitude_is value line p.lat says.is_place.lat says.value_is) ∙ latitude_is value another q.lat says_too.is_place.lat says_too.value_is in
    let ids = sym (after_corner key row (fine_column p.lon) y says.key_is) ∙ after_corner key other (fine_column q.lon) z says_too.key_is in (
      sym (row_is key row (fine_column p.lon) y cell says.key_is) ∙ row_is key other (fine_column q.lon) z cell_too says_too.key_is,
      place_of_parts p q (one_column p.lon q.lon says.is_place.lon says_too.is_place.lon columns) lats,
      same_id y z fits fits_too ids,
      sym (line_is value line p.lat says.value_is) ∙ line_is value another q.lat says_too.value_is,
    )
