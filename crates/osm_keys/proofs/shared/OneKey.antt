-- Which object the key of an entry names.
use Rattle.std.proofs.Common.{◌≡◌, ℕ, ℤ, FitsSigned, w64, List, ◌++◌, take, drop, length, to_z, w32, refl, sym, ap, ◌∙◌, arith, unsigned_abs, ◌≤◌}
use Rattle.std.specs.Int.{cast_unsigned, from_be_bytes, to_be_bytes}
use Rattle.std.proofs.lemmas.List.{drop_at, length-append, take_at}
use Rattle.osm_model.specs.Places.{IsPlace, Place}
use Rattle.osm_model.specs.declared.reference.Ref.{Ref}
use Rattle.osm_keys.specs.Keys.{back_key, cell_bytes, cell_value, id_bytes, ref_key, tag_key, tag_prefix}
use Rattle.osm_keys.proofs.shared.KeyLengths.{id_len, ref_key_len}
use Rattle.osm_keys.proofs.ReadLemmas.{again}
use Rattle.osm_keys.proofs.shared.OneObject.{same_id, same_ref}

-- what follows fronts, where both have the same length
same_tail : (xs ys a b : List ℕ) → length a ≡ length b → xs ++ a ≡ ys ++ b → a ≡ b
same_tail xs ys a b len e =
    let lengths : length ys ≡ length xs = omega (arith, length-append xs a, length-append ys b, ap length e, len) in
    sym (drop_at xs a (length xs) refl) ∙ ap (λ (l : List ℕ). drop (length xs) l) e ∙ drop_at ys b (length xs) lengths

module _ (r s : Ref) (fits : FitsSigned w64 r.id) (fits_too : FitsSigned w64 s.id) where
  same_after : (xs ys : List ℕ) → xs ++ ref_key r ≡ ys ++ ref_key s → r ≡ s
  same_after xs ys e = same_ref r s fits fits_too (same_tail xs ys (ref_key r) (ref_key s) (ref_key_len r ∙ sym (ref_key_len s)) e)

  -- the object that has a tag
  pub one_tagged : (key value other another : List ℕ) → tag_key key value r ≡ tag_key other another s → r ≡ s
  one_tagged key value other another e = same_after (tag_prefix key value) (tag_prefix other another) e

  -- the object that lists one
  pub one_referrer : (target other : Ref) → back_key target r ≡ back_key other s → r ≡ s
  one_referrer target other e = same_after (ref_key target) (ref_key other) e

-- the node that lies in a cell
pub one_in_cell : (row column other another : ℕ) (y z : ℤ) → FitsSigned w64 y → FitsSigned w64 z → cell_bytes row column ++ id_bytes y ≡ cell_bytes other another ++ id_bytes z → y ≡ z
one_in_cell row column other another y z fits fits_too e =
    same_id y z fits fits_too (same_tail (cell_bytes row column) (cell_bytes other another) (id_bytes y) (id_bytes z) (id_len y ∙ sym (id_len z)) e)

-- where it lies
place_of_parts : (p q : Place) → p.lon ≡ q.lon → p.lat ≡ q.lat → p ≡ q
place_of_parts p q e f =
    let of_lon : ℤ → Place = λ z. record { lon = z; lat = p.lat } in
    let of_lat : ℤ → Place = λ z. record { lon = q.lon; lat = z } in
    ap of_lon e ∙ ap of_lat f

pub one_location : (p q : Place) → IsPlace p → IsPlace q → cell_value p ≡ cell_value q → p ≡ q
unfolding cell_value
one_location p q is is_too e =
    let front = λ (r : Place). to_be_bytes w32 (cast_unsigned w32 r.lon) in
    let rest = λ (r : Place). to_be_bytes w32 (cast_unsigned w32 r.lat) in
    let number = λ (bytes : List ℕ). to_z w32 (from_be_bytes w32 bytes) in
    let lons : front p ≡ front q = sym (take_at (front p) (rest p) 4 refl) ∙ ap (λ (l : List ℕ). take 4 l) e ∙ take_at (front q) (rest q) 4 refl in
    let lats : rest p ≡ rest q = sym (drop_at (front p) (rest p) 4 refl) ∙ ap (λ (l : List ℕ). drop 4 l) e ∙ drop_at (front q) (rest q) 4 refl in
    place_of_parts p q (sym (again p.lon is.lon) ∙ ap number lons ∙ again q.lon is_too.lon) (sym (again p.lat (wide p.lat is.lat)) ∙ ap number lats ∙ again q.lat (wide q.lat is_too.lat))
  where
    wide : (z : ℤ) → unsigned_abs z ≤ 900000000 → unsigned_abs z ≤ 1800000000
    wide z few = omega (arith, few)
