-- Keys and values of fine cells, as they are written and read.
use Rattle.std.proofs.Common.{◌≡◌, ℕ, ◌+◌, ◌≤◌, ℤ, unsigned_abs, to_z, w16, w32, List, [], ◌∷◌, ◌++◌, length, take, drop, get_or, refl, sym, ap, subst, ◌∙◌, append_assoc, append-nil, arith}
use Rattle.std.specs.Int.{cast_unsigned, from_be_bytes, to_be_bytes}
use Rattle.std.proofs.lemmas.Int.{of_z-to_z}
use Rattle.std.proofs.lemmas.List.{length-append}
use Rattle.tree_node.specs.Nodes.{AreBytes}
use Rattle.tree_node.proofs.shared.FieldLemmas.{AreBytes-drop, wide16, wide32}
use Rattle.osm_keys.specs.Keys.{id_bytes}
use Rattle.osm_keys.proofs.ReadLemmas.{again, front_fits, front_long, whole}
use Rattle.osm_keys.specs.FineKeys.{IsFineCell, fine_cell_value, fine_corner, latitude_bytes}
use borrow.Rule.Slice.PartMut.{put_mid}

-- ---- keys

pub key_len : (row column : ℕ) (id : ℤ) → length (fine_corner row column ++ id_bytes id) ≡ 14
unfolding fine_corner id_bytes
key_len row column id = refl

-- six bytes and eight bytes are what they are one by one
pub key_parts : (corner id : List ℕ) (row column : ℕ) (z : ℤ) → corner ≡ fine_corner row column → id ≡ id_bytes z
    → (get_or corner 0 0 ∷ get_or corner 1 0 ∷ get_or corner 2 0 ∷ get_or corner 3 0 ∷ get_or corner 4 0 ∷ get_or corner 5 0 ∷ get_or id 0 0 ∷ get_or id 1 0 ∷ get_or id 2 0 ∷ get_or id 3 0 ∷ get_or id 4 0 ∷ get_or id 5 0 ∷ get_or id 6 0 ∷ get_or id 7 0 ∷ []) ≡ fine_corner row column ++ id_bytes z
unfolding fine_corner id_bytes
key_parts corner id row column z e f = rw (e, f) refl

-- a row of two bytes and a column of four
pub key_read : (key row column rest id : List ℕ) (r c : ℕ) → AreBytes key → row ≡ take 2 key → rest ≡ drop 2 key → length rest + 2 ≡ length key → column ≡ take 4 rest → id ≡ drop 4 rest → length id + 4 ≡ length rest → r ≡ from_be_bytes w16 row → c ≡ from_be_bytes w32 column → key ≡ fine_corner r c ++ id
unfolding fine_corner
key_read key row column rest id r c fits e1 e2 l1 e3 e4 l2 e5 e6 =
    let fits_rest : AreBytes rest = subst AreBytes (sym e2) (AreBytes-drop 2 key fits) in
    let first : to_be_bytes w16 r ≡ row = rw e5 (wide16.back row (front_long 2 key row rest e1 l1) (subst AreBytes (sym e1) (front_fits 2 key fits))) in
    let second : to_be_bytes w32 c ≡ column = rw e6 (wide32.back column (front_long 4 rest column id e3 l2) (subst AreBytes (sym e3) (front_fits 4 rest fits_rest))) in
    let parts = whole 2 key row rest e1 e2 ∙ ap (λ (l : List ℕ). row ++ l) (whole 4 rest column id e3 e4) in
    parts ∙ ap (λ (l : List ℕ). l ++ (column ++ id)) (sym first) ∙ ap (λ (l : List ℕ). to_be_bytes w16 r ++ (l ++ id)) (sym second) ∙ sym (append_assoc (to_be_bytes w16 r) (to_be_bytes w32 c) id)

pub row_is : (key : List ℕ) (row column : ℕ) (id : ℤ) → IsFineCell row column → key ≡ fine_corner row column ++ id_bytes id → from_be_bytes w16 (take 2 key) ≡ row
unfolding fine_corner
row_is key row column id is e =
    let low = is.in_rows in
    rw e (wide16.again row (omega (arith, low)))

pub column_is : (key : List ℕ) (row column : ℕ) (id : ℤ) → IsFineCell row column → key ≡ fine_corner row column ++ id_bytes id → from_be_bytes w32 (take 4 (drop 2 key)) ≡ column
unfolding fine_corner
column_is key row column id is e =
    let low = is.in_columns in
    rw e (wide32.again column (omega (arith, low)))

-- ---- values

pub value_len : (latitude : ℤ) (line : List ℕ) → length (fine_cell_value latitude line) ≡ 4 + length line
unfolding latitude_bytes
value_len latitude line = length-append (to_be_bytes w32 (cast_unsigned w32 latitude)) line

-- four bytes and 32 in place of 36 zeros
pub value_filled : (n : ℕ) (front line : List ℕ) → front ≡ to_be_bytes w32 n
    → put_mid 4 32 (front ++ 0 ∷ 0 ∷ 0 ∷ 0 ∷ 0 ∷ 0 ∷ 0 ∷ 0 ∷ 0 ∷ 0 ∷ 0 ∷ 0 ∷ 0 ∷ 0 ∷ 0 ∷ 0 ∷ 0 ∷ 0 ∷ 0 ∷ 0 ∷ 0 ∷ 0 ∷ 0 ∷ 0 ∷ 0 ∷ 0 ∷ 0 ∷ 0 ∷ 0 ∷ 0 ∷ 0 ∷ 0 ∷ []) line ≡ to_be_bytes w32 n ++ line
value_filled n front line e = rw e (ap (λ (l : List ℕ). to_be_bytes w32 n ++ l) (append-nil line))

pub value_read : (value lat line : List ℕ) (y : ℤ) → AreBytes value → lat ≡ take 4 value → line ≡ drop 4 value → length line + 4 ≡ length value → y ≡ to_z w32 (from_be_bytes w32 lat) → value ≡ fine_cell_value y line
unfolding latitude_bytes
value_read value lat line y fits e1 e2 l1 e3 =
    let fits_lat : AreBytes lat = subst AreBytes (sym e1) (front_fits 4 value fits) in
    let first : to_be_bytes w32 (cast_unsigned w32 y) ≡ lat = rw (e3, of_z-to_z w32 (from_be_bytes w32 lat) (wide32.below lat fits_lat)) (wide32.back lat (front_long 4 value lat line e1 l1) fits_lat) in
    whole 4 value lat line e1 e2 ∙ ap (λ (l : List ℕ). l ++ line) (sym first)

pub latitude_is : (value line : List ℕ) (latitude : ℤ) → unsigned_abs latitude ≤ 900000000 → value ≡ fine_cell_value latitude line → to_z w32 (from_be_bytes w32 (take 4 value)) ≡ latitude
unfolding latitude_bytes
latitude_is value line latitude few e = rw e (again latitude (omega (arith, few)))

pub line_is : (value line : List ℕ) (latitude : ℤ) → value ≡ fine_cell_value latitude line → drop 4 value ≡ line
unfolding latitude_bytes
line_is value line latitude e = ap (λ (l : List ℕ). drop 4 l) e
