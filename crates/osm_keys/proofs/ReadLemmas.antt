-- Keys, values and manifests that are read.
use Rattle.std.proofs.Common.{◌≡◌, inl, inr, ℕ, suc, ◌+◌, ◌%◌, ◌^◌, ◌<◌, ◌≤◌, ℤ, pos, negsuc, unsigned_abs, FitsSigned, to_z, of_z, w16, w32, w64, true, false, nat_eq, List, [], ◌∷◌, ◌++◌, length, take, drop, get_or, refl, sym, ap, subst, ◌∙◌, append_assoc, arith}
use Rattle.std.specs.Int.{cast_unsigned, from_be_bytes, to_be_bytes}
use Rattle.std.specs.List.{AllByRecursion}
use Rattle.std.specs.Cmp.Lexicographic.{pointwise, same_text}
use Rattle.std.proofs.lemmas.Bool.{cases_lt}
use Rattle.std.proofs.lemmas.Int.{ints, of_z-to_z, to_z-of_z}
use Rattle.std.proofs.lemmas.List.{length-append, length-take, take-append-drop, get_or-take, get_or_past}
use Rattle.std.proofs.lemmas.List.Elements.{All-from_recursion}
use Rattle.byte_io.specs.Pieces.{Lacks}
use Rattle.osm_model.specs.Elements.{kind_byte}
use Rattle.osm_model.specs.Limits.{HasNoNul}
use Rattle.osm_model.specs.Places.{IsPlace, Place}
use Rattle.osm_model.specs.declared.kind.Kind.{Kind}
use Rattle.osm_model.specs.declared.kind.Kind.TheVariants as kinds
use Rattle.tree_node.specs.Nodes.{AreBytes}
use Rattle.tree_node.specs.declared.tree.Tree.{Tree}
use Rattle.tree_node.specs.declared.tree.Tree.TheVariants.{Objects, Tags, Cells, Backs}
use Rattle.tree_node.proofs.shared.FieldLemmas.{AreBytes-drop, wide16, wide32, wide64}
use Rattle.osm_keys.specs.Keys.{IsCell, above, cell_bytes, cell_value, id_bytes, tag_prefix}
use Rattle.osm_keys.specs.Manifests.{HaveWidth, all_tops, edition_bytes, magic, manifest, top_among}
use Rattle.osm_keys.specs.declared.edition.Edition.{Edition}
use Rattle.osm_keys.specs.declared.edition.Edition.TheVariants as editions
use Rattle.osm_keys.proofs.Ids.{few_fits}
use Rattle.osm_keys.proofs.shared.RangeLaws.{cut_at_nul, no_nul_from}

-- ---- fronts and rests

pub front_fits : (n : ℕ) (bytes : List ℕ) → AreBytes bytes → AreBytes (take n bytes)
front_fits n bytes h i =
    elim (cases_lt i n) [
      | inl lt ↦ rw (get_or-take n bytes i 0 lt) (h i)
      | inr le ↦ rw (get_or_past (take n bytes) i 0 (let l = length-take n bytes in omega (arith, l, le))) (omega arith)
    ]

-- the front and the rest of bytes
pub whole : (n : ℕ) (bytes front rest : List ℕ) → front ≡ take n bytes → rest ≡ drop n bytes → bytes ≡ front ++ rest
whole n bytes front rest e f = rw (e, f) (sym (take-append-drop n bytes))

pub front_long : (n : ℕ) (bytes front rest : List ℕ) → front ≡ take n bytes → length rest + n ≡ length bytes → length front ≡ n
front_long n bytes front rest e len = let l = length-take n bytes in let m = ap length e in omega (arith, l, m, len)

-- ---- kinds, ids and references

pub no_kind : (byte : ℕ) → (byte ≡ 1 → ⊥) → (byte ≡ 2 → ⊥) → (byte ≡ 3 → ⊥) → (kind : Kind) → kind_byte kind ≡ byte → ⊥
no_kind byte a b c kinds.Node e = a (sym e)
no_kind byte a b c kinds.Way e = b (sym e)
no_kind byte a b c kinds.Rel e = c (sym e)

-- the bytes of an id are read back
pub id_again : (bytes : List ℕ) (z : ℤ) → length bytes ≡ 8 → AreBytes bytes → above (2 ^ 63) z ≡ from_be_bytes w64 bytes → id_bytes z ≡ bytes
unfolding id_bytes
id_again bytes z len fits e = rw e (wide64.back bytes len fits)

-- the number of ids below an id, from the bits of the id
number_back : (n : ℕ) (z : ℤ) → n < 2 ^ 64 → FitsSigned w64 z → of_z w64 z ≡ (n + 9223372036854775808) % 18446744073709551616 → above (2 ^ 63) z ≡ n
number_back n (pos k) lt fits e = omega (arith, ints)
number_back n (negsuc k) lt fits e = omega (arith, ints)

-- the id of eight bytes
pub id_read : (bytes : List ℕ) (n : ℕ) (z : ℤ) → length bytes ≡ 8 → AreBytes bytes → FitsSigned w64 z → n ≡ from_be_bytes w64 bytes → z ≡ to_z w64 ((n + 9223372036854775808) % 18446744073709551616) → id_bytes z ≡ bytes
id_read bytes n z len fits fits_id e f =
    let lt : n < 2 ^ 64 = let b = wide64.below bytes fits in omega (arith, b, e) in
    let bits : of_z w64 z ≡ (n + 9223372036854775808) % 18446744073709551616 = ap (λ (y : ℤ). of_z w64 y) f ∙ of_z-to_z w64 ((n + 9223372036854775808) % 18446744073709551616) (omega arith) in
    id_again bytes z len fits (number_back n z lt fits_id bits ∙ e)

-- ---- tags

-- two texts, each ended by a NUL
pub tag_flat : (key value rest : List ℕ) → tag_prefix key value ++ rest ≡ key ++ 0 ∷ (value ++ 0 ∷ rest)
tag_flat key value rest = append_assoc (key ++ 0 ∷ []) (value ++ 0 ∷ []) rest ∙ append_assoc key (0 ∷ []) ((value ++ 0 ∷ []) ++ rest) ∙ ap (λ (t : List ℕ). key ++ 0 ∷ t) (append_assoc value (0 ∷ []) rest)

pub lacks_none : (text rest : List ℕ) → Lacks 0 (text ++ 0 ∷ rest) → ⊥
lacks_none [] rest h = let e = h.0 in cc
lacks_none (x ∷ text) rest h = lacks_none text rest h.1

pub lacks_apart : (text : List ℕ) → Lacks 0 text → AllByRecursion (λ byte. byte ≡ 0 → ⊥) text
lacks_apart [] h = tt
lacks_apart (x ∷ text) h = ((λ e. let f = rw e at h.0 in cc), lacks_apart text h.1)

pub lacks_no_nul : (text : List ℕ) → Lacks 0 text → HasNoNul text
unfolding HasNoNul
lacks_no_nul text h = All-from_recursion (λ byte. byte ≡ 0 → ⊥) text (lacks_apart text h)

-- a text that ends at the first NUL is the one before any NUL
pub one_text : (bytes first rest text more : List ℕ) → bytes ≡ first ++ 0 ∷ rest → HasNoNul first → HasNoNul text → bytes ≡ text ++ 0 ∷ more → (first ≡ text) × (rest ≡ more)
one_text bytes first rest text more e h k f = cut_at_nul first text rest more (no_nul_from first h) (no_nul_from text k) (sym e ∙ f)

-- ---- cells

pub cell_len : (row column : ℕ) (id : ℤ) → length (cell_bytes row column ++ id_bytes id) ≡ 12
unfolding cell_bytes id_bytes
cell_len row column id = refl

-- a row and a column of two bytes each
pub cell_read : (key row column rest id : List ℕ) (r c : ℕ) → AreBytes key → row ≡ take 2 key → rest ≡ drop 2 key → length rest + 2 ≡ length key → column ≡ take 2 rest → id ≡ drop 2 rest → length id + 2 ≡ length rest → r ≡ from_be_bytes w16 row → c ≡ from_be_bytes w16 column → key ≡ cell_bytes r c ++ id
unfolding cell_bytes
cell_read key row column rest id r c fits e1 e2 l1 e3 e4 l2 e5 e6 =
    let fits_rest : AreBytes rest = subst AreBytes (sym e2) (AreBytes-drop 2 key fits) in
    let first : to_be_bytes w16 r ≡ row = rw e5 (wide16.back row (front_long 2 key row rest e1 l1) (subst AreBytes (sym e1) (front_fits 2 key fits))) in
    let second : to_be_bytes w16 c ≡ column = rw e6 (wide16.back column (front_long 2 rest column id e3 l2) (subst AreBytes (sym e3) (front_fits 2 rest fits_rest))) in
    let parts = whole 2 key row rest e1 e2 ∙ ap (λ (l : List ℕ). row ++ l) (whole 2 rest column id e3 e4) in
    parts ∙ ap (λ (l : List ℕ). l ++ (column ++ id)) (sym first) ∙ ap (λ (l : List ℕ). to_be_bytes w16 r ++ (l ++ id)) (sym second) ∙ sym (append_assoc (to_be_bytes w16 r) (to_be_bytes w16 c) id)

pub row_is : (key : List ℕ) (row column : ℕ) (id : ℤ) → IsCell row column → key ≡ cell_bytes row column ++ id_bytes id → from_be_bytes w16 (take 2 key) ≡ row
unfolding cell_bytes
row_is key row column id is e =
    let low = is.in_rows in
    rw e (wide16.again row (omega (arith, low)))

pub column_is : (key : List ℕ) (row column : ℕ) (id : ℤ) → IsCell row column → key ≡ cell_bytes row column ++ id_bytes id → from_be_bytes w16 (take 2 (drop 2 key)) ≡ column
unfolding cell_bytes
column_is key row column id is e =
    let low = is.in_columns in
    rw e (wide16.again column (omega (arith, low)))

-- ---- locations

pub location_len : (place : Place) → length (cell_value place) ≡ 8
unfolding cell_value
location_len place = refl

pub location_read : (value lon lat : List ℕ) (x y : ℤ) → AreBytes value → lon ≡ take 4 value → lat ≡ drop 4 value → length lat + 4 ≡ length value → length lat ≡ 4 → x ≡ to_z w32 (from_be_bytes w32 lon) → y ≡ to_z w32 (from_be_bytes w32 lat) → value ≡ cell_value (record { lon = x; lat = y })
unfolding cell_value
location_read value lon lat x y fits e1 e2 l1 l2 e3 e4 =
    let fits_lon : AreBytes lon = subst AreBytes (sym e1) (front_fits 4 value fits) in
    let fits_lat : AreBytes lat = subst AreBytes (sym e2) (AreBytes-drop 4 value fits) in
    let first : to_be_bytes w32 (cast_unsigned w32 x) ≡ lon = rw (e3, of_z-to_z w32 (from_be_bytes w32 lon) (wide32.below lon fits_lon)) (wide32.back lon (front_long 4 value lon lat e1 l1) fits_lon) in
    let second : to_be_bytes w32 (cast_unsigned w32 y) ≡ lat = rw (e4, of_z-to_z w32 (from_be_bytes w32 lat) (wide32.below lat fits_lat)) (wide32.back lat l2 fits_lat) in
    whole 4 value lon lat e1 e2 ∙ ap (λ (l : List ℕ). l ++ lat) (sym first) ∙ ap (λ (l : List ℕ). to_be_bytes w32 (cast_unsigned w32 x) ++ l) (sym second)

unsigned_below : (z : ℤ) → unsigned_abs z ≤ 1800000000 → of_z w32 z < 2 ^ 32
unsigned_below (pos n) few = omega (arith, ints)
unsigned_below (negsuc n) few = omega (arith, ints)

-- a number of the range is read back
pub again : (z : ℤ) → unsigned_abs z ≤ 1800000000 → to_z w32 (from_be_bytes w32 (to_be_bytes w32 (cast_unsigned w32 z))) ≡ z
again z few = ap (λ (n : ℕ). to_z w32 n) (wide32.again (of_z w32 z) (unsigned_below z few)) ∙ to_z-of_z w32 z (few_fits z few)

pub lon_is : (value : List ℕ) (place : Place) → IsPlace place → value ≡ cell_value place → to_z w32 (from_be_bytes w32 (take 4 value)) ≡ place.lon
unfolding cell_value
lon_is value place is e = rw e (again place.lon is.lon)

pub lat_is : (value : List ℕ) (place : Place) → IsPlace place → value ≡ cell_value place → to_z w32 (from_be_bytes w32 (drop 4 value)) ≡ place.lat
unfolding cell_value
lat_is value place is e = rw e (again place.lat (let few = is.lat in omega (arith, few)))

-- ---- manifests

-- edition and rest are found in the bytes of both
pub one_rest : (e f : Edition) (rest more : List ℕ) → edition_bytes e ++ rest ≡ edition_bytes f ++ more → rest ≡ more
one_rest editions.One editions.One rest more h = ap (λ (l : List ℕ). drop 1 l) h
one_rest editions.One (editions.Two s) rest more h = absurd (let heads : 1 ≡ 2 = ap (λ (l : List ℕ). get_or l 0 0) h in omega (arith, heads))
one_rest (editions.Two s) editions.One rest more h = absurd (let heads : 2 ≡ 1 = ap (λ (l : List ℕ). get_or l 0 0) h in omega (arith, heads))
one_rest (editions.Two s) (editions.Two t) rest more h = ap (λ (l : List ℕ). drop 9 l) h

-- the sequence of the second edition comes after its number
pub sequence_read : (bytes rest sequence tail : List ℕ) (number n : ℕ) → AreBytes bytes → bytes ≡ number ∷ rest → number ≡ 2 → sequence ≡ take 8 rest → tail ≡ drop 8 rest → length tail + 8 ≡ length rest → n ≡ from_be_bytes w64 sequence → bytes ≡ edition_bytes (editions.Two n) ++ tail
sequence_read bytes rest sequence tail number n fits e two s t len is =
    let fits_rest : AreBytes rest = λ i. subst (λ (l : List ℕ). get_or l (suc i) 0 < 256) e (fits (suc i)) in
    let fits_sequence : AreBytes sequence = subst AreBytes (sym s) (front_fits 8 rest fits_rest) in
    let long : length sequence ≡ 8 = let l = length-take 8 rest in let m = ap length s in omega (arith, l, m, len) in
    let back : to_be_bytes w64 n ≡ sequence = rw is (wide64.back sequence long fits_sequence) in
    e ∙ rw (two, whole 8 rest sequence tail s t) (ap (λ (l : List ℕ). 2 ∷ (l ++ tail)) (sym back))

-- no other bytes begin with `OSMM`
pub no_magic : (bytes rest : List ℕ) → pointwise nat_eq (take 4 bytes) magic ≡ false → bytes ≡ magic ++ rest → ⊥
no_magic bytes rest h e = let f = rw e at h in cc

pub has_magic : (bytes rest : List ℕ) → pointwise nat_eq (take 4 bytes) magic ≡ true → rest ≡ drop 4 bytes → bytes ≡ magic ++ rest
has_magic bytes rest h e = whole 4 bytes magic rest (sym (same_text (take 4 bytes) magic (sym h))) e

-- what comes after `OSMM`
pub after_magic : (bytes rest more : List ℕ) → rest ≡ drop 4 bytes → bytes ≡ magic ++ more → rest ≡ more
after_magic bytes rest more e f = e ∙ ap (λ (l : List ℕ). drop 4 l) f

pub manifest_is : (bytes : List ℕ) (edition : Edition) (tops : Tree → List ℕ) → bytes ≡ manifest edition tops → bytes ≡ magic ++ (edition_bytes edition ++ all_tops tops)
unfolding manifest
manifest_is bytes edition tops e = e

pub manifest_from : (bytes : List ℕ) (edition : Edition) (tops : Tree → List ℕ) → bytes ≡ magic ++ (edition_bytes edition ++ all_tops tops) → bytes ≡ manifest edition tops
unfolding manifest
manifest_from bytes edition tops e = e

-- four digests one after the other
pub four_read : (bytes a b c d rest after last : List ℕ) → a ≡ take 32 bytes → rest ≡ drop 32 bytes → b ≡ take 32 rest → after ≡ drop 32 rest → c ≡ take 32 after → last ≡ drop 32 after → d ≡ last → bytes ≡ a ++ (b ++ (c ++ d))
four_read bytes a b c d rest after last e1 e2 e3 e4 e5 e6 e7 =
    whole 32 bytes a rest e1 e2 ∙ ap (λ (l : List ℕ). a ++ l) (whole 32 rest b after e3 e4 ∙ ap (λ (l : List ℕ). b ++ l) (whole 32 after c last e5 e6 ∙ ap (λ (l : List ℕ). c ++ l) (sym e7)))

pub four_wide : (a b c d : List ℕ) → length a ≡ 32 → length b ≡ 32 → length c ≡ 32 → length d ≡ 32 → HaveWidth (top_among (record { 0 = a } ∷ record { 0 = b } ∷ record { 0 = c } ∷ record { 0 = d } ∷ []))
four_wide a b c d h i j k Objects = h
four_wide a b c d h i j k Tags = i
four_wide a b c d h i j k Cells = j
four_wide a b c d h i j k Backs = k

pub tops_len : (tops : Tree → List ℕ) → HaveWidth tops → length (all_tops tops) ≡ 128
tops_len tops h =
    let a = length-append (tops Objects) (tops Tags ++ (tops Cells ++ tops Backs)) in
    let b = length-append (tops Tags) (tops Cells ++ tops Backs) in
    let c = length-append (tops Cells) (tops Backs) in
    omega (arith, a, b, c, h Objects, h Tags, h Cells, h Backs)
