-- Ids and the numbers that stand for them in keys.
use Rattle.std.proofs.Common.{◌≡◌, ℕ, List, [], ◌∷◌, ◌++◌, get_or, refl, ◌+◌, ◌%◌, ◌^◌, ◌≤◌, ℤ, pos, negsuc, unsigned_abs, FitsSigned, to_z, of_z, w32, w64, arith}
use Rattle.std.specs.Int.{cast_unsigned}
use Rattle.std.proofs.lemmas.Int.{ints, to_z-of_z}
use Rattle.osm_keys.specs.Keys.{above, cell_bytes, id_bytes}

-- an id is taken as so many ids are below it
pub number_is : (z : ℤ) → FitsSigned w64 z → (cast_unsigned w64 z + 9223372036854775808) % 18446744073709551616 ≡ above (2 ^ 63) z
number_is (pos n) fits = omega (arith, ints)
number_is (negsuc n) fits = omega (arith, ints)

-- a coordinate is in the range of 32 bits
pub few_fits : (z : ℤ) → unsigned_abs z ≤ 1800000000 → FitsSigned w32 z
few_fits (pos n) few = omega (arith, ints)
few_fits (negsuc n) few = omega (arith, ints)

pub same_number : (z : ℤ) → unsigned_abs z ≤ 1800000000 → to_z w32 (of_z w32 z) ≡ z
same_number z few = to_z-of_z w32 z (few_fits z few)

-- four bytes and eight bytes are what they are one by one
pub cell_parts : (cell id : List ℕ) (row column : ℕ) (z : ℤ) → cell ≡ cell_bytes row column → id ≡ id_bytes z
    → (get_or cell 0 0 ∷ get_or cell 1 0 ∷ get_or cell 2 0 ∷ get_or cell 3 0 ∷ get_or id 0 0 ∷ get_or id 1 0 ∷ get_or id 2 0 ∷ get_or id 3 0 ∷ get_or id 4 0 ∷ get_or id 5 0 ∷ get_or id 6 0 ∷ get_or id 7 0 ∷ []) ≡ cell_bytes row column ++ id_bytes z
unfolding cell_bytes id_bytes
cell_parts cell id row column z e f = rw (e, f) refl
