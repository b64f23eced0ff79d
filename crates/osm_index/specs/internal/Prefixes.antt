-- The first bytes of a key as a number, by which entries are sorted.
use Rattle.std.specs.Int.{from_be_bytes, w64}
use Rattle.std.specs.Prelude.{ℕ, List, [], ◌∷◌, slice_index}

-- the first eight bytes, with zeros after a shorter key, the first byte the highest
abbrev pub prefix_number : List ℕ → ℕ
prefix_number key =
    from_be_bytes w64 (slice_index key 0 ∷ slice_index key 1 ∷ slice_index key 2 ∷ slice_index key 3 ∷ slice_index key 4 ∷ slice_index key 5 ∷ slice_index key 6 ∷ slice_index key 7 ∷ [])
