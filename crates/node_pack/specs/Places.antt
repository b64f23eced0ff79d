-- Places of records, as packs write them.
-- Source: this project's packs, docs/FORMATS.md.
use Rattle.std.specs.Int.{from_be_bytes, to_be_bytes, w32, w64}
use Rattle.std.specs.Prelude.{ℕ, List, ◌++◌, drop, take}
use Rattle.node_pack.specs.declared.place.Place.{Place}

-- A place: the number of its file in two bytes and its offset there in six, which together are one number of eight bytes,
-- and its length in four.
abbrev pub place_bytes : Place → List ℕ
place_bytes place = to_be_bytes w64 place.at ++ to_be_bytes w32 place.len

-- the place at the front of bytes
abbrev pub first_place : List ℕ → Place
first_place bytes = record { at = from_be_bytes w64 (take 8 bytes); len = from_be_bytes w32 (take 4 (drop 8 bytes)) }

-- what stands at a place of a file
abbrev pub at_place : Place → List ℕ → List ℕ
at_place place file = take place.len (drop place.at file)
