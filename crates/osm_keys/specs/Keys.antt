-- The keys of the four trees of a set of objects. Numbers are written with the greatest byte first.
-- Source: this project's trees, docs/FORMATS.md.
use Rattle.std.specs.Int.{to_be_bytes, cast_unsigned, w16, w32, w64}
use Rattle.std.specs.Prelude.{ℕ, ◌/◌, ◌≤◌, ◌^◌, List, [], ◌∷◌, ◌++◌, ℤ, pos, ◌+ℤ◌, unsigned_abs}
use Rattle.std.specs.Str.{IsUtf8}
use Rattle.osm_model.specs.Degrees.{limit}
use Rattle.osm_model.specs.Elements.{kind_byte}
use Rattle.osm_model.specs.Limits.{HasNoNul, IsShort}
use Rattle.osm_model.specs.Places.{Place}
use Rattle.osm_model.specs.declared.axis.Axis.TheVariants.{Lat, Lon}
use Rattle.osm_model.specs.declared.reference.Ref.{Ref}

-- how far a number is above the least one, which is `least` below 0
abbrev pub above : ℕ → ℤ → ℕ
above least z = unsigned_abs (z +ℤ pos least)

-- an id in eight bytes: the number of ids below it
unfoldable pub id_bytes : ℤ → List ℕ
id_bytes id = to_be_bytes w64 (above (2 ^ 63) id)

-- a reference in nine bytes: its kind and its id
abbrev pub ref_key : Ref → List ℕ
ref_key r = kind_byte r.kind ∷ id_bytes r.id

-- a key and a value, each ended by a NUL
abbrev pub tag_prefix : List ℕ → List ℕ → List ℕ
tag_prefix key value = (key ++ 0 ∷ []) ++ (value ++ 0 ∷ [])

-- a text that a tag of an object may have as its key or its value
pub record IsTagText (text : List ℕ) : Type 0 where
  pub utf8 : IsUtf8 text
  pub no_nul : HasNoNul text
  pub short : IsShort text

-- a tag of the object with this reference
abbrev pub tag_key : List ℕ → List ℕ → Ref → List ℕ
tag_key key value r = tag_prefix key value ++ ref_key r

-- how high and how wide a cell is, in 1e-7 degree: a tenth of a degree
abbrev pub cell_size : ℕ
cell_size = 1000000

-- the row of the cell that a latitude lies in, from the south, and the column that a longitude lies in, from the west
abbrev pub row : ℤ → ℕ
row lat = above (limit Lat) lat / cell_size

abbrev pub column : ℤ → ℕ
column lon = above (limit Lon) lon / cell_size

-- the greatest row, of the north pole
abbrev pub last_row : ℕ
last_row = 1800

-- the greatest column, of longitude 180
abbrev pub last_column : ℕ
last_column = 3600

-- there is a cell in this row and this column
pub record IsCell (row column : ℕ) : Type 0 where
  pub in_rows : row ≤ last_row
  pub in_columns : column ≤ last_column

-- a cell in four bytes
unfoldable pub cell_bytes : ℕ → ℕ → List ℕ
cell_bytes row column = to_be_bytes w16 row ++ to_be_bytes w16 column

-- a node of the map by the cell that it lies in: twelve bytes
abbrev pub cell_key : Place → ℤ → List ℕ
cell_key place id = cell_bytes (row place.lat) (column place.lon) ++ id_bytes id

-- a location: longitude and latitude in 1e-7 degree, four bytes each, as two's complement
unfoldable pub cell_value : Place → List ℕ
cell_value place = to_be_bytes w32 (cast_unsigned w32 place.lon) ++ to_be_bytes w32 (cast_unsigned w32 place.lat)

-- an object that another one lists, and the other one
abbrev pub back_key : Ref → Ref → List ℕ
back_key target referrer = ref_key target ++ ref_key referrer
