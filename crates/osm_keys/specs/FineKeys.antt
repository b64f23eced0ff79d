-- The keys and values of fine cells. Numbers are written with the greatest byte first.
-- Source: this project.
use Rattle.std.specs.Int.{to_be_bytes, cast_unsigned, w16, w32}
use Rattle.std.specs.Prelude.{◌≡◌, ℕ, ◌/◌, ◌<◌, ◌≤◌, List, ◌++◌, length, ◌⊎◌, ℤ, ◌<ℤ◌}
use Rattle.osm_keys.specs.Keys.{above, id_bytes}
use Rattle.osm_model.specs.Degrees.{limit}
use Rattle.osm_model.specs.Places.{IsPlace, Place}
use Rattle.osm_model.specs.declared.axis.Axis.TheVariants.{Lat, Lon}

-- how high a fine cell is, in 1e-7 degree: a hundredth of a degree
abbrev pub row_height : ℕ
row_height = 100000

-- the row of the fine cell that a latitude lies in, from the south
abbrev pub fine_row : ℤ → ℕ
fine_row lat = above (limit Lat) lat / row_height

-- the column of a longitude, from the west: each unit of 1e-7 degree has its own
abbrev pub fine_column : ℤ → ℕ
fine_column lon = above (limit Lon) lon

-- the greatest row, of the north pole
abbrev pub last_fine_row : ℕ
last_fine_row = 18000

-- the greatest column, of longitude 180
abbrev pub last_fine_column : ℕ
last_fine_column = 3600000000

-- there is a fine cell in this row and this column
pub record IsFineCell (row column : ℕ) : Type 0 where
  pub in_rows : row ≤ last_fine_row
  pub in_columns : column ≤ last_fine_column

-- a row and a column in six bytes
unfoldable pub fine_corner : ℕ → ℕ → List ℕ
fine_corner row column = to_be_bytes w16 row ++ to_be_bytes w32 column

-- a node of the map by the fine cell that it lies in: fourteen bytes
abbrev pub fine_cell_key : Place → ℤ → List ℕ
fine_cell_key place id = fine_corner (fine_row place.lat) (fine_column place.lon) ++ id_bytes id

-- a latitude in four bytes, as two's complement
unfoldable pub latitude_bytes : ℤ → List ℕ
latitude_bytes latitude = to_be_bytes w32 (cast_unsigned w32 latitude)

-- a latitude in 1e-7 degree and the digest of a line: 36 bytes
abbrev pub fine_cell_value : ℤ → List ℕ → List ℕ
fine_cell_value latitude line = latitude_bytes latitude ++ line

-- The entry with this key and this value says that a node with this id lies here and has this line. That the latitude
-- lies in the row of the key isn't asked.
pub record SaysFineCell (key value : List ℕ) (row : ℕ) (place : Place) (id : ℤ) (line : List ℕ) : Type 0 where
  pub key_is : key ≡ fine_corner row (fine_column place.lon) ++ id_bytes id
  pub value_is : value ≡ fine_cell_value place.lat line
  pub in_rows : row ≤ last_fine_row
  pub is_place : IsPlace place
  pub wide : length line ≡ 32

-- a node comes before another one: by row, then by longitude, then by id
abbrev pub IsBefore : Place → ℤ → Place → ℤ → Type 0
IsBefore p y q z =
    (fine_row p.lat < fine_row q.lat)
    ⊎ ((fine_row p.lat ≡ fine_row q.lat) × ((p.lon <ℤ q.lon) ⊎ ((p.lon ≡ q.lon) × (y <ℤ z))))
