-- The ranges of keys in which questions about a set of objects are answered.
-- Source: this project's trees, docs/FORMATS.md.
use Rattle.std.specs.List.{flat_map, range_with_len}
use Rattle.std.specs.Prelude.{◌≡◌, ℕ, ◌+◌, ◌-◌, List, [], ◌∷◌, ◌++◌, ◌⊎◌, map, ℤ, ◌≤ℤ◌, ◌<ℤ◌, Option, Some, None, true, false, ⊤}
use Rattle.osm_model.specs.Boxes.{ExactBox}
use Rattle.osm_model.specs.Edges.{IsGreater, IsCeiling, IsFloor}
use Rattle.osm_model.specs.Elements.{kind_byte}
use Rattle.osm_model.specs.Places.{IsPlace}
use Rattle.osm_model.specs.declared.kind.Kind.{Kind}
use Rattle.osm_model.specs.declared.reference.Ref.{Ref}
use Rattle.tree_walk.specs.Ranges.{Range}
use Rattle.osm_keys.specs.Keys.{cell_bytes, column, last_column, ref_key, row, tag_prefix}

-- the keys that begin with these bytes
abbrev pub under_all : List ℕ → Range
under_all front = record { lo = front; hi = front; under = true }

-- one object
abbrev pub object_range : Ref → Range
object_range r = record { lo = ref_key r; hi = ref_key r; under = false }

-- all objects of a kind
abbrev pub kind_range : Kind → Range
kind_range kind = under_all (kind_byte kind ∷ [])

-- a kind's byte, or nothing for all kinds
abbrev pub kind_bytes : Option Kind → List ℕ
kind_bytes None = []
kind_bytes (Some kind) = kind_byte kind ∷ []

-- the reference is of this kind; of any, where none is given
abbrev pub IsKindOf : Option Kind → Ref → Type 0
IsKindOf None r = ⊤
IsKindOf (Some kind) r = r.kind ≡ kind

-- the objects of a kind, or of all kinds, that have this tag
abbrev pub tag_range : List ℕ → List ℕ → Option Kind → Range
tag_range key value kind = under_all (tag_prefix key value ++ kind_bytes kind)

-- the objects of all kinds that have a tag with this key
abbrev pub tag_key_range : List ℕ → Range
tag_key_range key = under_all (key ++ 0 ∷ [])

-- the objects of a kind, or of all kinds, that list this one
abbrev pub back_range : Ref → Option Kind → Range
back_range target kind = under_all (ref_key target ++ kind_bytes kind)

-- ---- the cells that a box meets

-- the cells of a row from one column to another
abbrev pub cell_range : ℕ → ℕ × ℕ → Range
cell_range row columns = record { lo = cell_bytes row columns.0; hi = cell_bytes row columns.1; under = true }

-- the rows from one latitude to another: none where the first is above the second
abbrev pub AreRows : ℤ → ℤ → List ℕ → Type 0
AreRows south north rows =
    ((north <ℤ south) × (rows ≡ [])) ⊎ ((south ≤ℤ north) × (rows ≡ range_with_len (row south) (row north + 1 - row south)))

-- The first and last columns in each row: from west to east, none where west is above east. A box that crosses the
-- 180th meridian goes from west to the last column, and from column 0 to east.
abbrev pub AreColumns : ExactBox → ℤ → ℤ → List (ℕ × ℕ) → Type 0
AreColumns b west east columns =
    (IsGreater b.west.value b.east.value × (columns ≡ (column west, last_column) ∷ (0, column east) ∷ []))
    ⊎ ((¬ IsGreater b.west.value b.east.value) × (((east <ℤ west) × (columns ≡ [])) ⊎ ((west ≤ℤ east) × (columns ≡ (column west, column east) ∷ []))))

-- the ranges of the cells that a box meets: row by row from the south, with the least units that aren't below its
-- southern and western edges and the greatest that aren't above its northern and eastern ones. These make two
-- locations, the corners.
pub record AreCellRanges (b : ExactBox) (ranges : List Range) : Type 0 where
  pub south : ℤ
  pub west : ℤ
  pub north : ℤ
  pub east : ℤ
  pub south_is : IsCeiling b.south.value south
  pub west_is : IsCeiling b.west.value west
  pub north_is : IsFloor b.north.value north
  pub east_is : IsFloor b.east.value east
  pub southwest : IsPlace (record { lon = west; lat = south })
  pub northeast : IsPlace (record { lon = east; lat = north })
  pub rows : List ℕ
  pub columns : List (ℕ × ℕ)
  pub rows_are : AreRows south north rows
  pub columns_are : AreColumns b west east columns
  pub ranges_are : ranges ≡ flat_map (λ row. map (cell_range row) columns) rows
