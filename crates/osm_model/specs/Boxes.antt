-- Bounding boxes.
-- Source: bounding boxes of the Overpass query language; a box whose western edge is above its eastern
-- one crosses the 180th meridian.
use Rattle.std.specs.Prelude.{◌≡◌, ◌⊎◌, ℤ}
use Rattle.osm_model.specs.Degrees.{Decimal}
use Rattle.osm_model.specs.Edges.{ExactEdge, IsAtMost, IsAtLeast, IsGreater}
use Rattle.osm_model.specs.Places.{Place}
use Rattle.osm_model.specs.declared.axis.Axis.TheVariants.{Lon, Lat}

-- the four edges
pub record ExactBox : Type 0 where
  pub south : ExactEdge
  pub west : ExactEdge
  pub north : ExactEdge
  pub east : ExactEdge

-- what every box is
pub record IsBox (b : ExactBox) : Type 0 where
  pub south : b.south.axis ≡ Lat
  pub west : b.west.axis ≡ Lon
  pub north : b.north.axis ≡ Lat
  pub east : b.east.axis ≡ Lon
  pub upright : ¬ (IsGreater b.south.value b.north.value)

-- a longitude from west to east, around the earth where west is above east
abbrev pub Spans : Decimal → Decimal → ℤ → Type 0
Spans west east lon = ((¬ (IsGreater west east)) × IsAtLeast lon west × IsAtMost lon east) ⊎ (IsGreater west east × (IsAtLeast lon west ⊎ IsAtMost lon east))

-- the box holds the place
pub record Holds (b : ExactBox) (p : Place) : Type 0 where
  pub above_south : IsAtLeast p.lat b.south.value
  pub below_north : IsAtMost p.lat b.north.value
  pub between : Spans b.west.value b.east.value p.lon
