-- Boxes: `south,west,north,east`.
-- Source: the Overpass QL page of the OpenStreetMap wiki, "Bounding box"; that an edge is exact at any
-- number of digits, and how far an axis goes, is this project's.
use Rattle.std.specs.Prelude.{◌≡◌, ℕ, List}
use Rattle.osm_model.specs.Boxes.{ExactBox}
use Rattle.osm_model.specs.Degrees.{Decimal}
use Rattle.osm_model.specs.Edges.{IsOnAxis, IsGreater}
use Rattle.osm_model.specs.declared.axis.Axis.TheVariants.{Lon, Lat}
use Rattle.ql_syntax.specs.Rules.{Rule}
use Rattle.ql_syntax.specs.declared.cause.QlCause.TheVariants as causes

-- the four numbers, in the order of the query
pub record Corners : Type 0 where
  pub south : Decimal
  pub west : Decimal
  pub north : Decimal
  pub east : Decimal

-- each is in the range of its axis, and south isn't above north
pub record AreBox (corners : Corners) : Type 0 where
  pub south : IsOnAxis Lat corners.south
  pub west : IsOnAxis Lon corners.west
  pub north : IsOnAxis Lat corners.north
  pub east : IsOnAxis Lon corners.east
  pub upright : ¬ (IsGreater corners.south corners.north)

-- the box with these corners
abbrev pub box_of : Corners → ExactBox
box_of corners = record {
  south = record { axis = Lat; value = corners.south };
  west = record { axis = Lon; value = corners.west };
  north = record { axis = Lat; value = corners.north };
  east = record { axis = Lon; value = corners.east };
}

-- the box with these corners; where they are none, that is told at this place
unfoldable pub area : Corners → List ℕ → Rule ExactBox
area corners at = record {
  reads = λ text value rest. AreBox corners × (value ≡ box_of corners) × (rest ≡ text);
  stops = λ text cause place. (¬ (AreBox corners)) × (cause ≡ causes.BadBox) × (place ≡ at);
}
