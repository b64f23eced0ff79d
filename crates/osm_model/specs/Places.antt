-- Locations, in 1e-7 degree.
-- Source: the OpenStreetMap API 0.6; the ranges are this project's.
use Rattle.std.specs.Prelude.{◌≤◌, ℤ, unsigned_abs}
use Rattle.osm_model.specs.Degrees.{limit}
use Rattle.osm_model.specs.declared.axis.Axis.TheVariants.{Lat, Lon}

pub record Place : Type 0 where
  pub lon : ℤ
  pub lat : ℤ

pub record IsPlace (p : Place) : Type 0 where
  pub lon : unsigned_abs p.lon ≤ limit Lon
  pub lat : unsigned_abs p.lat ≤ limit Lat
