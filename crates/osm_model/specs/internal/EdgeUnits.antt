-- Whole units around an edge: what its private functions count with.
-- Source: this project.
use Rattle.std.specs.Prelude.{ℕ, ◌+◌, ◌*◌, ◌<◌, ◌≤◌, ℤ, Bool, true, false}
use Rattle.osm_model.specs.Degrees.{Decimal, with_sign}
use Rattle.osm_model.specs.Edges.{IsFloor, IsCeiling}

-- the next whole units below and above a decimal, which are one where it is whole
pub record IsBetween (d : Decimal) (floor ceiling : ℤ) : Type 0 where
  pub at_most : IsFloor d floor
  pub at_least : IsCeiling d ceiling

-- the same in numbers without sign: m / k lies between two whole numbers, which are one where it is whole
pub record IsAround (m k floor ceiling : ℕ) : Type 0 where
  pub below : floor * k ≤ m
  pub near_below : m < floor * k + k
  pub above : m ≤ ceiling * k
  pub near_above : ceiling * k < m + k

-- below 0 the next unit below is the one farther from 0
abbrev pub signed_floor : Bool → ℕ → ℕ → ℤ
signed_floor true floor ceiling = with_sign true ceiling
signed_floor false floor ceiling = with_sign false floor

abbrev pub signed_ceiling : Bool → ℕ → ℕ → ℤ
signed_ceiling true floor ceiling = with_sign true floor
signed_ceiling false floor ceiling = with_sign false ceiling
