-- The edges of bounding boxes: exact decimals of any length, and how they compare with units of 1e-7
-- degree and with one another.
-- Source: bounding boxes of the Overpass query language; exact comparison is this project's.
use Rattle.std.specs.Prelude.{◌≡◌, ◌≢◌, ◌↔◌, ℕ, ◌*◌, ◌^◌, ◌≤◌, ℤ, pos, ◌*ℤ◌, ◌≤ℤ◌, ◌<ℤ◌, List, [], ◌++◌, length}
use Rattle.std.specs.Str.Parse.{digits_value}
use Rattle.osm_model.specs.Degrees.{Decimal, Spells, IsDecimal, decimals, with_sign, limit}
use Rattle.osm_model.specs.declared.axis.Axis.{Axis}
use Rattle.osm_model.specs.declared.fault.ModelFault.{ModelFault}
use Rattle.osm_model.specs.declared.fault.ModelFault.TheVariants.{EmptyNumber, NotDecimal, TooManyDecimals, OutOfRange, SouthAboveNorth, ObjectTwice, KeyTwice, LimitPassed, NulInText}

-- a decimal is the fraction `numerator / scale`: all its digits as one number, over a power of ten
abbrev pub size : Decimal → ℕ
size d = digits_value 10 (d.whole ++ decimals d.fraction)

abbrev pub numerator : Decimal → ℤ
numerator d = with_sign d.negative (size d)

abbrev pub scale : Decimal → ℕ
scale d = 10 ^ length (decimals d.fraction)

-- u units of 1e-7 degree are at most the decimal: u / 10 ^ 7 ≤ numerator / scale
abbrev pub IsAtMost : ℤ → Decimal → Type 0
IsAtMost u d = (u *ℤ pos (scale d)) ≤ℤ (numerator d *ℤ pos (10 ^ 7))

-- u units of 1e-7 degree are at least the decimal
abbrev pub IsAtLeast : ℤ → Decimal → Type 0
IsAtLeast u d = (numerator d *ℤ pos (10 ^ 7)) ≤ℤ (u *ℤ pos (scale d))

-- the greatest whole number of units that is at most the decimal: just those up to it are
abbrev pub IsFloor : Decimal → ℤ → Type 0
IsFloor d floor = (u : ℤ) → (IsAtMost u d ↔ (u ≤ℤ floor))

-- the least whole number of units that is at least the decimal: just those from it on are
abbrev pub IsCeiling : Decimal → ℤ → Type 0
IsCeiling d ceiling = (u : ℤ) → (IsAtLeast u d ↔ (ceiling ≤ℤ u))

-- the first decimal is greater than the second
abbrev pub IsGreater : Decimal → Decimal → Type 0
IsGreater d e = (numerator e *ℤ pos (scale d)) <ℤ (numerator d *ℤ pos (scale e))

-- the decimal, which counts degrees, is no farther from 0 than the axis goes
abbrev pub IsOnAxis : Axis → Decimal → Type 0
IsOnAxis axis d = size d * 10 ^ 7 ≤ limit axis * scale d

-- a decimal of an axis
pub record ExactEdge : Type 0 where
  pub axis : Axis
  pub value : Decimal

-- what every edge is
pub record IsEdge (e : ExactEdge) : Type 0 where
  pub decimal : IsDecimal e.value
  pub within : IsOnAxis e.axis e.value

-- the first fault that holds of the text of an edge
abbrev pub IsEdgeFault : List ℕ → Axis → ModelFault → Type 0
IsEdgeFault text axis EmptyNumber = text ≡ []
IsEdgeFault text axis NotDecimal = (text ≢ []) × ((d : Decimal) → Spells text d → ⊥)
IsEdgeFault text axis OutOfRange = (d : Decimal) × Spells text d × (¬ (IsOnAxis axis d))
IsEdgeFault text axis TooManyDecimals = ⊥
IsEdgeFault text axis SouthAboveNorth = ⊥
IsEdgeFault text axis ObjectTwice = ⊥
IsEdgeFault text axis KeyTwice = ⊥
IsEdgeFault text axis LimitPassed = ⊥
IsEdgeFault text axis NulInText = ⊥
