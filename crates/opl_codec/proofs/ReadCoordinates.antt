-- Coordinates: what makes none.
use Rattle.std.proofs.Common.{◌≡◌, ◌≢◌, ℕ, List, [], ℤ, length, refl, ap, arith}
use Rattle.osm_model.specs.Degrees.{IsDegrees, IsFault, Decimal, decimals}
use Rattle.osm_model.specs.declared.axis.Axis.{Axis}
use Rattle.osm_model.specs.declared.fault.ModelFault.{ModelFault}
use Rattle.osm_model.specs.declared.fault.ModelFault.TheVariants.{EmptyNumber, NotDecimal, TooManyDecimals, OutOfRange, SouthAboveNorth, ObjectTwice, KeyTwice, LimitPassed, NulInText}
use Rattle.osm_model.proofs.shared.OneDecimal.{one_decimal}

-- a fault other than of the range: no degrees
pub no_degrees : (text : List ℕ) (axis : Axis) (fault : ModelFault) (z : ℤ) → text ≢ [] → (fault ≡ OutOfRange → ⊥) → IsFault text axis fault → IsDegrees text z → ⊥
no_degrees text axis EmptyNumber z some other f h = some f
no_degrees text axis NotDecimal z some other f h = f.1 h.parts h.spells
no_degrees text axis TooManyDecimals z some other f h = let fine = h.fine in let same = one_decimal text h.parts f.0 h.spells f.1 in omega (arith, f.2, ap (λ (d : Decimal). length (decimals d.fraction)) same)
no_degrees text axis OutOfRange z some other f h = other refl
no_degrees text axis SouthAboveNorth z some other f h = f
no_degrees text axis ObjectTwice z some other f h = f
no_degrees text axis KeyTwice z some other f h = f
no_degrees text axis LimitPassed z some other f h = f
no_degrees text axis NulInText z some other f h = f
