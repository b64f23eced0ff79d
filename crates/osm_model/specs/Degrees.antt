-- What decimal text says in 1e-7 degree, apart from how it is read or written.
-- Source: degrees as Osmium's OPL manual and the OpenStreetMap API 0.6 spell them; without exponents (this project).
use Rattle.std.specs.Prelude.{◌≡◌, ◌≢◌, ℕ, ◌-◌, ◌*◌, ◌^◌, ◌<◌, ◌≤◌, ℤ, pos, neg_ℤ, unsigned_abs, Bool, true, false, List, [], ◌∷◌, ◌++◌, length, Option, Some, None, ⊤}
use Rattle.std.specs.Str.Parse.{AllDigits, digits_value}
use Rattle.osm_model.specs.Bytes.{hyphen, dot}
use Rattle.osm_model.specs.declared.axis.Axis.{Axis}
use Rattle.osm_model.specs.declared.axis.Axis.TheVariants.{Lon, Lat}
use Rattle.osm_model.specs.declared.fault.ModelFault.{ModelFault}
use Rattle.osm_model.specs.declared.fault.ModelFault.TheVariants.{EmptyNumber, NotDecimal, TooManyDecimals, OutOfRange, SouthAboveNorth, ObjectTwice, KeyTwice, LimitPassed, NulInText}

-- the parts of a decimal
pub record Decimal : Type 0 where
  pub negative : Bool
  pub whole : List ℕ
  pub fraction : Option (List ℕ)

-- a minus, or nothing
abbrev pub sign : Bool → List ℕ
sign true = hyphen ∷ []
sign false = []

-- a point and digits, or nothing
abbrev pub point : Option (List ℕ) → List ℕ
point None = []
point (Some digits) = dot ∷ digits

abbrev pub spelling : Decimal → List ℕ
spelling d = sign d.negative ++ (d.whole ++ point d.fraction)

abbrev pub IsDigits : List ℕ → Type 0
IsDigits digits = (digits ≢ []) × AllDigits 10 digits

abbrev pub IsFraction : Option (List ℕ) → Type 0
IsFraction None = ⊤
IsFraction (Some digits) = IsDigits digits

-- one or more digits, and where there is a point one or more after it
pub record IsDecimal (d : Decimal) : Type 0 where
  pub whole : IsDigits d.whole
  pub fraction : IsFraction d.fraction

-- the digits after the point: none where there is none
abbrev pub decimals : Option (List ℕ) → List ℕ
decimals None = []
decimals (Some digits) = digits

-- without its sign: all digits as one number, in the unit of seven decimals
abbrev pub units : Decimal → ℕ
units d = digits_value 10 (d.whole ++ decimals d.fraction) * 10 ^ (7 - length (decimals d.fraction))

abbrev pub with_sign : Bool → ℕ → ℤ
with_sign true n = neg_ℤ (pos n)
with_sign false n = pos n

abbrev pub value : Decimal → ℤ
value d = with_sign d.negative (units d)

-- the text is this decimal
pub record Spells (text : List ℕ) (d : Decimal) : Type 0 where
  pub decimal : IsDecimal d
  pub text_is : text ≡ spelling d

-- the text is a decimal of up to seven decimals, and has this value
pub record IsDegrees (text : List ℕ) (z : ℤ) : Type 0 where
  pub parts : Decimal
  pub spells : Spells text parts
  pub fine : length (decimals parts.fraction) ≤ 7
  pub value_is : value parts ≡ z

-- how far an axis goes from 0
abbrev pub limit : Axis → ℕ
limit Lon = 1800000000
limit Lat = 900000000

-- the first fault that holds of the text
abbrev pub IsFault : List ℕ → Axis → ModelFault → Type 0
IsFault text axis EmptyNumber = text ≡ []
IsFault text axis NotDecimal = (text ≢ []) × ((d : Decimal) → Spells text d → ⊥)
IsFault text axis TooManyDecimals = (d : Decimal) × Spells text d × (7 < length (decimals d.fraction))
IsFault text axis OutOfRange = (z : ℤ) × IsDegrees text z × (limit axis < unsigned_abs z)
IsFault text axis SouthAboveNorth = ⊥
IsFault text axis ObjectTwice = ⊥
IsFault text axis KeyTwice = ⊥
IsFault text axis LimitPassed = ⊥
IsFault text axis NulInText = ⊥
