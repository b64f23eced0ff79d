-- The values of numbers without a point.
-- Source: ids of 64 bits with a sign (OpenStreetMap API 0.6); limits of 64 bits without one (this project).
use Rattle.std.specs.Prelude.{◌≡◌, ℕ, ◌<◌, ◌^◌, ℤ, pos, FitsSigned, None, List}
use Rattle.std.specs.Int.{w64}
use Rattle.std.specs.Str.Parse.{digits_value}
use Rattle.osm_model.specs.Degrees.{Decimal, with_sign}
use Rattle.ql_syntax.specs.Rules.{Rule}
use Rattle.ql_syntax.specs.declared.cause.QlCause.TheVariants as causes

-- the number has no point, and this value
pub record IsWhole (number : Decimal) (value : ℤ) : Type 0 where
  pub no_point : number.fraction ≡ None
  pub value_is : with_sign number.negative (digits_value 10 number.whole) ≡ value

-- an id: 64 bits with a sign
abbrev pub IsId : Decimal → ℤ → Type 0
IsId number value = IsWhole number value × FitsSigned w64 value

-- a count: 64 bits without one, so that `-0` is one too
abbrev pub IsCount : Decimal → ℕ → Type 0
IsCount number value = IsWhole number (pos value) × (value < 2 ^ 64)

-- the value of a number by this measure; a number that has none is out of range, at its place
abbrev pub value_of : {V : Type 0} → (Decimal → V → Type 0) → Decimal → List ℕ → Rule V
value_of Has number place = record {
  reads = λ text value rest. Has number value × (rest ≡ text);
  stops = λ text cause at. ((value : _) → Has number value → ⊥) × (cause ≡ causes.NumberOutOfRange) × (at ≡ place);
}

-- the id that a number is
unfoldable pub id_of : Decimal → List ℕ → Rule ℤ
id_of = value_of IsId

-- the count that a number is
unfoldable pub count_of : Decimal → List ℕ → Rule ℕ
count_of = value_of IsCount
