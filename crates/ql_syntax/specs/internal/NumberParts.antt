-- The parts of a number in its text, as a decimal.
use Rattle.std.specs.Prelude.{◌≡◌, ℕ, List, ◌∷◌, ◌++◌, None}
use Rattle.osm_model.specs.Bytes.{dot}
use Rattle.byte_io.specs.Digits.{BeginsOtherwise}
use Rattle.osm_model.specs.Degrees.{Decimal, IsFraction, point, spelling}
use Rattle.osm_model.specs.DecimalParts.{fraction_of}
use Rattle.ql_syntax.specs.declared.number.Number.{Number}
use Rattle.ql_syntax.specs.declared.number.Fraction.{Fraction}
use Rattle.ql_syntax.specs.Numbers.{IsNumber}

abbrev pub decimal_of : Number → Decimal
decimal_of n = record { negative = n.negative; whole = n.whole.now; fraction = fraction_of n.fraction }

-- the number at the front of the text, and its spelling
pub record IsNumberOf (text : List ℕ) (n : Number) : Type 0 where
  pub number : IsNumber text (decimal_of n) n.rest.now
  pub spelled : n.text.now ≡ spelling (decimal_of n)

-- the point and the digits after it at the front of the text, or none
pub record IsFractionOf (text : List ℕ) (f : Fraction) : Type 0 where
  pub form : IsFraction (fraction_of f.digits)
  pub parts : text ≡ point (fraction_of f.digits) ++ f.rest.now
  pub longest : BeginsOtherwise f.rest.now
  pub lone_point : fraction_of f.digits ≡ None → (after : List ℕ) → f.rest.now ≡ dot ∷ after → BeginsOtherwise after
