-- Numbers: an optional `-`, digits, and optionally `.` and digits.
-- Source: numbers of the Overpass QL page of the OpenStreetMap wiki, without a leading `+` and without
-- exponents (this project).
use Rattle.std.specs.Prelude.{◌≡◌, ℕ, ◌==◌, Bool, false, List, [], ◌∷◌, ◌++◌, None}
use Rattle.osm_model.specs.Bytes.{dot, hyphen}
use Rattle.byte_io.specs.Digits.{BeginsOtherwise}
use Rattle.osm_model.specs.Degrees.{Decimal, IsDecimal, sign, spelling}
use Rattle.ql_syntax.specs.declared.cause.QlCause.{QlCause}
use Rattle.ql_syntax.specs.declared.cause.QlCause.TheVariants as causes
use Rattle.ql_syntax.specs.Words.{begins_with}

abbrev pub is_minus : ℕ → Bool
is_minus b = b == hyphen

-- the number is the longest one at the front of the text: no digit follows it, and where it has no
-- fraction, no point with a digit after it; a point without one is no part of a number
pub record IsNumber (text : List ℕ) (number : Decimal) (rest : List ℕ) : Type 0 where
  pub decimal : IsDecimal number
  pub parts : text ≡ spelling number ++ rest
  pub longest : BeginsOtherwise rest
  pub lone_point : number.fraction ≡ None → (after : List ℕ) → rest ≡ dot ∷ after → BeginsOtherwise after

-- the text ends here, or something stands here that fits nothing
abbrev pub IsMisfit : List ℕ → QlCause → Type 0
IsMisfit [] cause = cause ≡ causes.UnexpectedEnd
IsMisfit (b ∷ s) cause = cause ≡ causes.UnexpectedCharacter

-- why no number stands at the front of the text, and the place where it breaks off: there is no digit,
-- after a sign or without one
pub record IsNoNumber (text : List ℕ) (cause : QlCause) (place : List ℕ) : Type 0 where
  pub negative : Bool
  pub parts : text ≡ sign negative ++ place
  pub no_digit : BeginsOtherwise place
  pub no_minus : negative ≡ false → begins_with is_minus place ≡ false
  pub misfit : IsMisfit place cause
