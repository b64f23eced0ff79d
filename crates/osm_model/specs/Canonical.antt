-- What makes the spelling of a number the canonical one: it has no character that could be left out.
-- Source: this project.
use Rattle.std.specs.Prelude.{◌≡◌, ◌≢◌, ℕ, ℤ, pos, false, List, [], ◌∷◌, ◌++◌}
use Rattle.osm_model.specs.Bytes.{digit_zero}
use Rattle.osm_model.specs.Degrees.{IsDegrees, decimals}

-- a zero isn't the first digit, unless it is the only one
abbrev pub HasNoLeadingZero : List ℕ → Type 0
HasNoLeadingZero digits = (rest : List ℕ) → digits ≡ digit_zero ∷ rest → rest ≡ []

-- a zero isn't the last digit
abbrev pub HasNoTrailingZero : List ℕ → Type 0
HasNoTrailingZero digits = (front : List ℕ) → digits ≢ front ++ digit_zero ∷ []

-- the text is this value in 1e-7 degree, without needless zeros and without a minus before 0; a point
-- always has digits after it
pub record IsCanonicalDegrees (text : List ℕ) (z : ℤ) : Type 0 where
  pub spelled : IsDegrees text z
  pub whole : HasNoLeadingZero spelled.parts.whole
  pub fraction : HasNoTrailingZero (decimals spelled.parts.fraction)
  pub no_minus_zero : z ≡ pos 0 → spelled.parts.negative ≡ false
