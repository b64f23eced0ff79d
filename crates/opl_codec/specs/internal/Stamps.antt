-- How far the numbers of a moment go: words of the reader's own clauses.
-- Source: this project.
use Rattle.std.specs.Prelude.{◌≡◌, ℕ, ◌<◌, List, ◌∷◌, ◌++◌}
use Rattle.osm_model.specs.CanonicalLine.{two_digits}

-- the text begins with the two digits of this number
pub record BeginsWithTwo (text : List ℕ) (n : ℕ) (rest : List ℕ) : Type 0 where
  pub small : n < 100
  pub parts : text ≡ two_digits n ++ rest

-- the text begins with a separator and the two digits of this number
pub record BeginsWithPart (separator : ℕ) (text : List ℕ) (n : ℕ) (rest : List ℕ) : Type 0 where
  pub digits : List ℕ
  pub parts : text ≡ separator ∷ digits
  pub two : BeginsWithTwo digits n rest
