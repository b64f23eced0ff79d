-- Steps through a text between quotes.
use Rattle.std.specs.Prelude.{◌≡◌, ◌≢◌, ◌<◌, ◌⊎◌, ℕ, List, [], ◌∷◌, ◌++◌, length, ⊤}
use Rattle.osm_model.specs.Bytes.{backslash}
use Rattle.ql_syntax.specs.QuotedTexts.{Passes}

-- the byte stands for itself
abbrev pub IsLiteral : ℕ → ℕ → Type 0
IsLiteral quote b = (b ≢ quote) × (b ≢ backslash) × (b ≢ 0)

-- a byte that may not stand for itself comes first, or nothing
abbrev pub EndsLiterals : ℕ → List ℕ → Type 0
EndsLiterals quote [] = ⊤
EndsLiterals quote (b ∷ rest) = (b ≡ quote) ⊎ ((b ≡ backslash) ⊎ (b ≡ 0))

-- pieces were taken from one place to another, and what they stand for added
pub record Takes (quote : ℕ) (from to old new : List ℕ) : Type 0 where
  pub bytes : List ℕ
  pub passes : Passes quote from to bytes
  pub added : new ≡ old ++ bytes
  pub shorter : length to < length from

-- the closing quote stands at the place, and nothing was added
pub record Closes (quote : ℕ) (place old new : List ℕ) : Type 0 where
  pub rest : List ℕ
  pub closed : place ≡ quote ∷ rest
  pub kept : new ≡ old
