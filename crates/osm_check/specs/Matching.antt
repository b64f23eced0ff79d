-- What a matcher knows of a text that was compared with the one that is expected.
-- Source: this project.
use Rattle.std.specs.Prelude.{ℕ, suc, ◌≡◌, ◌≢◌, ◌<◌, Option, Some, None, List, [], ◌∷◌, length, take, slice_get, ◌==◌, if◌then◌else◌}
use Rattle.ql_eval.specs.Lengths.{saturating_u64}

-- how many bytes at the front of both texts are the same
abbrev pub common : List ℕ → List ℕ → ℕ
common [] other = 0
common (x ∷ xs) [] = 0
common (x ∷ xs) (y ∷ ys) = if x == y then suc (common xs ys) else 0

-- the texts are alike up to this place, and there they differ, or one of them ends
pub record IsFirstDifference (first second : List ℕ) (byte : ℕ) : Type 0 where
  pub alike : take byte first ≡ take byte second
  pub differ : slice_get first byte ≢ slice_get second byte

-- the first place at which the text isn't as expected; none where it is the front of what is expected
abbrev pub IsParted : List ℕ → List ℕ → Option ℕ → Type 0
IsParted expected text None = common expected text ≡ length text
IsParted expected text (Some place) = (common expected text ≡ place) × (place < length text)

-- the length and the first place are this text's; a length at its greatest is perhaps that of a longer one
abbrev pub Matches : List ℕ → ℕ → Option ℕ → List ℕ → Type 0
Matches expected len first text = (len ≡ saturating_u64 (length text)) × IsParted expected text first
