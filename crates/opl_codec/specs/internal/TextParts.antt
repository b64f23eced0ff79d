-- How far a text goes: words of the reader's own clauses.
-- Source: this project.
use Rattle.std.specs.Prelude.{◌≢◌, ℕ, ◌<◌, ◌≤◌, true, List, length, take, drop, slice_index, [], ◌∷◌, ⊤}
use Rattle.std.specs.Char.{digit_value}
use Rattle.std.specs.Str.Parse.{AllDigits}
use Rattle.osm_model.specs.Bytes.{percent}
use Rattle.opl_codec.specs.Texts.{is_free, IsText}

-- just these bytes at the beginning are hexadecimal digits
pub record IsHexadecimalFront (text : List ℕ) (len : ℕ) : Type 0 where
  pub within : len ≤ length text
  pub digits : AllDigits 16 (take len text)
  pub ends : len < length text → 16 ≤ digit_value (slice_index text len)

-- no text goes on here
abbrev pub EndsText : List ℕ → Type 0
EndsText [] = ⊤
EndsText (byte ∷ bytes) = (is_free byte ≢ true) × (byte ≢ percent)

-- just these bytes at the beginning are a text
pub record IsTextFront (bytes : List ℕ) (len : ℕ) : Type 0 where
  pub within : len ≤ length bytes
  pub text : IsText (take len bytes)
  pub ends : EndsText (drop len bytes)
