-- Digits at the front of a text.
-- Source: this project; what a digit is, is std's.
use Rattle.std.specs.Prelude.{ℕ, ◌≤◌, List, [], ◌∷◌, ⊤}
use Rattle.std.specs.Char.{digit_value}

-- a digit doesn't come first
abbrev pub BeginsOtherwise : List ℕ → Type 0
BeginsOtherwise [] = ⊤
BeginsOtherwise (byte ∷ bytes) = 10 ≤ digit_value byte
