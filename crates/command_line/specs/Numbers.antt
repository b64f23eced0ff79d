-- Numbers among the words.
-- Source: this project; a number is read as Rust's unsigned integers read it.
use Rattle.std.specs.Prelude.{◌≡◌, ◌<◌, ◌^◌, ℕ, Option, Some, None}
use Rattle.std.specs.Str.Parse.{IsNumeral, digits_value, without_leading_plus}
use Rattle.clap.specs.Words.{Text}

-- decimal digits, maybe after a `+`, that write a number of at most this many bits
abbrev pub IsNumberText : ℕ → Text → Type 0
IsNumberText bits text = IsNumeral 10 (without_leading_plus text) × (digits_value 10 (without_leading_plus text) < 2 ^ bits)

-- the number that the text writes; the other one where there is no text, and where it is no such number, which `clap` refuses
abbrev pub IsNumber : ℕ → ℕ → Option Text → ℕ → Type 0
IsNumber bits other None number = number ≡ other
IsNumber bits other (Some text) number = (IsNumberText bits text → number ≡ digits_value 10 (without_leading_plus text)) × (¬ (IsNumberText bits text) → number ≡ other)

-- the number that the text writes, if there is a text; none where it is no such number, which `clap` refuses
abbrev pub IsNumberOrNone : ℕ → Option Text → Option ℕ → Type 0
IsNumberOrNone bits None number = number ≡ None
IsNumberOrNone bits (Some text) number = (IsNumberText bits text → number ≡ Some (digits_value 10 (without_leading_plus text))) × (¬ (IsNumberText bits text) → number ≡ None)
