-- What makes the spelling of a value in a line the canonical one, apart from how it is written.
-- Source: this project.
use Rattle.std.specs.Prelude.{◌≡◌, ◌≤◌, ℕ, ℤ, pos, true, false, List, ◌∷◌, length}
use Rattle.std.specs.Char.{is_ascii_uppercase}
use Rattle.std.specs.List.{AllByRecursion}
use Rattle.std.specs.Str.Parse.{digits_value}
use Rattle.osm_model.specs.Bytes.{digit_zero}
use Rattle.osm_model.specs.Canonical.{HasNoLeadingZero}
use Rattle.osm_model.specs.CanonicalLine.{is_literal}
use Rattle.opl_codec.specs.Texts.{Character, Itself, Escape, SpellsText}
use Rattle.opl_codec.specs.Values.{SpellsNumber, SpellsVersion}

-- the text is this version, without needless zeros
pub record IsCanonicalVersion (text : List ℕ) (version : ℕ) : Type 0 where
  pub spelled : SpellsVersion text version
  pub no_leading_zero : HasNoLeadingZero text

-- the text is this whole number, without needless zeros and without a minus before 0
pub record IsCanonicalNumber (text : List ℕ) (z : ℤ) : Type 0 where
  pub spelled : SpellsNumber text z
  pub no_leading_zero : HasNoLeadingZero spelled.0.digits
  pub no_minus_zero : z ≡ pos 0 → spelled.0.negative ≡ false

-- hexadecimal digits in lower case, two at least, and of more than two the first isn't a zero
pub record IsCanonicalHex (digits : List ℕ) : Type 0 where
  pub lower : AllByRecursion (λ digit. is_ascii_uppercase digit ≡ false) digits
  pub two : 2 ≤ length digits
  pub no_leading_zero : (rest : List ℕ) → digits ≡ digit_zero ∷ rest → length rest ≡ 1

-- a character stands for itself where the canonical line lets it, and is escaped elsewhere
abbrev pub IsCanonicalCharacter : Character → Type 0
IsCanonicalCharacter (Itself byte) = is_literal byte ≡ true
IsCanonicalCharacter (Escape digits) = (is_literal (digits_value 16 digits) ≡ false) × IsCanonicalHex digits

-- the text is spelled so, each character in its canonical form
pub record IsCanonicalText (spelled text : List ℕ) : Type 0 where
  pub spells : SpellsText spelled text
  pub canonical : AllByRecursion IsCanonicalCharacter spells.characters
