-- How a text is spelled in a line.
-- Source: Osmium's OPL manual: a character may be written as `%`, the hexadecimal digits of its code
-- point, `%`. Which bytes stand for themselves, and how many digits there may be, is this project's.
use Rattle.std.specs.Prelude.{◌≡◌, ◌≢◌, ℕ, ◌≤◌, Bool, true, ◌==◌, ◌||◌, not, List, [], ◌∷◌, ◌++◌, length, flat_map, encode_utf8}
use Rattle.std.specs.Char.{IsScalar}
use Rattle.std.specs.Str.Parse.{AllDigits, digits_value}
use Rattle.std.specs.List.{AllByRecursion}
use Rattle.osm_model.specs.Bytes.{carriage_return, comma, equals_sign, line_feed, percent, space, tab}

-- the byte stands for itself: it is none of NUL, tab, LF, CR, space, `%`, `,` and `=`
abbrev pub is_free : ℕ → Bool
is_free byte = not ((byte == 0) || ((byte == tab) || ((byte == line_feed) || ((byte == carriage_return) || ((byte == space) || ((byte == percent) || ((byte == comma) || (byte == equals_sign))))))))

-- the digits of an escape: one to eight hexadecimal digits of either case, which are the code point of
-- a character other than NUL
pub record IsEscape (digits : List ℕ) : Type 0 where
  pub some : digits ≢ []
  pub few : length digits ≤ 8
  pub hexadecimal : AllDigits 16 digits
  pub character : IsScalar (digits_value 16 digits)
  pub not_nul : digits_value 16 digits ≢ 0

-- a byte that stands for itself, or an escape of these digits
pub data Character : Type 0 where
  Itself : ℕ → Character
  Escape : List ℕ → Character

abbrev pub IsCharacter : Character → Type 0
IsCharacter (Itself byte) = is_free byte ≡ true
IsCharacter (Escape digits) = IsEscape digits

-- how it is spelled
abbrev pub spelling : Character → List ℕ
spelling (Itself byte) = byte ∷ []
spelling (Escape digits) = percent ∷ (digits ++ percent ∷ [])

-- the bytes that it means
abbrev pub meaning : Character → List ℕ
meaning (Itself byte) = byte ∷ []
meaning (Escape digits) = encode_utf8 (digits_value 16 digits)

-- a text, character by character
pub record SpellsText (spelled text : List ℕ) : Type 0 where
  pub characters : List Character
  pub are : AllByRecursion IsCharacter characters
  pub spelled_is : spelled ≡ flat_map spelling characters
  pub text_is : text ≡ flat_map meaning characters

-- some text is spelled so
abbrev pub IsText : List ℕ → Type 0
IsText spelled = (text : List ℕ) × SpellsText spelled text

-- an escape begins here, after its `%`
abbrev pub BeginsEscape : List ℕ → Type 0
BeginsEscape bytes = (digits rest : List ℕ) × (bytes ≡ digits ++ percent ∷ rest) × IsEscape digits

-- a text goes so far, and then a byte comes that no text has
pub record TextMisfit (spelled : List ℕ) : Type 0 where
  pub front : List ℕ
  pub byte : ℕ
  pub rest : List ℕ
  pub spelled_is : spelled ≡ front ++ byte ∷ rest
  pub text : IsText front
  pub misfit : is_free byte ≢ true
  pub no_escape : byte ≢ percent

-- a text goes so far, and then a `%` comes, at this place, with which no escape begins
pub record BadEscapeIn (spelled : List ℕ) (at : ℕ) : Type 0 where
  pub front : List ℕ
  pub rest : List ℕ
  pub spelled_is : spelled ≡ front ++ percent ∷ rest
  pub place : length front ≡ at
  pub text : IsText front
  pub bad : ¬ (BeginsEscape rest)
