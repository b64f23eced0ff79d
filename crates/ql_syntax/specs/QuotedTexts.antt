-- Texts between quotes.
-- Source: the Overpass QL page of the OpenStreetMap wiki, "Escaping": `\n`, `\t`, the quotes, `\\` and
-- `\u` with four hexadecimal digits; which escapes are bad is this project's.
use Rattle.std.specs.Prelude.{◌≡◌, ◌≢◌, ℕ, ◌<◌, ◌≤◌, ◌==◌, ◌||◌, Bool, true, if◌then◌else◌, List, [], ◌∷◌, ◌++◌, length, Option, None, Some, ⊤, encode_utf8}
use Rattle.osm_model.specs.Bytes.{backslash, double_quote, line_feed, single_quote, tab}
use Rattle.std.specs.Char.{IsScalar, digit_value}
use Rattle.std.specs.List.{AllByRecursion, flat_map}
use Rattle.std.specs.Str.Parse.{AllDigits, digits_value}
use Rattle.ql_syntax.specs.declared.cause.QlCause.{QlCause}
use Rattle.ql_syntax.specs.declared.cause.QlCause.TheVariants as causes

-- `"` or `'`
abbrev pub is_quote : ℕ → Bool
is_quote b = b == double_quote || b == single_quote

-- the letters of escapes: n, t, and u before hexadecimal digits
abbrev pub line_feed_letter : ℕ
line_feed_letter = 110

abbrev pub tab_letter : ℕ
tab_letter = 116

abbrev pub code_letter : ℕ
code_letter = 117

-- what the letter after a `\` stands for: itself for `\` and the quotes, LF for n, tab for t
abbrev pub escaped : ℕ → Option ℕ
escaped letter =
    if letter == backslash || letter == double_quote || letter == single_quote then Some letter
    else if letter == line_feed_letter then Some line_feed
    else if letter == tab_letter then Some tab
    else None

-- a piece of a text between quotes
pub data Piece : Type 0 where
  -- a byte that stands for itself
  Literal : ℕ → Piece
  -- `\` and a letter, and the byte that they stand for
  Escape : ℕ → ℕ → Piece
  -- `\u` and digits, and the character that they stand for
  Code : List ℕ → ℕ → Piece

abbrev pub spelling : Piece → List ℕ
spelling (Literal b) = b ∷ []
spelling (Escape letter b) = backslash ∷ letter ∷ []
spelling (Code digits c) = backslash ∷ code_letter ∷ digits

abbrev pub value : Piece → List ℕ
value (Literal b) = b ∷ []
value (Escape letter b) = b ∷ []
value (Code digits c) = encode_utf8 c

-- four hexadecimal digits that name the character, which isn't 0
pub record IsCode (digits : List ℕ) (c : ℕ) : Type 0 where
  pub four : length digits ≡ 4
  pub hexadecimal : AllDigits 16 digits
  pub names : digits_value 16 digits ≡ c
  pub some : 0 < c
  pub scalar : IsScalar c

-- a byte stands for itself but the quote, `\` and NUL
abbrev pub IsPiece : ℕ → Piece → Type 0
IsPiece quote (Literal b) = (b ≢ quote) × (b ≢ backslash) × (b ≢ 0)
IsPiece quote (Escape letter b) = escaped letter ≡ Some b
IsPiece quote (Code digits c) = IsCode digits c

-- pieces stand between two places, and stand for these bytes; a place is what is left of the text there
pub record Passes (quote : ℕ) (from to bytes : List ℕ) : Type 0 where
  pub pieces : List Piece
  pub each : AllByRecursion (IsPiece quote) pieces
  pub parts : from ≡ flat_map spelling pieces ++ to
  pub bytes_are : bytes ≡ flat_map value pieces

-- a text between quotes stands at the front, and has these bytes
pub record IsQuoted (text bytes rest : List ℕ) : Type 0 where
  pub quote : ℕ
  pub inside : List ℕ
  pub opens : text ≡ quote ∷ inside
  pub is_quote : is_quote quote ≡ true
  pub passes : Passes quote inside (quote ∷ rest) bytes

-- what stands after a `\` is the beginning of an escape, and the text ends there
abbrev pub IsCutEscape : List ℕ → Type 0
IsCutEscape [] = ⊤
IsCutEscape (letter ∷ digits) = (letter ≡ code_letter) × (length digits < 4) × AllDigits 16 digits

-- what stands after a `\` is not an escape, however the text goes on: another letter; a byte that is no
-- hexadecimal digit among the four after `\u`; four that name no character, or NUL
pub data IsBadEscape (after : List ℕ) : Type 0 where
  Letter : (letter : ℕ) (rest : List ℕ) → after ≡ letter ∷ rest → letter ≢ code_letter → escaped letter ≡ None → IsBadEscape after
  NoDigit : (digits rest : List ℕ) (b : ℕ) → after ≡ code_letter ∷ (digits ++ b ∷ rest) → length digits < 4 → AllDigits 16 digits → 16 ≤ digit_value b → IsBadEscape after
  NoCharacter : (digits rest : List ℕ) → after ≡ code_letter ∷ (digits ++ rest) → length digits ≡ 4 → AllDigits 16 digits
      → ((c : ℕ) → IsCode digits c → ⊥) → IsBadEscape after

-- why a text between quotes can't go on at a place inside it, and where the fault is
pub data StopsInside (text place : List ℕ) (cause : QlCause) (at : List ℕ) : Type 0 where
  -- the text ends: at the quote
  AtEnd : place ≡ [] → cause ≡ causes.Unclosed → at ≡ text → StopsInside text place cause at
  -- it ends inside an escape: at the quote
  InEscape : (after : List ℕ) → place ≡ backslash ∷ after → IsCutEscape after → cause ≡ causes.Unclosed → at ≡ text → StopsInside text place cause at
  -- a bad escape: at its `\`
  AtEscape : (after : List ℕ) → place ≡ backslash ∷ after → IsBadEscape after → cause ≡ causes.BadEscape → at ≡ place → StopsInside text place cause at
  -- NUL: at it
  AtNul : (after : List ℕ) → place ≡ 0 ∷ after → cause ≡ causes.UnexpectedCharacter → at ≡ place → StopsInside text place cause at

-- no text between quotes stands at the front, which begins with a quote; the cause, and where it stands
pub record IsNotQuoted (text : List ℕ) (cause : QlCause) (at : List ℕ) : Type 0 where
  pub quote : ℕ
  pub inside : List ℕ
  pub place : List ℕ
  pub bytes : List ℕ
  pub opens : text ≡ quote ∷ inside
  pub is_quote : is_quote quote ≡ true
  pub passes : Passes quote inside place bytes
  pub stops : StopsInside text place cause at
