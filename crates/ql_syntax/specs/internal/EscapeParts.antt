-- What an escape was found to be.
use Rattle.std.specs.Prelude.{◌≡◌, ℕ, List, ◌∷◌, ◌++◌, encode_utf8}
use Rattle.osm_model.specs.Bytes.{backslash}
use Rattle.ql_syntax.specs.QuotedTexts.{Piece, IsPiece, spelling, value, IsBadEscape, IsCutEscape}
use Rattle.ql_syntax.specs.declared.escape.Escape.{Escape}
use Rattle.ql_syntax.specs.declared.escape.Escape.TheVariants as found

-- an escape that stands for these bytes, and what is left after it
pub record IsEscape (after bytes rest : List ℕ) : Type 0 where
  pub piece : Piece
  pub is_piece : (quote : ℕ) → IsPiece quote piece
  pub spelled : backslash ∷ after ≡ spelling piece ++ rest
  pub bytes_are : bytes ≡ value piece

-- after a `\` this was found
abbrev pub Finds : List ℕ → Escape → Type 0
Finds after (found.Character c rest) = IsEscape after (encode_utf8 c) rest.now
Finds after found.Bad = IsBadEscape after
Finds after found.Cut = IsCutEscape after
