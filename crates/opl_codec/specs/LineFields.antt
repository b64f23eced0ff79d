-- How a line is cut into fields.
-- Source: Osmium's OPL manual: fields separated by spaces, each with a letter. That tabs separate too,
-- and that there may be several blanks, is this project's.
use Rattle.std.specs.Prelude.{◌≡◌, ◌≢◌, ℕ, Bool, true, false, ◌==◌, ◌||◌, if◌then◌else◌, List, [], ◌∷◌, ◌++◌, length, filter}
use Rattle.osm_model.specs.Bytes.{carriage_return, hash, space, tab}
use Rattle.byte_io.specs.Pieces.{onto_first}

-- a space or a tab
abbrev pub is_blank : ℕ → Bool
is_blank byte = (byte == space) || (byte == tab)

-- what stands before, between and after blanks
abbrev pub between_blanks : List ℕ → List (List ℕ)
between_blanks [] = [] ∷ []
between_blanks (byte ∷ bytes) = if is_blank byte then [] ∷ between_blanks bytes else onto_first byte (between_blanks bytes)

abbrev pub is_some_text : List ℕ → Bool
is_some_text [] = false
is_some_text (byte ∷ bytes) = true

-- the fields of a text: what stands between blanks, however many these are
abbrev pub fields : List ℕ → List (List ℕ)
fields text = filter is_some_text (between_blanks text)

-- a line without the CR at its end
abbrev pub content : List ℕ → List ℕ
content [] = []
content (byte ∷ []) = if byte == carriage_return then [] else byte ∷ []
content (byte ∷ next ∷ bytes) = byte ∷ content (next ∷ bytes)

-- a field of a text after its first one, and the byte at which it begins
pub record FieldAt (text f : List ℕ) (at : ℕ) : Type 0 where
  pub front : List ℕ
  pub rest : List ℕ
  pub text_is : text ≡ front ++ (f ++ rest)
  pub apart : fields text ≡ fields front ++ f ∷ fields rest
  pub later : fields front ≢ []
  pub at_is : length front ≡ at

-- a comment
abbrev pub is_comment : List ℕ → Bool
is_comment [] = false
is_comment (byte ∷ bytes) = byte == hash
