-- Lines that are written whole or not at all.
-- Source: this project; what a pipe takes at once is PIPE_BUF of Linux (pipe(7)).
use Rattle.std.specs.Prelude.{◌≡◌, ◌<◌, ◌≤◌, ◌+◌, ◌⊎◌, ◌++◌, ◌∷◌, [], ℕ, List, Option, Some, None, Result, Ok, Err, IfOk, length}
use Rattle.std.specs.Io.KnownBytes.{Appends, Keeps}
use Rattle.byte_io.specs.Pieces.{Lacks}
use Rattle.byte_io.specs.Written.{AppendsFront}
use Rattle.osm_model.specs.Bytes.{line_feed}

-- so many bytes a line has at most, with its line feed
abbrev pub longest_line : ℕ
longest_line = 4096

-- a writer, and what it was given of a line that hasn't ended yet; none where those bytes are too many
pub record Lines (W : Type 0) : Type 0 where
  pub writer : W
  pub line : Option (List ℕ)

-- the line goes on with these bytes
abbrev pub GoesOn : Option (List ℕ) → List ℕ → Option (List ℕ) → Type 0
GoesOn None bytes new = new ≡ None
GoesOn (Some line) bytes new = (length (line ++ bytes) ≤ longest_line → new ≡ Some (line ++ bytes)) × (longest_line < length (line ++ bytes) → new ≡ None)

-- the line that has ended is written whole or not at all; one that is too long isn't
abbrev pub IsWhole : Option (List ℕ) → (old new : Option (List ℕ)) → Type 0
IsWhole None old new = Keeps old new
IsWhole (Some line) old new = Keeps old new ⊎ Appends old new line

-- no more than a beginning of it is written
abbrev pub IsCut : Option (List ℕ) → (old new : Option (List ℕ)) → Type 0
IsCut None old new = Keeps old new
IsCut (Some line) old new = AppendsFront old new line

-- the line is handed to the writer: where that fails, a beginning of it is written
abbrev pub IsHanded : {X E : Type 0} → Option (List ℕ) → Result X E → (old new : Option (List ℕ)) → Type 0
IsHanded line (Ok done) old new = IsWhole line old new
IsHanded line (Err error) old new = IsCut line old new

-- the front of some bytes ends the line, with their first line feed: the line is handed on, and the next one begins
pub record EndsLine {E : Type 0} (line : Option (List ℕ)) (bytes : List ℕ) (result : Result ℕ E) (next old new : Option (List ℕ)) : Type 0 where
  pub front : List ℕ
  pub rest : List ℕ
  pub parts : bytes ≡ front ++ line_feed ∷ rest
  pub first : Lacks line_feed front
  pub whole : Option (List ℕ)
  pub goes_on : GoesOn line (front ++ line_feed ∷ []) whole
  pub handed : IsHanded whole result old new
  pub taken : IfOk result (λ count. count ≡ length front + 1)
  pub begun : next ≡ Some []

-- without a line feed the line goes on with all bytes, and nothing is written
pub record GoesOnWithAll {E : Type 0} (line : Option (List ℕ)) (bytes : List ℕ) (result : Result ℕ E) (next old new : Option (List ℕ)) : Type 0 where
  pub unended : Lacks line_feed bytes
  pub taken : result ≡ Ok (length bytes)
  pub goes_on : GoesOn line bytes next
  pub kept : Keeps old new

-- what is done with some bytes: those up to the first line feed are taken, or all
abbrev pub IsTaken : {E : Type 0} (line : Option (List ℕ)) (bytes : List ℕ) (result : Result ℕ E) (next old new : Option (List ℕ)) → Type 0
IsTaken line bytes result next old new = GoesOnWithAll line bytes result next old new ⊎ EndsLine line bytes result next old new
