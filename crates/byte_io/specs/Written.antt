-- What a writer has gained.
-- Source: this project; what a writer tells of its bytes is std's.
use Rattle.std.specs.Prelude.{ℕ, ◌≤◌, List, Option, take, length}
use Rattle.std.specs.Io.KnownBytes.{Appends}

-- a beginning of the text, which may be nothing or all of it
abbrev pub AppendsFront : Option (List ℕ) → Option (List ℕ) → List ℕ → Type 0
AppendsFront old new text = (k : ℕ) × (k ≤ length text) × Appends old new (take k text)
