-- Bytes that have gained some.
-- Source: this project.
use Rattle.std.specs.Prelude.{◌≡◌, ℕ, List, ◌++◌, length}

-- so many
abbrev pub Appends : ℕ → List ℕ → List ℕ → Type 0
Appends len old new = (bytes : List ℕ) × (length bytes ≡ len) × (new ≡ old ++ bytes)
