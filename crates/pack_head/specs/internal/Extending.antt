-- Bytes that come to stand after others.
-- Source: this project.
use Rattle.std.specs.Prelude.{◌≡◌, ℕ, List, ◌++◌}

-- the new bytes are the old ones, and whatever was appended
abbrev pub Extends : List ℕ → List ℕ → Type 0
Extends old new = (part : List ℕ) × (new ≡ old ++ part)
