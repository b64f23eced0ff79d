-- How a call at a connection ends.
-- Source: this project.
use Rattle.std.specs.Prelude.{ℕ, ◌<◌, ◌≤◌, List, ◌++◌, length, take}
use Rattle.http_ranges.specs.declared.wires.Transfer.{Transfer}
use Rattle.http_ranges.specs.declared.wires.Transfer.TheVariants.{Closed, Moved, Silent}

-- no more was sent than there is
abbrev pub Sends : List ℕ → Transfer → Type 0
Sends bytes (Moved count) = count ≤ length bytes
Sends bytes Closed = Unit {0}
Sends bytes Silent = Unit {0}

-- what was received stands at the front of the piece; `old` and `new` say what the connection has given, before and after
abbrev pub Receives : (List ℕ → Type 0) → (List ℕ → Type 0) → List ℕ → Transfer → Type 0
Receives old new piece (Moved count) =
    (0 < count) × (count ≤ length piece) × ((before : List ℕ) → old before → new (before ++ take count piece))
Receives old new piece Closed = Unit {0}
Receives old new piece Silent = Unit {0}
