-- A reader of a run: what it is at, and what it has left.
use Rattle.std.specs.Prelude.{◌≡◌, ℕ, ◌+◌, ◌<◌, ◌≤◌, ◌++◌, ◌∷◌, Bool, true, false, List, [], length, drop, slice_range}
use Rattle.std.specs.List.{flat_map}
use Rattle.external_sort.specs.Records.{Entry, entry}
use Rattle.external_sort.specs.Runs.{run_at}
use Rattle.external_sort.specs.internal.Spelling.{spelled}
use Rattle.external_sort.specs.declared.run_reader.RunReader.{RunReader}

-- the record that it is at
abbrev pub head : RunReader → Entry
head r = entry (slice_range r.window 6 r.key_end) (slice_range r.window r.key_end r.record_end)

-- what it has read or will read, from the record that it is at
abbrev pub rest : List (List ℕ) → RunReader → List ℕ
rest runs r = r.window ++ drop r.offset (run_at r.run runs)

-- the run has so many bytes from the offset on
abbrev pub HasBytes : List (List ℕ) → ℕ → ℕ → ℕ → Type 0
HasBytes runs run offset count = (run < length runs) × (offset + count ≤ length (run_at run runs))

-- these records are left after the one that it is at
pub record HasLeft (runs : List (List ℕ)) (r : RunReader) (es : List Entry) : Type 0 where
  pub text : drop r.record_end r.window ++ drop r.offset (run_at r.run runs) ≡ flat_map spelled es
  pub len : r.len ≡ length (run_at r.run runs)

-- it is before the first record of a run that has so many bytes
pub record Begun (number size : ℕ) (r : RunReader) : Type 0 where
  pub run : r.run ≡ number
  pub len : r.len ≡ size
  pub window : r.window ≡ []
  pub end : r.record_end ≡ 0
  pub offset : r.offset ≡ 0

-- it went to the next of these records, or there was none
abbrev pub Moves : Bool → List (List ℕ) → RunReader → List Entry → Type 0
Moves true runs r es = (left : List Entry) × (es ≡ head r ∷ left) × HasLeft runs r left
Moves false runs r es = es ≡ []
