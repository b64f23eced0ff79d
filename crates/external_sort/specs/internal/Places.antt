-- Records that stand in a buffer.
use Rattle.std.specs.Prelude.{◌≡◌, ℕ, ◌≤◌, ◌+◌, ◌-◌, List, length, slice_range}
use Rattle.std.specs.List.{All, sum_by}
use Rattle.external_sort.specs.Records.{Entry, Fits, entry}
use Rattle.external_sort.specs.internal.Spelling.{spelled}
use Rattle.external_sort.specs.declared.place.Place.{Place}

-- the key, and the record, at a place
abbrev pub key_at : List ℕ → Place → List ℕ
key_at bytes p = slice_range bytes p.key_start p.value_start

abbrev pub entry_at : List ℕ → Place → Entry
entry_at bytes p = entry (key_at bytes p) (slice_range bytes p.value_start p.end)

-- that of a record with these lengths whose header begins at start
abbrev pub place_after : ℕ → ℕ → ℕ → Place
place_after start key value = record { key_start = start + 6; value_start = start + 6 + key; end = start + 6 + key + value }

-- how many bytes a record takes
abbrev pub place_len : Place → ℕ
place_len p = p.end - (p.key_start - 6)

-- a record stands there
pub record IsPlace (bytes : List ℕ) (p : Place) : Type 0 where
  pub low : 6 ≤ p.key_start
  pub value : p.key_start ≤ p.value_start
  pub high : p.value_start ≤ p.end
  pub within : p.end ≤ length bytes
  pub text : slice_range bytes (p.key_start - 6) p.end ≡ spelled (entry_at bytes p)
  pub fits : Fits (entry_at bytes p)

-- the places are of records, and take all bytes
pub record IsBatch (bytes : List ℕ) (ps : List Place) : Type 0 where
  pub each : All (IsPlace bytes) ps
  pub whole : sum_by place_len ps ≡ length bytes
