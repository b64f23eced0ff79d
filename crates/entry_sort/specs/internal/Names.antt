-- References with the lines that put them, and which of these lines puts one again.
-- Source: this project.
use Rattle.std.specs.Prelude.{◌≡◌, ℕ, ◌<◌, ◌≤◌, nat_lt, Bool, cond, List, [], ◌∷◌, length, map, take, Option, Some, None, MatchOption}
use Rattle.std.specs.Int.{w64, from_be_bytes, to_be_bytes}
use Rattle.std.specs.List.{AllByRecursion, Contains}
use Rattle.osm_model.specs.declared.reference.Ref.{Ref}
use Rattle.osm_keys.specs.Keys.{ref_key}
use Rattle.external_sort.specs.Records.{Entry, entry}
use Rattle.external_sort.specs.Sorting.{Holds}
use Rattle.entry_sort.specs.internal.Once.{is_new}
use Rattle.entry_sort.specs.internal.Rises.{followed_by, no_keys}
use Rattle.entry_sort.specs.declared.name_sorter.NameSorter.{NameSorter}
use Rattle.entry_sort.specs.declared.repeat_scan.RepeatScan.{RepeatScan}

-- a reference, and the line that puts an object of it
pub record Named : Type 0 where
  pub name : Ref
  pub line : ℕ

abbrev pub named : Ref → ℕ → Named
named name line = record { name = name; line = line }

abbrev pub key_of : Named → List ℕ
key_of n = ref_key n.name

-- the record that is sorted
abbrev pub name_record : Named → Entry
name_record n = entry (key_of n) (to_be_bytes w64 n.line)

abbrev pub keys_of : List Named → List (List ℕ)
keys_of names = map key_of names

-- the sorter holds these, and knows whether they rise
pub record HoldsNames {S : Type 0} (runs : S → List (List ℕ)) (in_hand : S → List ℕ) (sorter : NameSorter S) (names : List Named) : Type 0 where
  pub held : Holds runs in_hand sorter.sorter (map name_record names)
  pub seen : sorter.rising ≡ followed_by no_keys (keys_of names)

-- the line that a record's value is
abbrev pub line_in : List ℕ → ℕ
line_in value = cond (nat_lt (length value) 8) 0 (from_be_bytes w64 (take 8 value))

abbrev pub line_of : Entry → ℕ
line_of e = line_in e.value

-- of the records, one of a lesser line has the same key
pub record Repeats (records : List Entry) (x : Entry) : Type 0 where
  pub there : Contains records x
  pub earlier : Entry
  pub earlier_there : Contains records earlier
  pub same : earlier.key ≡ x.key
  pub before : line_of earlier < line_of x

-- the least line that repeats a key
pub record IsLeast (records : List Entry) (line : ℕ) : Type 0 where
  pub one : Entry
  pub repeats : Repeats records one
  pub line_is : line_of one ≡ line
  pub least : (y : Entry) → Repeats records y → line ≤ line_of y

-- the least line that repeats a key, if any does
abbrev pub IsLeastRepeat : List Entry → Option ℕ → Type 0
IsLeastRepeat records None = (x : Entry) → Repeats records x → ⊥
IsLeastRepeat records (Some line) = IsLeast records line

-- ---- how it is found

abbrev pub least_of : Option ℕ → ℕ → ℕ
least_of None line = line
least_of (Some first) line = cond (nat_lt line first) line first

-- after one record more
abbrev pub stepped : RepeatScan → List ℕ → ℕ → RepeatScan
stepped s key line =
    cond (is_new s.last key) (record { last = Some key; least = line; found = s.found })
    (cond (nat_lt s.least line) (record { last = s.last; least = s.least; found = Some (least_of s.found line) })
    (cond (nat_lt line s.least) (record { last = s.last; least = line; found = Some (least_of s.found s.least) }) s))

-- after all of these
abbrev pub scan : RepeatScan → List Entry → RepeatScan
scan s [] = s
scan s (e ∷ es) = scan (stepped s e.key (line_in e.value)) es

abbrev pub start : RepeatScan
start = record { last = None; least = 0; found = None }
