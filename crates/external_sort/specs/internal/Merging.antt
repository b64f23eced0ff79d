-- The merge of runs: the records that are left in the order in which they come, each with the number of its run.
use Rattle.std.specs.Prelude.{◌≡◌, ℕ, ◌+◌, ◌≤◌, ◌==◌, Bool, true, false, cond, List, [], ◌∷◌, Option, Some, None, MatchOption, map, length}
use Rattle.std.specs.List.{All, AllByRecursion, flat_map, sum_by}
use Rattle.std.specs.List.Sorted.{IsPermutation}
use Rattle.std.specs.BinaryHeap.{IsHeap, heap_items}
use Rattle.std.specs.Cmp.Lexicographic.{slice_cmp}
use Rattle.std.specs.Ordering.{is_lt, nat_cmp, on, then_cmp}
use Rattle.std.specs.declared.cmp.Ordering.{Ordering}
use Rattle.external_sort.specs.Records.{Entry, Fits, Rises, entry}
use Rattle.external_sort.specs.internal.Reading.{HasLeft, head}
use Rattle.external_sort.specs.internal.Spelling.{spelled}
use Rattle.external_sort.specs.internal.Turns.{turn_cmp}
use Rattle.external_sort.specs.declared.merge.Merge.{Merge}
use Rattle.external_sort.specs.declared.record.Record.{Record}
use Rattle.external_sort.specs.declared.run_reader.RunReader.{RunReader}

-- a record with the number of its run
pub record Turn : Type 0 where
  pub entry : Entry
  pub run : ℕ

abbrev pub turn : Entry → ℕ → Turn
turn e n = record { entry = e; run = n }

-- by key, and then by run
abbrev pub place_cmp : Turn → Turn → Ordering
place_cmp = then_cmp (on (λ t. t.entry.key) (slice_cmp nat_cmp)) (on (λ t. t.run) nat_cmp)

-- none comes before one that stands before it
abbrev pub InOrder : List Turn → Type 0
InOrder [] = Unit {0}
InOrder (t ∷ ts) = AllByRecursion (λ u. is_lt (place_cmp u t) ≡ false) ts × InOrder ts

-- those of one run
abbrev pub of_run : ℕ → List Turn → List Entry
of_run n [] = []
of_run n (t ∷ ts) = cond (t.run == n) (t.entry ∷ of_run n ts) (of_run n ts)

abbrev pub entries : List Turn → List Entry
entries ts = map (λ t. t.entry) ts

-- how many readers are of a run
abbrev pub one_if : ℕ → RunReader → ℕ
one_if n r = cond (r.run == n) 1 0

abbrev pub number : ℕ → List RunReader → ℕ
number n rs = sum_by (one_if n) rs

-- a reader is at the first record that is left of its run
abbrev pub Stands : List (List ℕ) → List Turn → RunReader → Type 0
Stands runs ts r = (left : List Entry) × (of_run r.run ts ≡ head r ∷ left) × HasLeft runs r left

-- each run that has something left has one reader, which is at its first record
pub record Ready (runs : List (List ℕ)) (ts : List Turn) (rs : List RunReader) : Type 0 where
  pub at : All (Stands runs ts) rs
  pub once : (n : ℕ) → number n rs ≤ 1
  pub none : (n : ℕ) → number n rs ≡ 0 → of_run n ts ≡ []

-- the same, but the record that r is at was given
pub record Given (runs : List (List ℕ)) (ts : List Turn) (r : RunReader) (rs : List RunReader) : Type 0 where
  pub at : All (Stands runs ts) rs
  pub own : HasLeft runs r (of_run r.run ts)
  pub once : (n : ℕ) → one_if n r + number n rs ≤ 1
  pub none : (n : ℕ) → one_if n r + number n rs ≡ 0 → of_run n ts ≡ []

abbrev pub StateOf : List (List ℕ) → List Turn → Option RunReader → List RunReader → Type 0
StateOf runs ts current rs = MatchOption current (Ready runs ts rs) (λ r. Given runs ts r rs)

module _ {S : Type 0} (runs : S → List (List ℕ)) where
  -- these records are left, in this order
  pub record IsMerging (m : Merge S) (records : List Entry) : Type 0 where
    pub turns : List Turn
    pub is : records ≡ entries turns
    pub order : InOrder turns
    pub fit : All Fits records
    pub heap : IsHeap turn_cmp (heap_items m.heap)
    pub state : StateOf (runs m.store) turns m.current (heap_items m.heap)

  -- it went to the next of these records, or there was none
  abbrev pub Goes : Bool → Merge S → List Entry → Type 0
  Goes true m records = (r : RunReader) × (left : List Entry) × (records ≡ head r ∷ left) × (m.current ≡ Some r) × IsMerging m left
  Goes false m records = records ≡ []

  -- the records of these runs are left, and it is at none
  pub record Begins (m : Merge S) (kept : List (List Entry)) : Type 0 where
    pub records : List Entry
    pub permutation : IsPermutation (flat_map (λ es. es) kept) records
    pub rises : Rises records
    pub merging : IsMerging m records
    pub none : m.current ≡ None

-- the record that the reader is at
abbrev pub at : Option RunReader → Option Entry
at None = None
at (Some r) = Some (head r)

abbrev pub entry_of : Record → Entry
entry_of r = entry r.key.now r.value.now

-- it is given
abbrev pub Shows : Option RunReader → Option Record → Type 0
Shows current result = MatchOption result (at current ≡ None) (λ r. at current ≡ Some (entry_of r))

-- what stands in the runs, each of so many bytes
pub record AreRuns (runs : List (List ℕ)) (lens : List ℕ) (kept : List (List Entry)) : Type 0 where
  pub text : runs ≡ map (λ es. flat_map spelled es) kept
  pub long : lens ≡ map (λ es. length (flat_map spelled es)) kept
  pub rise : AllByRecursion Rises kept
  pub fit : AllByRecursion (All Fits) kept
