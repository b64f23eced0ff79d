-- What a sorter holds, and what is given.
-- Source: this project.
use Rattle.std.specs.Prelude.{◌≡◌, ℕ, ◌+◌, ◌-◌, ◌≤◌, ◌^◌, ◌++◌, ◌⊎◌, Bool, true, false, cond, nat_lt, List, [], ◌∷◌, Option, Some, None, MatchOption, drop, length, slice_get}
use Rattle.std.specs.List.{flat_map}
use Rattle.std.specs.List.Sorted.{IsPermutation}
use Rattle.external_sort.specs.Records.{Entry, Rises}
use Rattle.external_sort.specs.internal.Merging.{AreRuns, IsMerging, at, entry_of}
use Rattle.external_sort.specs.internal.Unread.{unread_in}
use Rattle.external_sort.specs.declared.record.Record.{Record}
use Rattle.external_sort.specs.declared.sorted.Sorted.{Sorted}
use Rattle.external_sort.specs.declared.sorter.Sorter.{Sorter}

-- the key or the value is too long
abbrev pub IsTooLong : List ℕ → List ℕ → Type 0
IsTooLong key value = (2 ^ 16 ≤ length key) ⊎ (2 ^ 32 ≤ length value)

-- the record that it is at; none before the first and after the last
abbrev pub current : {S : Type 0} → Sorted S → Option Entry
current s = cond (nat_lt 0 s.given) (slice_get s.batch (s.given - 1)) (at s.merge.current)

-- a bound on the records that may yet be given, whatever the store gives back: those in memory, and one a byte of the runs
unfoldable pub yet : {S : Type 0} → Sorted S → ℕ
yet s = (length s.batch - s.given) + unread_in s.merge

-- it is given
abbrev pub IsCurrent : Option Entry → Option Record → Type 0
IsCurrent current result = MatchOption result (current ≡ None) (λ r. current ≡ Some (entry_of r))

module _ {S : Type 0} (runs : S → List (List ℕ)) where
  -- the sorter holds these records: some of them in runs that rise, the others in memory
  pub record Holds (in_hand : S → List ℕ) (s : Sorter S) (records : List Entry) : Type 0 where
    pub kept : List (List Entry)
    pub stored : AreRuns (runs s.store) s.lens.items kept
    pub empty : in_hand s.store ≡ []
    pub all : IsPermutation records (flat_map (λ es. es) kept ++ s.batch)

  -- the same, where the records are in runs alone or in memory alone, and rise there
  pub record IsSettled (s : Sorter S) (records : List Entry) : Type 0 where
    pub kept : List (List Entry)
    pub stored : AreRuns (runs s.store) s.lens.items kept
    pub all : IsPermutation records (flat_map (λ es. es) kept ++ s.batch)
    pub either : ((kept ≡ []) × Rises s.batch) ⊎ (s.batch ≡ [])

  -- these records are yet to be given, in this order
  pub record Gives (s : Sorted S) (records : List Entry) : Type 0 where
    pub merged : List Entry
    pub all : records ≡ drop s.given s.batch ++ merged
    pub merging : IsMerging runs s.merge merged
    pub within : s.given ≤ length s.batch

  -- it went to the first of these records and has the others left, or there was none
  abbrev pub GoesOn : Bool → Sorted S → List Entry → Type 0
  GoesOn true s records = (e : Entry) × (left : List Entry) × (records ≡ e ∷ left) × (current s ≡ Some e) × Gives s left
  GoesOn false s records = records ≡ []
