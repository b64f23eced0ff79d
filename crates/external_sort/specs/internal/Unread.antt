-- How much a merge may yet give, whatever the store gives back: each record of a run takes a byte of it at least.
use Rattle.std.specs.Prelude.{ℕ, ◌+◌, ◌-◌, Option, Some, None, length}
use Rattle.std.specs.List.{sum_by}
use Rattle.std.specs.BinaryHeap.{heap_items}
use Rattle.external_sort.specs.declared.merge.Merge.{Merge}
use Rattle.external_sort.specs.declared.run_reader.RunReader.{RunReader}

-- how many bytes of its run a reader has after the record that it is at
abbrev pub unread : RunReader → ℕ
unread r = (length r.window - r.record_end) + (r.len - r.offset)

-- the same of one whose record is yet to be given
abbrev pub unread_with_own : RunReader → ℕ
unread_with_own r = unread r + 1

-- the same of the reader that gave the last record, if there is one
abbrev pub unread_of : Option RunReader → ℕ
unread_of None = 0
unread_of (Some r) = unread r

-- the same of all readers
abbrev pub unread_in : {S : Type 0} → Merge S → ℕ
unread_in m = sum_by unread_with_own (heap_items m.heap) + unread_of m.current
