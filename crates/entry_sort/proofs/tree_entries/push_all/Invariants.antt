use Rattle.std.proofs.Common.{List, ◌++◌, map, take}
use Rattle.external_sort.specs.Records.{Entry}
use Rattle.external_sort.specs.Sorting.{Holds}
use Rattle.entry_sort.specs.internal.Once.{record_of}
use Rattle.entry_sort.proofs.tree_entries.push_all.Given as goal

abbrev pub invariant-loop-entry : goal.invariant-loop-entry
invariant-loop-entry g l =
    (records : List Entry) → Holds g.S.RunStore.runs g.S.RunStore.in_hand l.fn.sorter records
    → Holds g.S.RunStore.runs g.S.RunStore.in_hand l.sorter (records ++ map record_of (take l.entry-index l.entries))
