use Rattle.std.proofs.Common.{◌≡◌, List, true}
use Rattle.external_sort.specs.Records.{Entry}
use Rattle.external_sort.specs.Sorting.{Gives, yet}
use Rattle.entry_sort.specs.internal.Names.{scan, start}
use Rattle.entry_sort.proofs.name_sorter.scan_all.Given as goal

abbrev pub invariant-records : goal.invariant-records
invariant-records g l =
    g.S.RunStore.is_true ≡ true → (given : List Entry) → Gives g.S.RunStore.runs l.fn.sorted given → (left : List Entry) × Gives g.S.RunStore.runs l.sorted left
    × (scan l.repeats left ≡ scan start given)

abbrev pub decreases-records : goal.decreases-records
decreases-records g l = yet l.sorted
