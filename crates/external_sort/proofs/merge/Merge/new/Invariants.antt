use Rattle.std.proofs.Common.{◌≡◌, List, true}
use Rattle.std.specs.BinaryHeap.{IsHeap, heap_items}
use Rattle.external_sort.specs.Records.{Entry}
use Rattle.external_sort.specs.internal.Merging.{AreRuns}
use Rattle.external_sort.specs.internal.Tagged.{UpTo}
use Rattle.external_sort.specs.internal.Turns.{turn_cmp}
use Rattle.external_sort.proofs.merge.Merge.new.Given as goal

-- the runs so far have their readers
abbrev pub invariant-loop-run : goal.invariant-loop-run
invariant-loop-run g l =
    let runs = g.S.RunStore.runs in
    record {
      same : runs l.store ≡ runs l.fn.store;
      sound : IsHeap turn_cmp (heap_items l.heap);
      begun : g.S.RunStore.is_true ≡ true → (kept : List (List Entry)) → AreRuns (runs l.fn.store) l.lens kept → UpTo (runs l.fn.store) kept l.run (heap_items l.heap);
    }
