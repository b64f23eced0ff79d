use Rattle.std.proofs.Common.{◌≡◌, ◌≢◌, List, ◌++◌, None, true}
use Rattle.external_sort.specs.Records.{Entry}
use Rattle.external_sort.specs.Sorting.{Gives, yet}
use Rattle.tree_node.specs.declared.tree.Tree.{Tree}
use Rattle.entry_sort.specs.internal.Once.{once_from}
use Rattle.entry_sort.proofs.give.give_sorted.Given as goal

abbrev pub invariant-records : goal.invariant-records
invariant-records g l = record {
  same : g.E.EntrySink.is_same l.fn.sink l.sink;
  others : (other : Tree) → other ≢ l.tree → g.E.EntrySink.taken l.sink other ≡ g.E.EntrySink.taken l.fn.sink other;
  left : g.S.RunStore.is_true ≡ true → (given : List Entry) → Gives g.S.RunStore.runs l.fn.sorted given → (left : List Entry) × Gives g.S.RunStore.runs l.sorted left
      × (g.E.EntrySink.taken l.sink l.tree ++ once_from l.last left ≡ g.E.EntrySink.taken l.fn.sink l.tree ++ once_from None given);
}

abbrev pub decreases-records : goal.decreases-records
decreases-records g l = yet l.sorted
