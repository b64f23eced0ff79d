use Rattle.std.proofs.Common.{◌≡◌, List, true}
use Rattle.std.specs.List.{Contains}
use Rattle.external_sort.specs.Records.{Entry}
use Rattle.external_sort.specs.Sorting.{Gives, yet}
use Rattle.pack_assembly.proofs.KeyLemmas.{IsAsBefore}
use Rattle.pack_assembly.proofs.apart.check_sorted.Given as goal

-- some entries are left, and whether a key comes twice is to be seen of them and the one before
abbrev pub invariant-digests : goal.invariant-digests
invariant-digests g l =
    g.S.RunStore.is_true ≡ true → (given : List Entry) → Gives g.S.RunStore.runs l.initial.sorted given
    → (left : List Entry) × Gives g.S.RunStore.runs l.sorted left × IsAsBefore given l.before left × ((e : Entry) → Contains left e → Contains given e)

abbrev pub decreases-digests : goal.decreases-digests
decreases-digests g l = yet l.sorted
