-- How much is unread before and after a step of a merge.
use Rattle.std.proofs.Common.{◌≡◌, ap, ℕ, ◌+◌, ◌-◌, ◌<◌, ◌≤◌, List, [], ◌∷◌, length, Option, Some, None, Result, Ok, true, false, arith}
use Rattle.std.specs.Prelude.{Bool, IfSome, is_some}
use Rattle.std.specs.List.{sum_by}
use Rattle.std.specs.List.Sorted.{IsPermutation}
use Rattle.std.proofs.lemmas.List.Sorted.{sum_by_popped, sum_by_pushed}
use Rattle.external_sort.specs.Sorting.{yet}
use Rattle.external_sort.specs.internal.Unread.{unread, unread_in, unread_of, unread_with_own}
use Rattle.external_sort.specs.declared.fault.SortFault.{SortFault}
use Rattle.external_sort.specs.declared.merge.Merge.{Merge}
use Rattle.external_sort.specs.declared.run_reader.RunReader.{RunReader}
use Rattle.external_sort.specs.declared.sorted.Sorted.{Sorted}

-- a reader that went to its next record takes its turn again
pub put_back_left : (r s : RunReader) (rs us : List RunReader) → IsPermutation (s ∷ rs) us → unread s < unread r
    → sum_by unread_with_own us ≤ sum_by unread_with_own rs + unread r
put_back_left r s rs us perm fewer = omega (arith, sum_by_pushed unread_with_own s rs us perm, fewer)

-- the record that is given is no longer yet to be given
pub popped_left : (popped : Option RunReader) (us rs : List RunReader) → IfSome popped (λ r. IsPermutation us (r ∷ rs))
    → is_some popped ≡ true → sum_by unread_with_own rs + unread_of popped < sum_by unread_with_own us
popped_left None us rs perm some = cc
popped_left (Some r) us rs perm some = omega (arith, sum_by_popped unread_with_own r us rs perm)

-- one more of the records in memory was given
pub fewer_in_memory : {S : Type 0} (s : Sorted S) → s.given < length s.batch → yet (record s { given = s.given + 1 }) < yet s
unfolding yet
fewer_in_memory s within = omega (arith, within)

-- the merge went on, after the records in memory
pub fewer_in_runs : {S : Type 0} (old new : Sorted S) → length new.batch ≡ 0 → unread_in new.merge < unread_in old.merge → yet new < yet old
unfolding yet
fewer_in_runs old new none fewer = omega (arith, none, fewer)

pub no_more_in_runs : {S : Type 0} (old new : Sorted S) → length new.batch ≡ 0 → unread_in new.merge ≤ unread_in old.merge → yet new ≤ yet old
unfolding yet
no_more_in_runs old new none no_more = omega (arith, none, no_more)
