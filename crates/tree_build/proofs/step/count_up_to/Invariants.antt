use Rattle.std.proofs.Common.{◌≡◌, take}
use Rattle.std.specs.List.{AllByRecursion}
use Rattle.tree_build.specs.internal.RisingChanges.{IsUpTo}
use Rattle.tree_build.proofs.step.count_up_to.Given as goal

-- the changes so far are up to the key
abbrev pub invariant-loop-change : goal.invariant-loop-change
invariant-loop-change g l = record {
  count : l.count ≡ l.change-index;
  up_to : AllByRecursion (λ change. IsUpTo change.key.now l.key) (take l.count l.changes);
}
