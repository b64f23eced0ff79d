use Rattle.std.proofs.Common.{◌≡◌, length, take}
use Rattle.ql_eval.specs.internal.Recalling.{sets_in}
use Rattle.ql_eval.proofs.select_memo.are_same_sets.Given as goal

abbrev pub invariant-loop-one : goal.invariant-loop-one
invariant-loop-one l = sets_in (take (length l.yielded) l.first) ≡ sets_in (take (length l.yielded) l.second)
