use Rattle.std.proofs.Common.{◌≡◌, length, take}
use Rattle.ql_syntax.specs.StatementViews.{filters_of}
use Rattle.ql_eval.proofs.same_filters.are_same_filters.Given as goal

abbrev pub invariant-loop-one : goal.invariant-loop-one
invariant-loop-one l = filters_of (take (length l.yielded) l.first) ≡ filters_of (take (length l.yielded) l.second)
