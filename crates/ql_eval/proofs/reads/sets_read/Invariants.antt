use Rattle.std.proofs.Common.{◌≡◌, take}
use Rattle.ql_syntax.specs.StatementViews.{filters_of}
use Rattle.ref_sets.specs.NamedSets.{lists_of}
use Rattle.ql_eval.specs.internal.Recalling.{sets_in, sets_read}
use Rattle.ql_eval.proofs.reads.sets_read.Given as goal

abbrev pub invariant-loop-filter : goal.invariant-loop-filter
invariant-loop-filter l = sets_in l.reads.items ≡ sets_read (lists_of l.sets.named.items) (filters_of (take l.filter-index l.filters))
