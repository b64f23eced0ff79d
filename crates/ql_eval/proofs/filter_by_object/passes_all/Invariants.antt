use Rattle.std.proofs.Common.{take}
use Rattle.ql_syntax.specs.StatementViews.{filters_of}
use Rattle.ref_sets.specs.NamedSets.{lists_of}
use Rattle.ql_eval.specs.internal.Narrowing.{PassesAll}
use Rattle.ql_eval.proofs.filter_by_object.passes_all.Given as goal

abbrev pub invariant-loop-filter : goal.invariant-loop-filter
invariant-loop-filter l = PassesAll (lists_of l.sets.named.items) (filters_of (take l.filter-index l.filters)) l.object
