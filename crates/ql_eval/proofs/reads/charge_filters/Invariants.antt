use Rattle.std.proofs.Common.{◌*◌, drop}
use Rattle.ql_syntax.specs.StatementViews.{filters_of}
use Rattle.ref_sets.specs.NamedSets.{lists_of}
use Rattle.ql_eval.specs.Work.{read_by_all, step_cost}
use Rattle.ql_eval.specs.internal.Metering.{IsLeft}
use Rattle.ql_eval.proofs.reads.charge_filters.Given as goal

abbrev pub invariant-loop-filter : goal.invariant-loop-filter
invariant-loop-filter l =
    IsLeft l.fn.meter.spent l.meter.spent (step_cost * read_by_all (lists_of l.sets.named.items) (filters_of l.filters)) (step_cost * read_by_all (lists_of l.sets.named.items) (filters_of (drop l.filter-index l.filters)))
