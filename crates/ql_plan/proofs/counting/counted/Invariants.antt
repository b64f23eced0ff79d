use Rattle.std.proofs.Common.{◌≡◌, filter, map, take}
use Rattle.ql_syntax.specs.StatementViews.{filter_of, filters_of}
use Rattle.ql_plan.specs.Plans.{is_counted}
use Rattle.ql_plan.proofs.counting.counted.Given as goal

abbrev pub invariant-loop-filter : goal.invariant-loop-filter
invariant-loop-filter l = map (λ f. filter_of f.now) l.counted.items ≡ filter is_counted (take l.filter-index (filters_of l.filters))
