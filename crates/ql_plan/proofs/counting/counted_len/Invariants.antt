use Rattle.std.proofs.Common.{◌≡◌, ◌≤◌, filter, length, take}
use Rattle.ql_syntax.specs.StatementViews.{filters_of}
use Rattle.ql_plan.specs.Plans.{is_counted}
use Rattle.ql_plan.proofs.counting.counted_len.Given as goal

abbrev pub invariant-loop-filter : goal.invariant-loop-filter
invariant-loop-filter l = record {
  counted : l.counted ≡ length (filter is_counted (take l.filter-index (filters_of l.filters)));
  small : l.counted ≤ l.filter-index;
}
