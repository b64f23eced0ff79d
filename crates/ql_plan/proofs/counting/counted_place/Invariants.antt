use Rattle.std.proofs.Common.{◌≡◌, ◌≤◌, filter, length, take}
use Rattle.ql_syntax.specs.StatementViews.{filters_of}
use Rattle.ql_plan.specs.Plans.{is_counted}
use Rattle.ql_plan.proofs.counting.counted_place.Given as goal

abbrev pub invariant-loop-at : goal.invariant-loop-at
invariant-loop-at l = record {
  seen : l.seen ≡ length (filter is_counted (take l.at (filters_of l.filters)));
  few : l.seen ≤ l.others;
}
