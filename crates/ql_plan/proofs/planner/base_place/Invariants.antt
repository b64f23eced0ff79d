use Rattle.ql_syntax.specs.StatementViews.{filters_of}
use Rattle.ql_plan.specs.internal.Sorts.{rank}
use Rattle.ql_plan.proofs.BaseSoFar.{IsBaseSoFar}
use Rattle.ql_plan.proofs.planner.base_place.Given as goal

abbrev pub invariant-loop-at : goal.invariant-loop-at
invariant-loop-at l = IsBaseSoFar (filters_of l.filters) l.at (rank l.earliest) l.base
