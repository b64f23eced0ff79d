use Rattle.ql_plan.proofs.LeastSoFar.{IsLeastSoFar}
use Rattle.ql_plan.proofs.counting.least_place.Given as goal

abbrev pub invariant-loop-at : goal.invariant-loop-at
invariant-loop-at l = IsLeastSoFar l.counts l.at l.least l.fewest
