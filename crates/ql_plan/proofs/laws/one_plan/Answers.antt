use Rattle.ql_plan.proofs.PlanLaws.{one_plan}
use Rattle.ql_plan.proofs.laws.one_plan.Goals as goal

pub returns : goal.returns
returns c = one_plan
