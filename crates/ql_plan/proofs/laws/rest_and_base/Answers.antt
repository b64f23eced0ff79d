use Rattle.ql_plan.proofs.PlanLaws.{rest_and_base}
use Rattle.ql_plan.proofs.laws.rest_and_base.Goals as goal

pub returns : goal.returns
returns c = rest_and_base
