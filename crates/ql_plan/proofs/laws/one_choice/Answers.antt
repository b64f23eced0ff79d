use Rattle.ql_plan.proofs.PlanLaws.{one_choice}
use Rattle.ql_plan.proofs.laws.one_choice.Goals as goal

pub returns : goal.returns
returns c = one_choice
