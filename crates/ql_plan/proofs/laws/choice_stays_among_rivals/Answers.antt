use Rattle.ql_plan.proofs.PlanLaws.{stays_among_rivals}
use Rattle.ql_plan.proofs.laws.choice_stays_among_rivals.Goals as goal

pub returns : goal.returns
returns c = stays_among_rivals
