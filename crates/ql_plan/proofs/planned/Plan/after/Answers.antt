use Rattle.ql_plan.proofs.Parts.{after_is}
use Rattle.ql_plan.proofs.planned.Plan.after.Goals as goal

pub returns-in-Some : goal.returns-in-Some
returns-in-Some c = after_is c.self.inside.filters.now c.self.inside.base c.in-Some.at c.args.self.now c.self.view_is c.in-Some.is
