use Rattle.std.proofs.Common.{subst, sym}
use Rattle.ql_syntax.specs.StatementViews.{filters_of}
use Rattle.ql_plan.proofs.Parts.{plan_is}
use Rattle.ql_plan.specs.Plans.{IsPlan, Planned}
use Rattle.ql_plan.proofs.planner.plan.Goals as goal

pub returns : goal.returns
returns c = subst (λ (plan : Planned). IsPlan (filters_of c.args.filters.now) plan) (sym c.new.ensures) (plan_is (filters_of c.args.filters.now) c.base_place.result c.base_place.ensures)
