use Rattle.std.proofs.Common.{subst, sym}
use Rattle.ql_syntax.specs.StatementViews.{filters_of}
use Rattle.ql_plan.proofs.Parts.{chosen_is, made_of}
use Rattle.ql_plan.specs.Plans.{IsChosen, Planned}
use Rattle.ql_plan.proofs.planned.Plan.choose.Goals as goal

pub returns-in-Some : goal.returns-in-Some
returns-in-Some c =
    let made = made_of c.self.inside.filters.now c.self.inside.base c.args.self c.self.view_is c.self.invariant in
    subst (λ (plan : Planned). IsChosen c.args.self c.args.counts.now plan) (sym c.new.ensures)
    (chosen_is (filters_of c.self.inside.filters.now) c.args.self c.args.counts.now c.in-Some.least c.counted_place.result made c.requires c.in-Some.ensures c.counted_place.ensures)
