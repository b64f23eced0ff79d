use Rattle.std.proofs.Common.{◌≡◌, List, IfOk, ap, filter, map, subst, sym, ◌∙◌}
use Rattle.ql_syntax.specs.Filters as tree
use Rattle.ql_syntax.specs.StatementViews.{filter_of}
use Rattle.ql_plan.proofs.Parts.{made_of, rivals_all}
use Rattle.ql_plan.specs.Plans.{filters_in, is_counted}
use Rattle.ql_plan.proofs.planned.Plan.rivals.Goals as goal

pub returns-clause-rivals : goal.returns-clause-rivals
returns-clause-rivals c =
    let made = made_of c.self.inside.filters.now c.self.inside.base c.args.self.now c.self.view_is c.self.invariant in
    let all = rivals_all c.args.self.now.base (filters_in c.args.self.now) (c.has_rivals.ensures.0 c.if-not-has_rivals.false) ∙ ap (λ (l : List tree.Filter). filter is_counted l) made in
    subst (λ (some : List tree.Filter). IfOk c.counted.result (λ rivals. map (λ f. filter_of f.now) rivals.items ≡ some)) (sym all) c.counted.ensures
