use Rattle.std.proofs.Common.{refl}
use Rattle.tree_node.proofs.shared.OutcomeLaws.{outcome_as, outcome_starts, outcome_stops}
use Rattle.ql_syntax.specs.StatementViews.{filters_of}
use Rattle.ql_eval.proofs.CountLemmas.{count_needs, needs_count, none_counted}
use Rattle.ql_eval.proofs.PlanLemmas.{choice_taken, no_rivals, plan_taken, rivals_are}
use Rattle.ql_eval.proofs.choose_plan.choose_plan.Goals as goal

pub returns-then-not-has_rivals-clause-answer : goal.returns-then-not-has_rivals-clause-answer
returns-then-not-has_rivals-clause-answer g c = λ p is reads.
    let filters = filters_of c.args.filters.now in
    let plan = c.plan-plan.result in
    let none = no_rivals plan c.has_rivals.result c.if-not-has_rivals.true c.has_rivals.ensures in
    outcome_starts (plan_taken p c.args.kind filters plan c.plan-plan.ensures none) (none_counted p c.args.kind filters plan c.plan-plan.ensures none)

pub returns-in_err-counts-clause-answer : goal.returns-in_err-counts-clause-answer
returns-in_err-counts-clause-answer g c = λ p is reads.
    let filters = filters_of c.args.filters.now in
    let plan = c.plan-plan.result in
    let are = rivals_are filters plan c.plan-plan.ensures (c.has_rivals.ensures.0 c.if-not-has_rivals.false) in
    outcome_stops _ c.from_residual.ensures.1 refl (count_needs p c.args.kind filters plan c.plan-plan.ensures are) (c.in_err-counts.ensures.answer p is reads)

pub returns-clause-answer : goal.returns-clause-answer
returns-clause-answer g c = λ p is reads.
    let filters = filters_of c.args.filters.now in
    let plan = c.plan-plan.result in
    let are = rivals_are filters plan c.plan-plan.ensures (c.has_rivals.ensures.0 c.if-not-has_rivals.false) in
    outcome_as (count_needs p c.args.kind filters plan c.plan-plan.ensures are) (λ so. needs_count p c.args.kind filters plan c.plan-plan.ensures are)
    (λ so. choice_taken p c.args.kind filters plan c.choose.result c.in_ok-counts.counts.items c.deref.result.now c.plan-plan.ensures are so c.deref.ensures.value c.choose.ensures) (c.in_ok-counts.ensures.answer p is reads)
