use Rattle.std.proofs.Common.{List, Option, Ok, refl, sym, subst}
use Rattle.std.specs.List.{AllByRecursion}
use Rattle.osm_model.specs.declared.kind.Kind.{Kind}
use Rattle.tree_node.proofs.shared.OutcomeLaws.{memory_stops, outcome_stops, uses}
use Rattle.ql_syntax.specs.Filters.{Filter}
use Rattle.ql_syntax.specs.LawfulQueries.{Allows}
use Rattle.ql_syntax.specs.StatementViews.{filters_of}
use Rattle.ref_sets.specs.Sets.{IsSetOf}
use Rattle.ref_sets.specs.NamedSets.{lists_of}
use Rattle.ql_meaning.specs.Values.{IsRefOf, IsSelected}
use Rattle.ql_eval.specs.Asks.{AskedByChoice, kind_picked}
use Rattle.ql_eval.specs.Questions.{NeededBy}
use Rattle.ql_eval.proofs.PlanLemmas.{one_planned}
use Rattle.ql_eval.proofs.SelectLemmas.{PlannedWell, choice_asks, chosen_asks, select_splits}
use Rattle.ql_eval.proofs.ExitLemmas.{no_value}
use Rattle.ql_eval.proofs.StepLemmas.{refused_as, then_same}
use Rattle.ql_eval.proofs.GivenLemmas.{sets_later}
use Rattle.ref_sets.proofs.shared.Results.{on_ok_as}
use Rattle.ql_eval.proofs.MeterLemmas.{both_bounded, both_spent, first_bounded, found_well, plan_bounded, plan_spent, steps_spent, steps_within}
use Rattle.ql_eval.specs.Absences.{IsAskedById}
use Rattle.ql_eval.proofs.select.select.Goals as goal

pub returns-in_err-plan-clause-answer : goal.returns-in_err-plan-clause-answer
returns-in_err-plan-clause-answer g c = λ p is under there lawful.
    let env = lists_of c.args.sets.now.named.items in
    let filters = filters_of c.args.filters.now in
    outcome_stops _ c.from_residual-in_err-plan.ensures.1 refl
    (λ x needs. choice_asks p env c.args.pick filters x (subst (λ (k : Option Kind). NeededBy p (AskedByChoice k filters) x) c.kind_of.ensures needs))
    (c.in_err-plan.ensures.answer p is (g.met.W.Source.under_reads _ p under))

pub returns-clause-answer : goal.returns-clause-answer
returns-clause-answer g c = λ p is under there lawful.
    let env = lists_of c.args.sets.now.named.items in
    let pick = c.args.pick in
    let filters = filters_of c.args.filters.now in
    let plan = c.in_ok-plan.plan in
    let written = c.in_ok-plan.ensures.written.0 in
    let one = one_planned p (kind_picked pick) filters in
    let first = uses (g.W.Source.holds c.choose_plan.new.source) (g.W.Source.used c.args.source.now) (g.W.Source.used c.choose_plan.new.source) in
    then_same (λ x. g.met.W.Source.grows _ _ x c.answered.ensures.later)
    (choice_asks p env pick filters) (λ chosen. chosen_asks p env pick filters one plan chosen) (λ chosen b set. select_splits p env pick filters one plan chosen)
    (λ chosen b set. (subst (λ (fs : List Filter). IsSetOf b (IsRefOf p.objects (IsSelected p.objects env pick fs))) written set.0, set.1))
    (subst (λ (k : Option Kind). PlannedWell p k filters first (Ok plan)) c.kind_of.ensures (c.in_ok-plan.ensures.answer p is (g.met.W.Source.under_reads _ p under)))
    (λ chosen. c.answered.ensures.answer p is (c.in_ok-plan.ensures.truly p is under) there (subst (λ (fs : List Filter). AllByRecursion (Allows pick) fs) (sym written) lawful))

pub answered-requires-clause-named : goal.answered-requires-clause-named
answered-requires-clause-named g c = sets_later (lists_of c.args.sets.now.named.items) (λ r. g.met.W.Source.same_gave _ _ r c.choose_plan.ensures.later) c.requires.named

pub returns-in_err-plan-clause-bounded : goal.returns-in_err-plan-clause-bounded
returns-in_err-plan-clause-bounded g c = λ p is under there lawful clear. first_bounded _ _ (steps_within _ _ _ c.charge_filters.ensures.bounded)

pub returns-clause-bounded : goal.returns-clause-bounded
returns-clause-bounded g c = λ p is under there lawful clear.
    let env = lists_of c.args.sets.now.named.items in
    let pick = c.args.pick in
    let filters = filters_of c.args.filters.now in
    let plan = c.in_ok-plan.plan in
    let first = uses (g.W.Source.holds c.choose_plan.new.source) (g.W.Source.used c.args.source.now) (g.W.Source.used c.choose_plan.new.source) in
    let chosen = found_well (λ x. g.met.W.Source.grows _ _ x c.answered.ensures.later) clear (subst (λ (k : Option Kind). PlannedWell p k filters first (Ok plan)) c.kind_of.ensures (c.in_ok-plan.ensures.answer p is (g.met.W.Source.under_reads _ p under))) in
    both_bounded _ _ _ (steps_within _ _ _ c.charge_filters.ensures.bounded) (plan_bounded _ _ plan chosen (c.answered.ensures.bounded p is (c.in_ok-plan.ensures.truly p is under) there (subst (λ (fs : List Filter). AllByRecursion (Allows pick) fs) (sym c.in_ok-plan.ensures.written.0) lawful) clear))

pub returns-clause-spent : goal.returns-clause-spent
returns-clause-spent g c = on_ok_as c.answered.result (λ spent p is under there lawful clear.
    let env = lists_of c.args.sets.now.named.items in
    let pick = c.args.pick in
    let filters = filters_of c.args.filters.now in
    let plan = c.in_ok-plan.plan in
    let first = uses (g.W.Source.holds c.choose_plan.new.source) (g.W.Source.used c.args.source.now) (g.W.Source.used c.choose_plan.new.source) in
    let chosen = found_well (λ x. g.met.W.Source.grows _ _ x c.answered.ensures.later) clear (subst (λ (k : Option Kind). PlannedWell p k filters first (Ok plan)) c.kind_of.ensures (c.in_ok-plan.ensures.answer p is (g.met.W.Source.under_reads _ p under))) in
    both_spent _ _ _ (steps_spent _ _ _ c.in_ok-charge_filters.ensures.spent) (plan_spent _ _ plan chosen (spent p is (c.in_ok-plan.ensures.truly p is under) there (subst (λ (fs : List Filter). AllByRecursion (Allows pick) fs) (sym c.in_ok-plan.ensures.written.0) lawful) clear))) c.answered.ensures.spent

pub returns-in_err-charge_filters-clause-bounded : goal.returns-in_err-charge_filters-clause-bounded
returns-in_err-charge_filters-clause-bounded g c = λ p is under there lawful clear. first_bounded _ _ (steps_within _ _ _ c.charge_filters.ensures.bounded)

pub answered-requires-clause-asked : goal.answered-requires-clause-asked
answered-requires-clause-asked g c = λ r of.
    g.met.W.Source.still_may _ _ r c.choose_plan.ensures.later (c.requires.asked r (subst (λ (fs : List Filter). IsAskedById c.args.pick fs r) c.in_ok-plan.ensures.written.0 of))

pub answered-requires-clause-base : goal.answered-requires-clause-base
answered-requires-clause-base g c = c.in_ok-plan.ensures.written.1

pub returns-in_err-charge_filters-clause-later : goal.returns-in_err-charge_filters-clause-later
returns-in_err-charge_filters-clause-later g c = g.met.W.Source.itself _

pub returns-in_err-charge_filters-clause-walked : goal.returns-in_err-charge_filters-clause-walked
returns-in_err-charge_filters-clause-walked g c = no_value c.from_residual.result _ _ c.from_residual.ensures.1

pub returns-in_err-charge_filters-clause-told : goal.returns-in_err-charge_filters-clause-told
returns-in_err-charge_filters-clause-told g c = refused_as _ c.from_residual.result _ c.from_residual.ensures.1 (g.met.W.Source.out_of_memory _)

pub returns-in_err-charge_filters-clause-named : goal.returns-in_err-charge_filters-clause-named
returns-in_err-charge_filters-clause-named g c = no_value c.from_residual.result _ _ c.from_residual.ensures.1

pub returns-in_err-charge_filters-clause-answer : goal.returns-in_err-charge_filters-clause-answer
returns-in_err-charge_filters-clause-answer g c = λ p is under there lawful. memory_stops _ c.from_residual.ensures.1 refl

pub returns-in_err-charge_filters-clause-spent : goal.returns-in_err-charge_filters-clause-spent
returns-in_err-charge_filters-clause-spent g c = no_value c.from_residual.result _ _ c.from_residual.ensures.1

pub returns-in_err-plan-clause-later : goal.returns-in_err-plan-clause-later
returns-in_err-plan-clause-later g c = c.choose_plan.ensures.later

pub returns-in_err-plan-clause-walked : goal.returns-in_err-plan-clause-walked
returns-in_err-plan-clause-walked g c = no_value c.from_residual-in_err-plan.result _ _ c.from_residual-in_err-plan.ensures.1

pub returns-in_err-plan-clause-told : goal.returns-in_err-plan-clause-told
returns-in_err-plan-clause-told g c = refused_as _ c.from_residual-in_err-plan.result _ c.from_residual-in_err-plan.ensures.1 c.in_err-plan.ensures.told

pub returns-in_err-plan-clause-named : goal.returns-in_err-plan-clause-named
returns-in_err-plan-clause-named g c = no_value c.from_residual-in_err-plan.result _ _ c.from_residual-in_err-plan.ensures.1

pub returns-in_err-plan-clause-spent : goal.returns-in_err-plan-clause-spent
returns-in_err-plan-clause-spent g c = no_value c.from_residual-in_err-plan.result _ _ c.from_residual-in_err-plan.ensures.1

pub returns-clause-later : goal.returns-clause-later
returns-clause-later g c = g.met.W.Source.chained _ _ _ c.choose_plan.ensures.later c.answered.ensures.later

pub returns-clause-walked : goal.returns-clause-walked
returns-clause-walked g c = on_ok_as c.answered.result (λ walked. g.met.W.Source.more_walks _ _ _ c.choose_plan.ensures.later c.answered.ensures.later c.in_ok-plan.ensures.walked walked) c.answered.ensures.walked

pub returns-clause-told : goal.returns-clause-told
returns-clause-told g c = c.answered.ensures.told

pub returns-clause-named : goal.returns-clause-named
returns-clause-named g c = c.answered.ensures.named
