use Rattle.std.proofs.Common.{◌≡◌, ◌+◌, ◌++◌, ◌*◌, ℕ, arith, length, length-append, List, Option, Ok, refl, sym, ap, subst, ◌∙◌, ◌<◌}
use Rattle.std.specs.Option.{ForSome}
use Rattle.tree_node.proofs.shared.OutcomeLaws.{outcome_stops, uses, memory_stops}
use Rattle.ql_syntax.specs.Filters.{Filter}
use Rattle.ql_syntax.specs.LawfulQueries.{Allows}
use Rattle.ql_syntax.specs.StatementViews.{filters_of}
use Rattle.ref_sets.specs.NamedSets.{lists_of}
use Rattle.ql_eval.specs.Asks.{AskedByBase, kind_picked}
use Rattle.ql_eval.specs.Questions.{NeededBy}
use Rattle.ql_eval.proofs.CandidateLemmas.{FoundWell}
use Rattle.ql_eval.proofs.SelectLemmas.{TestedWell, base_asks, base_lawful, candidates_there, kept_set, plan_splits, tests_ask}
use Rattle.ql_eval.proofs.StepLemmas.{refused_as}
use Rattle.ql_eval.proofs.GivenLemmas.{sets_later}
use Rattle.osm_model.specs.declared.reference.Ref.{Ref}
use Rattle.ql_eval.specs.Work.{WorkOfBase, step_cost}
use Rattle.ql_eval.specs.internal.Affording.{WorkOfFinding}
use Rattle.ql_eval.proofs.AffordingLemmas.{finding_bounded}
use Rattle.ql_eval.specs.internal.Metering.{IsBounded, IsCounted, IsSpent}
use Rattle.ref_sets.proofs.shared.Results.{on_ok_as}
use Rattle.ql_eval.proofs.MeterLemmas.{both_bounded, both_spent, clear_before, found_well, set_bounded, set_spent, steps_bounded, steps_spent}
use Rattle.std.proofs.lemmas.List.{length-map}
use Rattle.ql_syntax.specs.StatementViews.{filter_of}
use Rattle.ql_syntax.specs.declared.filter.Filter as code
use Rattle.std.specs.Option.{option_to_list}
use Rattle.ql_eval.specs.Absences.{IsAskedById}
use Rattle.ql_eval.proofs.AbsenceLemmas.{base_asked}
use Rattle.ql_eval.proofs.ExitLemmas.{no_value}
use Rattle.ql_plan.specs.Plans.{never, rank_of}
use Rattle.ql_eval.proofs.TruthLemmas.{truly_then_same}
use Rattle.ql_eval.proofs.select.answered.Goals as goal

-- how many filters a candidate is tested by
tested : (front back : List code.Filter) (before after : List Filter) (slice found : List Ref) → slice ≡ found → filters_of front ≡ before → filters_of back ≡ after
    → length slice * (1 + length front + length back) ≡ length found * (1 + length (before ++ after))
tested front back before after slice found same is is_too =
    let first : length front ≡ length before = sym (length-map front filter_of) ∙ ap (λ (l : List Filter). length l) is in
    let second : length back ≡ length after = sym (length-map back filter_of) ∙ ap (λ (l : List Filter). length l) is_too in
    let all : 1 + length front + length back ≡ 1 + length (before ++ after) = omega (arith, first, second, length-append before after) in
    ap (λ (l : List Ref). length l * (1 + length front + length back)) same ∙ ap (λ (n : ℕ). length found * n) all

pub find_candidates-requires-clause-base : goal.find_candidates-requires-clause-base
find_candidates-requires-clause-base g c = subst (λ (b : Option Filter). ForSome b (λ base. rank_of base < never)) (sym c.base.ensures) c.requires.base

pub find_candidates-requires-clause-asked : goal.find_candidates-requires-clause-asked
find_candidates-requires-clause-asked g c = λ r of.
    let plan = c.args.plan.now in
    c.requires.asked r (base_asked c.args.pick plan.before plan.after plan.base r (subst (λ (b : Option Filter). IsAskedById c.args.pick (option_to_list b) r) c.base.ensures of))

pub find_candidates-requires-clause-named : goal.find_candidates-requires-clause-named
find_candidates-requires-clause-named g c = c.requires.named

pub returns-in_err-found : goal.returns-in_err-found
returns-in_err-found g c =
    let end = c.from_residual in record {
      later = c.find_candidates.ensures.later;
      walked = no_value end.result _ _ end.ensures.1;
      told = refused_as _ end.result _ end.ensures.1 c.in_err-found.ensures.told;
      named = no_value end.result _ _ end.ensures.1;
      answer = λ p is under there lawful.
          let env = lists_of c.args.sets.now.named.items in
          let plan = c.args.plan.now in
          let allowed = subst (λ (b : Option Filter). ForSome b (Allows c.args.pick)) (sym c.base.ensures) (base_lawful c.args.pick plan.before plan.base plan.after lawful) in
          outcome_stops _ end.ensures.1 refl
          (λ x needs. base_asks p env c.args.pick plan x (subst (λ (b : Option Filter). NeededBy p (AskedByBase p env (kind_picked c.args.pick) b) x) c.base.ensures needs))
          (c.in_err-found.ensures.answer p is under there allowed);
      bounded = λ p is under there lawful clear.
          let plan = c.args.plan.now in
          let allowed = subst (λ (b : Option Filter). ForSome b (Allows c.args.pick)) (sym c.base.ensures) (base_lawful c.args.pick plan.before plan.base plan.after lawful) in
          finding_bounded p (lists_of c.args.sets.now.named.items) c.args.pick plan _ _ (subst (λ (b : Option Filter). IsBounded (WorkOfFinding p (lists_of c.args.sets.now.named.items) c.args.pick b) c.args.meter.now.spent c.find_candidates.new.meter.spent) c.base.ensures (c.find_candidates.ensures.bounded p is under there allowed clear));
      spent = no_value end.result _ _ end.ensures.1;
    }

pub returns-in_err-charge_each : goal.returns-in_err-charge_each
returns-in_err-charge_each g c =
    let end = c.from_residual-in_err-charge_each in record {
      later = c.find_candidates.ensures.later;
      walked = no_value end.result _ _ end.ensures.1;
      told = refused_as _ end.result _ end.ensures.1 (g.met.W.Source.out_of_memory _);
      named = no_value end.result _ _ end.ensures.1;
      answer = λ p is under there lawful. memory_stops _ end.ensures.1 refl;
      bounded = λ p is under there lawful clear.
          let env = lists_of c.args.sets.now.named.items in
          let pick = c.args.pick in
          let plan = c.args.plan.now in
          let found = c.in_ok-found.found in
          let allowed = subst (λ (b : Option Filter). ForSome b (Allows pick)) (sym c.base.ensures) (base_lawful pick plan.before plan.base plan.after lawful) in
          let first = uses (g.W.Source.holds c.find_candidates.new.source) (g.W.Source.used c.args.source.now) (g.W.Source.used c.find_candidates.new.source) in
          let are = found_well (λ x used. used) clear (subst (λ (b : Option Filter). FoundWell p env pick b (g.W.Source.under c.find_candidates.new.source p) first (Ok c.in_ok-found.found)) c.base.ensures (c.in_ok-found.ensures.answer p is under there allowed)) in
          let all : length c.as_slice.result.now * (1 + length c.before-front.result.now + length c.after-back.result.now) ≡ length found * (1 + length (plan.before ++ plan.after)) =
          tested c.before-front.result.now c.after-back.result.now plan.before plan.after c.as_slice.result.now found c.as_slice.ensures.value c.before-front.ensures c.after-back.ensures in
          let counted = subst (λ (n : ℕ). IsCounted c.find_candidates.new.meter.spent c.charge_each.new.self.spent (step_cost * n)) all c.charge_each.ensures in
          let based = subst (λ (b : Option Filter). IsBounded (WorkOfBase p b) c.args.meter.now.spent c.find_candidates.new.meter.spent) c.base.ensures (c.in_ok-found.ensures.read p is under there allowed clear) in
          both_bounded _ _ _ based (set_bounded _ _ found are.0 (steps_bounded (length found * (1 + length (plan.before ++ plan.after))) _ _ counted));
      spent = no_value end.result _ _ end.ensures.1;
    }

pub apply_filters-requires-clause-named : goal.apply_filters-requires-clause-named
apply_filters-requires-clause-named g c = c.in_ok-found.ensures.named

pub apply_filters-requires-clause-sets_named : goal.apply_filters-requires-clause-sets_named
apply_filters-requires-clause-sets_named g c = sets_later (lists_of c.args.sets.now.named.items) (λ r. g.met.W.Source.same_gave _ _ r c.find_candidates.ensures.later) c.requires.named

pub returns-clause-later : goal.returns-clause-later
returns-clause-later g c = g.met.W.Source.chained _ _ _ c.find_candidates.ensures.later c.apply_filters.ensures.later

pub returns-clause-walked : goal.returns-clause-walked
returns-clause-walked g c = on_ok_as c.apply_filters.result (λ walked. g.met.W.Source.more_walks _ _ _ c.find_candidates.ensures.later c.apply_filters.ensures.later c.in_ok-found.ensures.walked walked) c.apply_filters.ensures.walked

pub returns-clause-told : goal.returns-clause-told
returns-clause-told g c = c.apply_filters.ensures.told

pub returns-clause-named : goal.returns-clause-named
returns-clause-named g c = c.apply_filters.ensures.named

pub returns-clause-answer : goal.returns-clause-answer
returns-clause-answer g c = λ p is under there lawful.
    let env = lists_of c.args.sets.now.named.items in
    let pick = c.args.pick in
    let plan = c.args.plan.now in
    let found = c.in_ok-found.found in
    let allowed = subst (λ (b : Option Filter). ForSome b (Allows pick)) (sym c.base.ensures) (base_lawful pick plan.before plan.base plan.after lawful) in
    let first = uses (g.W.Source.holds c.find_candidates.new.source) (g.W.Source.used c.args.source.now) (g.W.Source.used c.find_candidates.new.source) in
    let second = uses (g.W.Source.holds c.apply_filters.new.source) (g.W.Source.used c.find_candidates.new.source) (g.W.Source.used c.apply_filters.new.source) in
    let rest = ap (λ (fs : List Filter). fs ++ filters_of c.after-back.result.now) c.before-front.ensures ∙ ap (λ (fs : List Filter). plan.before ++ fs) c.after-back.ensures in
    truly_then_same (λ x. g.met.W.Source.grows _ _ x c.apply_filters.ensures.later)
    (base_asks p env pick plan) (λ so. tests_ask p env pick plan found so) (λ so b set. plan_splits p env pick plan found so) (λ so b set. kept_set p.objects is.set env pick plan found so b set)
    (subst (λ (b : Option Filter). FoundWell p env pick b (g.W.Source.under c.find_candidates.new.source p) first (Ok c.in_ok-found.found)) c.base.ensures (c.in_ok-found.ensures.answer p is under there allowed))
    (λ so under_now.
    subst (λ (fs : List Filter). TestedWell p env fs found (g.W.Source.under c.apply_filters.new.source p) second c.apply_filters.result) rest
    (c.apply_filters.ensures.answer p is under_now (candidates_there p.objects is.set env pick plan found so) there))

pub returns-clause-bounded : goal.returns-clause-bounded
returns-clause-bounded g c = λ p is under there lawful clear.
    let env = lists_of c.args.sets.now.named.items in
    let pick = c.args.pick in
    let plan = c.args.plan.now in
    let found = c.in_ok-found.found in
    let allowed = subst (λ (b : Option Filter). ForSome b (Allows pick)) (sym c.base.ensures) (base_lawful pick plan.before plan.base plan.after lawful) in
    let first = uses (g.W.Source.holds c.find_candidates.new.source) (g.W.Source.used c.args.source.now) (g.W.Source.used c.find_candidates.new.source) in
    let are = found_well (λ x. g.met.W.Source.grows _ _ x c.apply_filters.ensures.later) clear (subst (λ (b : Option Filter). FoundWell p env pick b (g.W.Source.under c.find_candidates.new.source p) first (Ok c.in_ok-found.found)) c.base.ensures (c.in_ok-found.ensures.answer p is under there allowed)) in
    let all : length c.as_slice.result.now * (1 + length c.before-front.result.now + length c.after-back.result.now) ≡ length found * (1 + length (plan.before ++ plan.after)) =
    tested c.before-front.result.now c.after-back.result.now plan.before plan.after c.as_slice.result.now found c.as_slice.ensures.value c.before-front.ensures c.after-back.ensures in
    let counted = subst (λ (n : ℕ). IsCounted c.find_candidates.new.meter.spent c.charge_each.new.self.spent (step_cost * n)) all c.charge_each.ensures in
    let based = subst (λ (b : Option Filter). IsBounded (WorkOfBase p b) c.args.meter.now.spent c.find_candidates.new.meter.spent) c.base.ensures (c.in_ok-found.ensures.read p is under there allowed (clear_before (λ x. g.met.W.Source.grows _ _ x c.apply_filters.ensures.later) clear)) in
    both_bounded _ _ _ based (set_bounded _ _ found are.0 (steps_bounded (length found * (1 + length (plan.before ++ plan.after))) _ _ counted))

pub returns-clause-spent : goal.returns-clause-spent
returns-clause-spent g c = on_ok_as c.apply_filters.result (λ walked p is under there lawful clear.
    let env = lists_of c.args.sets.now.named.items in
    let pick = c.args.pick in
    let plan = c.args.plan.now in
    let found = c.in_ok-found.found in
    let allowed = subst (λ (b : Option Filter). ForSome b (Allows pick)) (sym c.base.ensures) (base_lawful pick plan.before plan.base plan.after lawful) in
    let first = uses (g.W.Source.holds c.find_candidates.new.source) (g.W.Source.used c.args.source.now) (g.W.Source.used c.find_candidates.new.source) in
    let are = found_well (λ x. g.met.W.Source.grows _ _ x c.apply_filters.ensures.later) clear (subst (λ (b : Option Filter). FoundWell p env pick b (g.W.Source.under c.find_candidates.new.source p) first (Ok c.in_ok-found.found)) c.base.ensures (c.in_ok-found.ensures.answer p is under there allowed)) in
    let all : length c.as_slice.result.now * (1 + length c.before-front.result.now + length c.after-back.result.now) ≡ length found * (1 + length (plan.before ++ plan.after)) =
    tested c.before-front.result.now c.after-back.result.now plan.before plan.after c.as_slice.result.now found c.as_slice.ensures.value c.before-front.ensures c.after-back.ensures in
    let counted = subst (λ (n : ℕ). IsCounted c.find_candidates.new.meter.spent c.charge_each.new.self.spent (step_cost * n)) all c.charge_each.ensures in
    let based = subst (λ (b : Option Filter). IsSpent (WorkOfBase p b) c.args.meter.now.spent c.find_candidates.new.meter.spent) c.base.ensures (c.in_ok-found.ensures.spent p is under there allowed (clear_before (λ x. g.met.W.Source.grows _ _ x c.apply_filters.ensures.later) clear)) in
    both_spent _ _ _ based (set_spent _ _ found are.0 (steps_spent (length found * (1 + length (plan.before ++ plan.after))) _ _ counted))) c.apply_filters.ensures.walked
