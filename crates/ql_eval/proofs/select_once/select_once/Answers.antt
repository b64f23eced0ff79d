use Rattle.std.proofs.Common.{◌-◌, List, refl, sym, subst, ◌∙◌}
use Rattle.std.specs.List.{Contains}
use Rattle.osm_model.specs.declared.reference.Ref.{Ref}
use Rattle.tree_node.proofs.shared.OutcomeLaws.{memory_stops, outcome_stops}
use Rattle.ql_syntax.specs.StatementViews.{filters_of}
use Rattle.ref_sets.specs.NamedSets.{lists_of}
use Rattle.ref_sets.specs.Sets.{IsSetOf}
use Rattle.ql_meaning.specs.Values.{IsRefOf, IsSelected}
use Rattle.ql_eval.specs.declared.select_memo.AskedSelect.{AskedSelect}
use Rattle.ql_eval.specs.internal.Recalling.{IsAnswerOf}
use Rattle.ql_eval.specs.internal.Giving.{AllGiven}
use Rattle.ql_eval.proofs.ExitLemmas.{no_value}
use Rattle.ql_eval.proofs.StepLemmas.{refused_as}
use Rattle.ql_eval.proofs.MeterLemmas.{still}
use Rattle.ql_eval.proofs.RecallLemmas.{again_bounded, again_spent, answer_now, found_again, given_again, given_later, given_one_more, outcome_again, outcome_used, recalled_later, recalled_one_more}
use Rattle.ql_eval.proofs.select_once.select_once.Goals as goal

-- where nothing is remembered

pub returns-in_err-refs : goal.returns-in_err-refs
returns-in_err-refs g c =
    let end = c.from_residual in record {
      later = c.select.ensures.later;
      walked = no_value end.result _ _ end.ensures.1;
      told = refused_as _ end.result _ end.ensures.1 c.in_err-refs.ensures.told;
      named = no_value end.result _ _ end.ensures.1;
      recalled_named = no_value end.result _ _ end.ensures.1;
      answer = λ p is under known there lawful. outcome_stops _ end.ensures.1 refl (λ x needs. needs) (c.in_err-refs.ensures.answer p is under there lawful);
      bounded = λ p is under known there lawful clear. c.select.ensures.bounded p is under there lawful clear;
      spent = no_value end.result _ _ end.ensures.1;
    }

pub returns-in_err-new : goal.returns-in_err-new
returns-in_err-new g c =
    let end = c.from_residual-in_err-new in record {
      later = c.select.ensures.later;
      walked = no_value end.result _ _ end.ensures.1;
      told = refused_as _ end.result _ end.ensures.1 (g.met.W.Source.out_of_memory _);
      named = no_value end.result _ _ end.ensures.1;
      recalled_named = no_value end.result _ _ end.ensures.1;
      answer = λ p is under known there lawful. memory_stops _ end.ensures.1 refl;
      bounded = λ p is under known there lawful clear. c.select.ensures.bounded p is under there lawful clear;
      spent = no_value end.result _ _ end.ensures.1;
    }

pub returns-then-not-remembers-clause-later : goal.returns-then-not-remembers-clause-later
returns-then-not-remembers-clause-later g c = c.select.ensures.later

pub returns-then-not-remembers-clause-walked : goal.returns-then-not-remembers-clause-walked
returns-then-not-remembers-clause-walked g c = c.in_ok-refs.ensures.walked

pub returns-then-not-remembers-clause-told : goal.returns-then-not-remembers-clause-told
returns-then-not-remembers-clause-told g c = tt

pub returns-then-not-remembers-clause-named : goal.returns-then-not-remembers-clause-named
returns-then-not-remembers-clause-named g c = subst (λ (l : List Ref). AllGiven (g.W.Source.gave c.select.new.source) l) (sym c.in_ok-new.ensures.ok) c.in_ok-refs.ensures.named

pub returns-then-not-remembers-clause-recalled_named : goal.returns-then-not-remembers-clause-recalled_named
returns-then-not-remembers-clause-recalled_named g c =
    given_later (g.W.Source.gave c.args.source.now) (g.W.Source.gave c.select.new.source) c.args.memo.now.remembered.items (λ r. g.met.W.Source.same_gave _ _ r c.select.ensures.later) c.requires.recalled_named

pub returns-then-not-remembers-clause-answer : goal.returns-then-not-remembers-clause-answer
returns-then-not-remembers-clause-answer g c = λ p is under known there lawful.
    let env = lists_of c.args.sets.now.named.items in
    let filters = filters_of c.args.filters.now in
    outcome_used (λ so all. (
      (
        subst (λ (l : List Ref). IsSetOf l (IsRefOf p.objects (IsSelected p.objects env c.args.pick filters))) (sym c.in_ok-new.ensures.ok) so.0,
        recalled_later p (g.W.Source.used c.args.source.now) (g.W.Source.used c.select.new.source) c.args.memo.now.remembered.items (λ x. g.met.W.Source.grows _ _ x c.select.ensures.later) known,
      ),
      so.1,
    ))
    (c.in_ok-refs.ensures.answer p is under there lawful)

pub returns-then-not-remembers-clause-bounded : goal.returns-then-not-remembers-clause-bounded
returns-then-not-remembers-clause-bounded g c = λ p is under known there lawful clear. c.select.ensures.bounded p is under there lawful clear

pub returns-then-not-remembers-clause-spent : goal.returns-then-not-remembers-clause-spent
returns-then-not-remembers-clause-spent g c = λ p is under known there lawful clear. c.in_ok-refs.ensures.spent p is under there lawful clear

-- where the statement is remembered, or will be

pub returns-in_err-sets_read : goal.returns-in_err-sets_read
returns-in_err-sets_read g c =
    let end = c.from_residual-in_err-sets_read in record {
      later = g.met.W.Source.itself _;
      walked = no_value end.result _ _ end.ensures.1;
      told = refused_as _ end.result _ end.ensures.1 (g.met.W.Source.out_of_memory _);
      named = no_value end.result _ _ end.ensures.1;
      recalled_named = no_value end.result _ _ end.ensures.1;
      answer = λ p is under known there lawful. memory_stops _ end.ensures.1 refl;
      bounded = λ p is under known there lawful clear. still _ _;
      spent = no_value end.result _ _ end.ensures.1;
    }

pub returns-in_err-charge_again : goal.returns-in_err-charge_again
returns-in_err-charge_again g c =
    let end = c.from_residual-in_err-charge_again in record {
      later = g.met.W.Source.itself _;
      walked = no_value end.result _ _ end.ensures.1;
      told = refused_as _ end.result _ end.ensures.1 (g.met.W.Source.out_of_memory _);
      named = no_value end.result _ _ end.ensures.1;
      recalled_named = no_value end.result _ _ end.ensures.1;
      answer = λ p is under known there lawful. memory_stops _ end.ensures.1 refl;
      bounded = λ p is under known there lawful clear.
          let asked : AskedSelect = record { pick = c.args.pick; filters = c.args.filters; reads = c.in_ok-sets_read.field-0 } in
          let so = found_again c.args.memo.now.remembered.items asked c.in-Some.one.now c.in-Some.ensures.0 c.in-Some.ensures.1 p (g.W.Source.used c.args.source.now) (lists_of c.args.sets.now.named.items) c.in_ok-sets_read.ensures known in
          again_bounded _ _ c.in-Some.one.now.work (so.bounded clear) c.charge_again.ensures;
      spent = no_value end.result _ _ end.ensures.1;
    }

pub returns-in_err-clone : goal.returns-in_err-clone
returns-in_err-clone g c =
    let end = c.from_residual-in_err-clone in record {
      later = g.met.W.Source.itself _;
      walked = no_value end.result _ _ end.ensures.1;
      told = refused_as _ end.result _ end.ensures.1 (g.met.W.Source.out_of_memory _);
      named = no_value end.result _ _ end.ensures.1;
      recalled_named = no_value end.result _ _ end.ensures.1;
      answer = λ p is under known there lawful. memory_stops _ end.ensures.1 refl;
      bounded = λ p is under known there lawful clear.
          let asked : AskedSelect = record { pick = c.args.pick; filters = c.args.filters; reads = c.in_ok-sets_read.field-0 } in
          let so = found_again c.args.memo.now.remembered.items asked c.in-Some.one.now c.in-Some.ensures.0 c.in-Some.ensures.1 p (g.W.Source.used c.args.source.now) (lists_of c.args.sets.now.named.items) c.in_ok-sets_read.ensures known in
          again_bounded _ _ c.in-Some.one.now.work (so.bounded clear) c.charge_again.ensures;
      spent = no_value end.result _ _ end.ensures.1;
    }

pub returns-in-Some-clause-later : goal.returns-in-Some-clause-later
returns-in-Some-clause-later g c = g.met.W.Source.itself _

pub returns-in-Some-clause-walked : goal.returns-in-Some-clause-walked
returns-in-Some-clause-walked g c = g.met.W.Source.no_walk _

pub returns-in-Some-clause-told : goal.returns-in-Some-clause-told
returns-in-Some-clause-told g c = tt

pub returns-in-Some-clause-recalled_named : goal.returns-in-Some-clause-recalled_named
returns-in-Some-clause-recalled_named g c = c.requires.recalled_named

pub returns-in-Some-clause-bounded : goal.returns-in-Some-clause-bounded
returns-in-Some-clause-bounded g c = λ p is under known there lawful clear.
    let asked : AskedSelect = record { pick = c.args.pick; filters = c.args.filters; reads = c.in_ok-sets_read.field-0 } in
    let so = found_again c.args.memo.now.remembered.items asked c.in-Some.one.now c.in-Some.ensures.0 c.in-Some.ensures.1 p (g.W.Source.used c.args.source.now) (lists_of c.args.sets.now.named.items) c.in_ok-sets_read.ensures known in
    again_bounded _ _ c.in-Some.one.now.work (so.bounded clear) c.charge_again.ensures

pub returns-in-Some-clause-spent : goal.returns-in-Some-clause-spent
returns-in-Some-clause-spent g c = λ p is under known there lawful clear.
    let asked : AskedSelect = record { pick = c.args.pick; filters = c.args.filters; reads = c.in_ok-sets_read.field-0 } in
    let so = found_again c.args.memo.now.remembered.items asked c.in-Some.one.now c.in-Some.ensures.0 c.in-Some.ensures.1 p (g.W.Source.used c.args.source.now) (lists_of c.args.sets.now.named.items) c.in_ok-sets_read.ensures known in
    again_spent _ _ c.in-Some.one.now.work (so.spent clear) c.charge_again.ensures

pub returns-in-Some-clause-named : goal.returns-in-Some-clause-named
returns-in-Some-clause-named g c = λ r has.
    let asked : AskedSelect = record { pick = c.args.pick; filters = c.args.filters; reads = c.in_ok-sets_read.field-0 } in
    given_again c.args.memo.now.remembered.items asked c.in-Some.one.now c.in-Some.ensures.0 c.in-Some.ensures.1 (g.W.Source.gave c.args.source.now) c.requires.recalled_named r
    (subst (λ (l : List Ref). Contains l r) c.in_ok-clone.ensures.cases has)

pub returns-in-Some-clause-answer : goal.returns-in-Some-clause-answer
returns-in-Some-clause-answer g c = λ p is under known there lawful.
    let env = lists_of c.args.sets.now.named.items in
    let asked : AskedSelect = record { pick = c.args.pick; filters = c.args.filters; reads = c.in_ok-sets_read.field-0 } in
    let so = found_again c.args.memo.now.remembered.items asked c.in-Some.one.now c.in-Some.ensures.0 c.in-Some.ensures.1 p (g.W.Source.used c.args.source.now) (lists_of c.args.sets.now.named.items) c.in_ok-sets_read.ensures known in
    outcome_again ((subst (λ (l : List Ref). IsSetOf l (IsRefOf p.objects (IsSelected p.objects env c.args.pick (filters_of c.args.filters.now)))) (sym c.in_ok-clone.ensures.cases) so.set, known), under) so.needs

pub returns-in_err-select : goal.returns-in_err-select
returns-in_err-select g c =
    let end = c.from_residual-in_err-select in record {
      later = c.select-2.ensures.later;
      walked = no_value end.result _ _ end.ensures.1;
      told = refused_as _ end.result _ end.ensures.1 c.in_err-select.ensures.told;
      named = no_value end.result _ _ end.ensures.1;
      recalled_named = no_value end.result _ _ end.ensures.1;
      answer = λ p is under known there lawful. outcome_stops _ end.ensures.1 refl (λ x needs. needs) (c.in_err-select.ensures.answer p is under there lawful);
      bounded = λ p is under known there lawful clear. c.select-2.ensures.bounded p is under there lawful clear;
      spent = no_value end.result _ _ end.ensures.1;
    }

pub returns-in_err-refs-2 : goal.returns-in_err-refs-2
returns-in_err-refs-2 g c =
    let end = c.from_residual-in_err-refs-2 in record {
      later = c.select-2.ensures.later;
      walked = no_value end.result _ _ end.ensures.1;
      told = refused_as _ end.result _ end.ensures.1 (g.met.W.Source.out_of_memory _);
      named = no_value end.result _ _ end.ensures.1;
      recalled_named = no_value end.result _ _ end.ensures.1;
      answer = λ p is under known there lawful. memory_stops _ end.ensures.1 refl;
      bounded = λ p is under known there lawful clear. c.select-2.ensures.bounded p is under there lawful clear;
      spent = no_value end.result _ _ end.ensures.1;
    }

pub returns-in_err-clone-2 : goal.returns-in_err-clone-2
returns-in_err-clone-2 g c =
    let end = c.from_residual-in_err-clone-2 in record {
      later = c.select-2.ensures.later;
      walked = no_value end.result _ _ end.ensures.1;
      told = refused_as _ end.result _ end.ensures.1 (g.met.W.Source.out_of_memory _);
      named = no_value end.result _ _ end.ensures.1;
      recalled_named = no_value end.result _ _ end.ensures.1;
      answer = λ p is under known there lawful. memory_stops _ end.ensures.1 refl;
      bounded = λ p is under known there lawful clear. c.select-2.ensures.bounded p is under there lawful clear;
      spent = no_value end.result _ _ end.ensures.1;
    }

pub returns-in_err-remember : goal.returns-in_err-remember
returns-in_err-remember g c =
    let end = c.from_residual-in_err-remember in record {
      later = c.select-2.ensures.later;
      walked = no_value end.result _ _ end.ensures.1;
      told = refused_as _ end.result _ end.ensures.1 (g.met.W.Source.out_of_memory _);
      named = no_value end.result _ _ end.ensures.1;
      recalled_named = no_value end.result _ _ end.ensures.1;
      answer = λ p is under known there lawful. memory_stops _ end.ensures.1 refl;
      bounded = λ p is under known there lawful clear. c.select-2.ensures.bounded p is under there lawful clear;
      spent = no_value end.result _ _ end.ensures.1;
    }

pub returns-clause-later : goal.returns-clause-later
returns-clause-later g c = c.select-2.ensures.later

pub returns-clause-walked : goal.returns-clause-walked
returns-clause-walked g c = c.in_ok-select.ensures.walked

pub returns-clause-told : goal.returns-clause-told
returns-clause-told g c = tt

pub returns-clause-named : goal.returns-clause-named
returns-clause-named g c = subst (λ (l : List Ref). AllGiven (g.W.Source.gave c.select-2.new.source) l) (sym c.in_ok-refs-2.ensures.ok) c.in_ok-select.ensures.named

pub returns-clause-recalled_named : goal.returns-clause-recalled_named
returns-clause-recalled_named g c =
    let asked : AskedSelect = record { pick = c.args.pick; filters = c.args.filters; reads = c.in_ok-sets_read.field-0 } in
    given_one_more asked c.in_ok-clone-2.field-0.value c.args.meter.now.spent c.select-2.new.meter.spent c.args.memo.now.remembered.items c.remember.new.self.remembered.items c.remember.ensures
    (g.W.Source.gave c.args.source.now) (g.W.Source.gave c.select-2.new.source) (λ r. g.met.W.Source.same_gave _ _ r c.select-2.ensures.later)
    (λ r has. c.in_ok-select.ensures.named r (subst (λ (l : List Ref). Contains l r) (c.in_ok-clone-2.ensures.cases ∙ c.in_ok-refs-2.ensures.ok) has)) c.requires.recalled_named

pub returns-clause-answer : goal.returns-clause-answer
returns-clause-answer g c = λ p is under known there lawful.
    let env = lists_of c.args.sets.now.named.items in
    let pick = c.args.pick in
    let filters = filters_of c.args.filters.now in
    let before = c.args.meter.now.spent in
    let after = c.select-2.new.meter.spent in
    let was = g.W.Source.used c.args.source.now in
    let used = g.W.Source.used c.select-2.new.source in
    let asked : AskedSelect = record { pick = c.args.pick; filters = c.args.filters; reads = c.in_ok-sets_read.field-0 } in
    outcome_used (λ so all. (
      (
        subst (λ (l : List Ref). IsSetOf l (IsRefOf p.objects (IsSelected p.objects env pick filters))) (sym c.in_ok-refs-2.ensures.ok) so.0,
        recalled_one_more asked c.in_ok-clone-2.field-0.value before after c.args.memo.now.remembered.items c.remember.new.self.remembered.items c.remember.ensures p was used env
            (λ x. g.met.W.Source.grows _ _ x c.select-2.ensures.later) c.in_ok-sets_read.ensures
            (λ below. subst (λ (l : List Ref). IsAnswerOf p used env pick filters l (after - before)) (sym (c.in_ok-clone-2.ensures.cases ∙ c.in_ok-refs-2.ensures.ok))
            (answer_now before after below so.0 all (λ clear. c.select-2.ensures.bounded p is under there lawful clear) (λ clear. c.in_ok-select.ensures.spent p is under there lawful clear))) known,
      ),
      so.1,
    ))
    (c.in_ok-select.ensures.answer p is under there lawful)

pub returns-clause-bounded : goal.returns-clause-bounded
returns-clause-bounded g c = λ p is under known there lawful clear. c.select-2.ensures.bounded p is under there lawful clear

pub returns-clause-spent : goal.returns-clause-spent
returns-clause-spent g c = λ p is under known there lawful clear. c.in_ok-select.ensures.spent p is under there lawful clear
