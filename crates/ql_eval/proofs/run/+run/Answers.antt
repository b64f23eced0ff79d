use Rattle.std.proofs.Common.{◌≡◌, ℕ, List, ◌++◌, ◌+◌, ◌*◌, Ok, Err, drop, length, take, refl, sym, ap, subst, ◌∙◌}
use Rattle.std.specs.List.{AllByRecursion}
use Rattle.osm_model.specs.declared.reference.Ref.{Ref}
use Rattle.tree_node.proofs.shared.OutcomeLaws.{memory_stops, outcome_starts, outcome_stops, uses}
use Rattle.ql_syntax.proofs.shared.StatementTrees.{union_is}
use Rattle.ql_syntax.specs.LawfulQueries.{Allows}
use Rattle.ql_syntax.specs.StatementViews.{filters_of, statement_of, statements_of}
use Rattle.ql_syntax.specs.declared.filter.Filter.{Filter}
use Rattle.ql_syntax.specs.declared.statement.Stmt.{Stmt}
use Rattle.ql_meaning.proofs.shared.Running.{after_next, minus_after}
use Rattle.ql_meaning.specs.Meanings.{AfterAll, given_by}
use Rattle.std.proofs.lemmas.List.{take_all}
use Rattle.ql_meaning.specs.Values.{IsReached, IsRefOf, IsSelected}
use Rattle.ref_sets.specs.NamedSets.{put, lists_of}
use Rattle.ref_sets.specs.Sets.{IsSetOf}
use Rattle.ql_eval.specs.Asks.{AskedBy, AskedByAll, AskedByRecursion, AskedBySelect}
use Rattle.ql_eval.specs.Questions.{NeededBy}
use Rattle.ql_eval.specs.internal.Lawful.{CanRun, CanRunAll}
use Rattle.ql_eval.specs.internal.Links.{AreThere}
use Rattle.ql_eval.proofs.StatementLemmas.{RanAllWell, RanWell, after_all_there, after_as, after_there, as_needs, can_run_as, left_needs, minus_splits, needs_as, one_lawful, part_all, part_needs, parts_all, parts_front, parts_split, right_needs}
use Rattle.ql_eval.proofs.ExitLemmas.{no_value}
use Rattle.ql_eval.proofs.StepLemmas.{refused_as}
use Rattle.ql_eval.proofs.GivenLemmas.{all_appended, all_later, part_given, put_given, sets_later, sorted_given, written_given}
use Rattle.ql_eval.specs.internal.Giving.{AllGiven}
use Rattle.ql_eval.specs.internal.Recalling.{AreAnswers}
use Rattle.ql_eval.proofs.RecallLemmas.{given_later, recalled_later}
use Rattle.ql_eval.specs.Work.{OfSet, Steps, WorkOf, WorkOfAll, WorkOfSelect, step_cost}
use Rattle.ql_eval.specs.internal.Metering.{IsBounded, IsCounted, IsSpent, WorkOfLast}
use Rattle.ql_eval.proofs.MeterLemmas.{bounded_as, clear_before, found_well, going_at, going_bounded, going_next, going_stops, gone_all, last_as, last_stops, nothing_spent, recursion_stops, row_bounded, row_spent, row_stops, spent_as, steps_bounded, steps_spent, still, stops_as}
use Rattle.ql_syntax.specs.Statements.{Recurse, Statement}
use Rattle.ql_eval.specs.Absences.{HasIdOf, IsAskedById}
use Rattle.ql_eval.proofs.AbsenceLemmas.{part_asked, union_asked}
use Rattle.ql_eval.proofs.TruthLemmas.{truly_as, truly_then, truly_then_stops}
use Rattle.ql_eval.proofs.run.+run.Goals as goal

-- ---- a query statement

pub run-select_once-requires-clause-asked : goal.run-select_once-requires-clause-asked
run-select_once-requires-clause-asked g t c = λ r of.
    c.requires.asked r (subst (λ (s : Statement). HasIdOf s r) (sym (ap statement_of c.in-Select.is)) (subst (λ (fs : List Filter). IsAskedById c.in-Select.kind (filters_of fs) r) c.deref.ensures.value of))

pub run-returns-in_err-refs-in-Select : goal.run-returns-in_err-refs-in-Select
run-returns-in_err-refs-in-Select g t c =
    let end = c.from_residual in record {
      later = c.select_once.ensures.later;
      walked = no_value end.result _ _ end.ensures.1;
      told = refused_as _ end.result _ end.ensures.1 c.in_err-refs-in-Select.ensures.told;
      named = no_value end.result _ _ end.ensures.1;
      recalled_named = no_value end.result _ _ end.ensures.1;
      answer = λ p is under known there can.
          let env = lists_of c.args.sets.now.named.items in
          let kind = c.in-Select.kind in
          let same = ap statement_of c.in-Select.is in
          let lawful = subst (λ (fs : List Filter). AllByRecursion (Allows kind) (filters_of fs)) (sym c.deref.ensures.value) (can_run_as same can) in
          outcome_stops _ end.ensures.1 refl
          (λ x needs. needs_as same p env x (subst (λ (fs : List Filter). NeededBy p (AskedBySelect p env kind (filters_of fs)) x) c.deref.ensures.value needs))
          (c.in_err-refs-in-Select.ensures.answer p is under known there lawful);
      in_row = λ tell p is under known there can clear.
          let env = lists_of c.args.sets.now.named.items in
          let kind = c.in-Select.kind in
          let lawful = subst (λ (fs : List Filter). AllByRecursion (Allows kind) (filters_of fs)) (sym c.deref.ensures.value) (can_run_as (ap statement_of c.in-Select.is) can) in
          stops_as (ap statement_of c.in-Select.is) tell p env _ _
          (subst (λ (fs : List Filter). IsBounded (WorkOfSelect p env kind (filters_of fs)) c.args.meter.now.spent c.select_once.new.meter.spent) c.deref.ensures.value (c.select_once.ensures.bounded p is under known there lawful clear));
      bounded = no_value end.result _ _ end.ensures.1;
      spent = no_value end.result _ _ end.ensures.1;
    }

pub run-returns-in_err-write_shared-in-Select : goal.run-returns-in_err-write_shared-in-Select
run-returns-in_err-write_shared-in-Select g t c =
    let end = c.from_residual-in_err-write_shared-in-Select in record {
      later = c.select_once.ensures.later;
      walked = no_value end.result _ _ end.ensures.1;
      told = refused_as _ end.result _ end.ensures.1 (g.met.W.Source.out_of_memory _);
      named = no_value end.result _ _ end.ensures.1;
      recalled_named = no_value end.result _ _ end.ensures.1;
      answer = λ p is under known there can. memory_stops _ end.ensures.1 refl;
      in_row = λ tell p is under known there can clear.
          let env = lists_of c.args.sets.now.named.items in
          let kind = c.in-Select.kind in
          let lawful = subst (λ (fs : List Filter). AllByRecursion (Allows kind) (filters_of fs)) (sym c.deref.ensures.value) (can_run_as (ap statement_of c.in-Select.is) can) in
          stops_as (ap statement_of c.in-Select.is) tell p env _ _
          (subst (λ (fs : List Filter). IsBounded (WorkOfSelect p env kind (filters_of fs)) c.args.meter.now.spent c.select_once.new.meter.spent) c.deref.ensures.value (c.select_once.ensures.bounded p is under known there lawful clear));
      bounded = no_value end.result _ _ end.ensures.1;
      spent = no_value end.result _ _ end.ensures.1;
    }

pub run-returns-in_ok-write_shared-in-Select-clause-later : goal.run-returns-in_ok-write_shared-in-Select-clause-later
run-returns-in_ok-write_shared-in-Select-clause-later g t c = c.select_once.ensures.later

pub run-returns-in_ok-write_shared-in-Select-clause-walked : goal.run-returns-in_ok-write_shared-in-Select-clause-walked
run-returns-in_ok-write_shared-in-Select-clause-walked g t c = c.in_ok-refs-in-Select.ensures.walked

pub run-returns-in_ok-write_shared-in-Select-clause-told : goal.run-returns-in_ok-write_shared-in-Select-clause-told
run-returns-in_ok-write_shared-in-Select-clause-told g t c = tt

pub run-returns-in_ok-write_shared-in-Select-clause-named : goal.run-returns-in_ok-write_shared-in-Select-clause-named
run-returns-in_ok-write_shared-in-Select-clause-named g t c = put_given _ c.in_ok-refs-in-Select.refs.value (lists_of c.args.sets.now.named.items) _ c.in_ok-write_shared-in-Select.ensures (c.in_ok-refs-in-Select.ensures.named) (sets_later (lists_of c.args.sets.now.named.items) (λ r. g.met.W.Source.same_gave _ _ r c.select_once.ensures.later) c.requires.named)

pub run-returns-in_ok-write_shared-in-Select-clause-recalled_named : goal.run-returns-in_ok-write_shared-in-Select-clause-recalled_named
run-returns-in_ok-write_shared-in-Select-clause-recalled_named g t c = c.in_ok-refs-in-Select.ensures.recalled_named

pub run-returns-in_ok-write_shared-in-Select-clause-answer : goal.run-returns-in_ok-write_shared-in-Select-clause-answer
run-returns-in_ok-write_shared-in-Select-clause-answer g t c = λ p is under known there can.
    let env = lists_of c.args.sets.now.named.items in
    let kind = c.in-Select.kind in
    let same = ap statement_of c.in-Select.is in
    let refs = c.in_ok-refs-in-Select.refs.value in
    let filters = c.deref.ensures.value in
    let lawful = subst (λ (fs : List Filter). AllByRecursion (Allows kind) (filters_of fs)) (sym filters) (can_run_as same can) in
    truly_as (λ x needs. needs_as same p env x (subst (λ (fs : List Filter). NeededBy p (AskedBySelect p env kind (filters_of fs)) x) filters needs))
    (λ so x needs. subst (λ (fs : List Filter). NeededBy p (AskedBySelect p env kind (filters_of fs)) x) (sym filters) (as_needs same p env x needs))
    (λ so. (
      after_as same p.objects _ _ (
        refs,
        subst (λ (fs : List Filter). IsSetOf refs (IsRefOf p.objects (IsSelected p.objects env kind (filters_of fs)))) filters so.0,
        c.in_ok-write_shared-in-Select.ensures ∙ ap (λ (name : List ℕ). put name refs env) c.as_bytes.ensures,
      ),
      so.1,
    ))
    (c.in_ok-refs-in-Select.ensures.answer p is under known there lawful)

pub run-returns-in_ok-write_shared-in-Select-clause-bounded : goal.run-returns-in_ok-write_shared-in-Select-clause-bounded
run-returns-in_ok-write_shared-in-Select-clause-bounded g t c = λ tell p is under known there can clear.
    let env = lists_of c.args.sets.now.named.items in
    let kind = c.in-Select.kind in
    let lawful = subst (λ (fs : List Filter). AllByRecursion (Allows kind) (filters_of fs)) (sym c.deref.ensures.value) (can_run_as (ap statement_of c.in-Select.is) can) in
    bounded_as (ap statement_of c.in-Select.is) tell p env _ _
    (subst (λ (fs : List Filter). IsBounded (WorkOfSelect p env kind (filters_of fs)) c.args.meter.now.spent c.select_once.new.meter.spent) c.deref.ensures.value (c.select_once.ensures.bounded p is under known there lawful clear))

pub run-returns-in_ok-write_shared-in-Select-clause-in_row : goal.run-returns-in_ok-write_shared-in-Select-clause-in_row
run-returns-in_ok-write_shared-in-Select-clause-in_row g t c = λ tell p is under known there can clear.
    row_stops p.objects (statement_of c.args.statement.now) (lists_of c.args.sets.now.named.items) _ _ (run-returns-in_ok-write_shared-in-Select-clause-bounded g t c tell p is under known there can clear)

pub run-returns-in_ok-write_shared-in-Select-clause-spent : goal.run-returns-in_ok-write_shared-in-Select-clause-spent
run-returns-in_ok-write_shared-in-Select-clause-spent g t c = λ tell p is under known there can clear.
    let env = lists_of c.args.sets.now.named.items in
    let kind = c.in-Select.kind in
    let lawful = subst (λ (fs : List Filter). AllByRecursion (Allows kind) (filters_of fs)) (sym c.deref.ensures.value) (can_run_as (ap statement_of c.in-Select.is) can) in
    spent_as (ap statement_of c.in-Select.is) tell p env _ _
    (subst (λ (fs : List Filter). IsSpent (WorkOfSelect p env kind (filters_of fs)) c.args.meter.now.spent c.select_once.new.meter.spent) c.deref.ensures.value (c.in_ok-refs-in-Select.ensures.spent p is under known there lawful clear))

-- ---- a recursion

pub run-recurse_once-requires : goal.run-recurse_once-requires
run-recurse_once-requires g t c = subst (λ (l : List Ref). AllGiven (g.W.Source.gave c.args.source.now) l) (sym c.in_ok-set-in-Recurse.ensures) (c.requires.named c.as_bytes-in-Recurse.result.now)

pub run-returns-in_err-set-in-Recurse : goal.run-returns-in_err-set-in-Recurse
run-returns-in_err-set-in-Recurse g t c =
    let end = c.from_residual-in_err-set-in-Recurse in record {
      later = g.met.W.Source.itself _;
      walked = no_value end.result _ _ end.ensures.1;
      told = refused_as _ end.result _ end.ensures.1 (g.met.W.Source.out_of_memory _);
      named = no_value end.result _ _ end.ensures.1;
      recalled_named = no_value end.result _ _ end.ensures.1;
      answer = λ p is under known there can. memory_stops _ end.ensures.1 refl;
      in_row = λ tell p is under known there can clear. still _ _;
      bounded = no_value end.result _ _ end.ensures.1;
      spent = no_value end.result _ _ end.ensures.1;
    }

pub run-returns-in_err-charge-in-Recurse : goal.run-returns-in_err-charge-in-Recurse
run-returns-in_err-charge-in-Recurse g t c =
    let end = c.from_residual-in_err-charge-in-Recurse in record {
      later = g.met.W.Source.itself _;
      walked = no_value end.result _ _ end.ensures.1;
      told = refused_as _ end.result _ end.ensures.1 (g.met.W.Source.out_of_memory _);
      named = no_value end.result _ _ end.ensures.1;
      recalled_named = no_value end.result _ _ end.ensures.1;
      answer = λ p is under known there can. memory_stops _ end.ensures.1 refl;
      in_row = λ tell p is under known there can clear.
          let env = lists_of c.args.sets.now.named.items in
          let set = c.deref-in-Recurse.ensures ∙ c.in_ok-set-in-Recurse.ensures ∙ ap env c.as_bytes-in-Recurse.ensures in
          let count = ap (λ (l : List Ref). length l) (c.as_slice.ensures.value ∙ set) in
          stops_as (ap statement_of c.in-Recurse.is) tell p env _ _
          (steps_bounded (length (env c.in-Recurse.«from»)) _ _ (subst (λ (n : ℕ). IsCounted c.args.meter.now.spent c.charge.new.self.spent (step_cost * n)) count c.charge.ensures));
      bounded = no_value end.result _ _ end.ensures.1;
      spent = no_value end.result _ _ end.ensures.1;
    }

pub run-returns-in_err-refs-in-Recurse : goal.run-returns-in_err-refs-in-Recurse
run-returns-in_err-refs-in-Recurse g t c =
    let end = c.from_residual-in_err-refs-in-Recurse in record {
      later = c.recurse_once.ensures.later;
      walked = no_value end.result _ _ end.ensures.1;
      told = refused_as _ end.result _ end.ensures.1 c.in_err-refs-in-Recurse.ensures.told;
      named = no_value end.result _ _ end.ensures.1;
      recalled_named = no_value end.result _ _ end.ensures.1;
      answer = λ p is under known there can.
          let env = lists_of c.args.sets.now.named.items in
          let set = c.in_ok-set-in-Recurse.ensures ∙ ap env c.as_bytes-in-Recurse.ensures in
          outcome_stops _ end.ensures.1 refl
          (λ x needs. needs_as (ap statement_of c.in-Recurse.is) p env x (subst (λ (l : List Ref). NeededBy p (AskedByRecursion p c.in-Recurse.how l) x) set needs))
          (c.in_err-refs-in-Recurse.ensures.answer p is under (subst (λ (l : List Ref). AreThere p.objects l) (sym set) (there c.in-Recurse.«from»)));
      in_row = λ tell p is under known there can clear.
          let env = lists_of c.args.sets.now.named.items in
          let named = c.in_ok-set-in-Recurse.ensures ∙ ap env c.as_bytes-in-Recurse.ensures in
          let count = ap (λ (l : List Ref). length l) (c.as_slice.ensures.value ∙ c.deref-in-Recurse.ensures ∙ named) in
          let found = c.recurse_once.ensures.bounded p is under (subst (λ (l : List Ref). AreThere p.objects l) (sym named) (there c.in-Recurse.«from»)) clear in
          last_as (ap statement_of c.in-Recurse.is) tell p env _ _
          (recursion_stops tell p c.in-Recurse.«from» c.in-Recurse.into c.in-Recurse.how env _ _ _
          (subst (λ (n : ℕ). IsCounted c.args.meter.now.spent c.charge.new.self.spent (step_cost * n)) count c.charge.ensures)
          (subst (λ (l : List Ref). IsBounded (OfSet (IsRefOf p.objects (IsReached p.objects c.in-Recurse.how l)) (λ found. Steps (length found))) c.charge.new.self.spent c.recurse_once.new.meter.spent) named found));
      bounded = no_value end.result _ _ end.ensures.1;
      spent = no_value end.result _ _ end.ensures.1;
    }

pub run-returns-in_err-write_shared-in-Recurse : goal.run-returns-in_err-write_shared-in-Recurse
run-returns-in_err-write_shared-in-Recurse g t c =
    let end = c.from_residual-in_err-write_shared-in-Recurse in record {
      later = c.recurse_once.ensures.later;
      walked = no_value end.result _ _ end.ensures.1;
      told = refused_as _ end.result _ end.ensures.1 (g.met.W.Source.out_of_memory _);
      named = no_value end.result _ _ end.ensures.1;
      recalled_named = no_value end.result _ _ end.ensures.1;
      answer = λ p is under known there can. memory_stops _ end.ensures.1 refl;
      in_row = λ tell p is under known there can clear.
          let env = lists_of c.args.sets.now.named.items in
          let set = c.deref-in-Recurse.ensures ∙ c.in_ok-set-in-Recurse.ensures ∙ ap env c.as_bytes-in-Recurse.ensures in
          let count = ap (λ (l : List Ref). length l) (c.as_slice.ensures.value ∙ set) in
          stops_as (ap statement_of c.in-Recurse.is) tell p env _ _
          (subst (λ (new : ℕ). IsBounded (WorkOf tell p (Recurse c.in-Recurse.«from» c.in-Recurse.how c.in-Recurse.into) env) c.args.meter.now.spent new) (sym c.in_ok-refs-in-Recurse.ensures.same)
          (steps_bounded (length (env c.in-Recurse.«from»)) _ _ (subst (λ (n : ℕ). IsCounted c.args.meter.now.spent c.charge.new.self.spent (step_cost * n)) count c.charge.ensures)));
      bounded = no_value end.result _ _ end.ensures.1;
      spent = no_value end.result _ _ end.ensures.1;
    }

pub run-returns-in_ok-write_shared-in-Recurse-clause-later : goal.run-returns-in_ok-write_shared-in-Recurse-clause-later
run-returns-in_ok-write_shared-in-Recurse-clause-later g t c = c.recurse_once.ensures.later

pub run-returns-in_ok-write_shared-in-Recurse-clause-walked : goal.run-returns-in_ok-write_shared-in-Recurse-clause-walked
run-returns-in_ok-write_shared-in-Recurse-clause-walked g t c = c.in_ok-refs-in-Recurse.ensures.walked

pub run-returns-in_ok-write_shared-in-Recurse-clause-told : goal.run-returns-in_ok-write_shared-in-Recurse-clause-told
run-returns-in_ok-write_shared-in-Recurse-clause-told g t c = tt

pub run-returns-in_ok-write_shared-in-Recurse-clause-named : goal.run-returns-in_ok-write_shared-in-Recurse-clause-named
run-returns-in_ok-write_shared-in-Recurse-clause-named g t c = put_given _ c.in_ok-refs-in-Recurse.refs.value (lists_of c.args.sets.now.named.items) _ c.in_ok-write_shared-in-Recurse.ensures (c.in_ok-refs-in-Recurse.ensures.named) (sets_later (lists_of c.args.sets.now.named.items) (λ r. g.met.W.Source.same_gave _ _ r c.recurse_once.ensures.later) c.requires.named)

pub run-returns-in_ok-write_shared-in-Recurse-clause-recalled_named : goal.run-returns-in_ok-write_shared-in-Recurse-clause-recalled_named
run-returns-in_ok-write_shared-in-Recurse-clause-recalled_named g t c = given_later _ _ c.args.memo.now.remembered.items (λ r. g.met.W.Source.same_gave _ _ r c.recurse_once.ensures.later) c.requires.recalled_named

pub run-returns-in_ok-write_shared-in-Recurse-clause-answer : goal.run-returns-in_ok-write_shared-in-Recurse-clause-answer
run-returns-in_ok-write_shared-in-Recurse-clause-answer g t c = λ p is under known there can.
    let env = lists_of c.args.sets.now.named.items in
    let same = ap statement_of c.in-Recurse.is in
    let how = c.in-Recurse.how in
    let refs = c.in_ok-refs-in-Recurse.refs.value in
    let set = c.in_ok-set-in-Recurse.ensures ∙ ap env c.as_bytes-in-Recurse.ensures in
    truly_as (λ x needs. needs_as same p env x (subst (λ (l : List Ref). NeededBy p (AskedByRecursion p how l) x) set needs))
    (λ so x needs. subst (λ (l : List Ref). NeededBy p (AskedByRecursion p how l) x) (sym set) (as_needs same p env x needs))
    (λ so. (
      after_as same p.objects _ _ (
        refs,
        subst (λ (l : List Ref). IsSetOf refs (IsRefOf p.objects (IsReached p.objects how l))) set so,
        c.in_ok-write_shared-in-Recurse.ensures ∙ ap (λ (name : List ℕ). put name refs env) c.as_bytes-in-Recurse-2.ensures,
      ),
      recalled_later p (g.W.Source.used c.args.source.now) (g.W.Source.used c.recurse_once.new.source) c.args.memo.now.remembered.items (λ x. g.met.W.Source.grows _ _ x c.recurse_once.ensures.later) known,
    ))
    (c.in_ok-refs-in-Recurse.ensures.answer p is under (subst (λ (l : List Ref). AreThere p.objects l) (sym set) (there c.in-Recurse.«from»)))

pub run-returns-in_ok-write_shared-in-Recurse-clause-bounded : goal.run-returns-in_ok-write_shared-in-Recurse-clause-bounded
run-returns-in_ok-write_shared-in-Recurse-clause-bounded g t c = λ tell p is under known there can clear.
    let env = lists_of c.args.sets.now.named.items in
    let set = c.deref-in-Recurse.ensures ∙ c.in_ok-set-in-Recurse.ensures ∙ ap env c.as_bytes-in-Recurse.ensures in
    let count = ap (λ (l : List Ref). length l) (c.as_slice.ensures.value ∙ set) in
    bounded_as (ap statement_of c.in-Recurse.is) tell p env _ _
    (subst (λ (new : ℕ). IsBounded (WorkOf tell p (Recurse c.in-Recurse.«from» c.in-Recurse.how c.in-Recurse.into) env) c.args.meter.now.spent new) (sym c.in_ok-refs-in-Recurse.ensures.same)
    (steps_bounded (length (env c.in-Recurse.«from»)) _ _ (subst (λ (n : ℕ). IsCounted c.args.meter.now.spent c.charge.new.self.spent (step_cost * n)) count c.charge.ensures)))

pub run-returns-in_ok-write_shared-in-Recurse-clause-in_row : goal.run-returns-in_ok-write_shared-in-Recurse-clause-in_row
run-returns-in_ok-write_shared-in-Recurse-clause-in_row g t c = λ tell p is under known there can clear.
    row_stops p.objects (statement_of c.args.statement.now) (lists_of c.args.sets.now.named.items) _ _ (run-returns-in_ok-write_shared-in-Recurse-clause-bounded g t c tell p is under known there can clear)

pub run-returns-in_ok-write_shared-in-Recurse-clause-spent : goal.run-returns-in_ok-write_shared-in-Recurse-clause-spent
run-returns-in_ok-write_shared-in-Recurse-clause-spent g t c = λ tell p is under known there can clear.
    let env = lists_of c.args.sets.now.named.items in
    let set = c.deref-in-Recurse.ensures ∙ c.in_ok-set-in-Recurse.ensures ∙ ap env c.as_bytes-in-Recurse.ensures in
    let count = ap (λ (l : List Ref). length l) (c.as_slice.ensures.value ∙ set) in
    spent_as (ap statement_of c.in-Recurse.is) tell p env _ _
    (subst (λ (new : ℕ). IsSpent (WorkOf tell p (Recurse c.in-Recurse.«from» c.in-Recurse.how c.in-Recurse.into) env) c.args.meter.now.spent new) (sym c.in_ok-refs-in-Recurse.ensures.same)
    (steps_spent (length (env c.in-Recurse.«from»)) _ _ (subst (λ (n : ℕ). IsCounted c.args.meter.now.spent c.charge.new.self.spent (step_cost * n)) count c.charge.ensures)))

-- ---- one set as another

pub run-returns-in_err-refs-in-Item : goal.run-returns-in_err-refs-in-Item
run-returns-in_err-refs-in-Item g t c =
    let end = c.from_residual-in_err-refs-in-Item in record {
      later = g.met.W.Source.itself _;
      walked = no_value end.result _ _ end.ensures.1;
      told = refused_as _ end.result _ end.ensures.1 (g.met.W.Source.out_of_memory _);
      named = no_value end.result _ _ end.ensures.1;
      recalled_named = no_value end.result _ _ end.ensures.1;
      answer = λ p is under known there can. memory_stops _ end.ensures.1 refl;
      in_row = λ tell p is under known there can clear. still _ _;
      bounded = no_value end.result _ _ end.ensures.1;
      spent = no_value end.result _ _ end.ensures.1;
    }

pub run-returns-in_err-write_shared-in-Item : goal.run-returns-in_err-write_shared-in-Item
run-returns-in_err-write_shared-in-Item g t c =
    let end = c.from_residual-in_err-write_shared-in-Item in record {
      later = g.met.W.Source.itself _;
      walked = no_value end.result _ _ end.ensures.1;
      told = refused_as _ end.result _ end.ensures.1 (g.met.W.Source.out_of_memory _);
      named = no_value end.result _ _ end.ensures.1;
      recalled_named = no_value end.result _ _ end.ensures.1;
      answer = λ p is under known there can. memory_stops _ end.ensures.1 refl;
      in_row = λ tell p is under known there can clear. still _ _;
      bounded = no_value end.result _ _ end.ensures.1;
      spent = no_value end.result _ _ end.ensures.1;
    }

pub run-returns-in_ok-write_shared-in-Item-clause-later : goal.run-returns-in_ok-write_shared-in-Item-clause-later
run-returns-in_ok-write_shared-in-Item-clause-later g t c = g.met.W.Source.itself _

pub run-returns-in_ok-write_shared-in-Item-clause-walked : goal.run-returns-in_ok-write_shared-in-Item-clause-walked
run-returns-in_ok-write_shared-in-Item-clause-walked g t c = g.met.W.Source.no_walk _

pub run-returns-in_ok-write_shared-in-Item-clause-told : goal.run-returns-in_ok-write_shared-in-Item-clause-told
run-returns-in_ok-write_shared-in-Item-clause-told g t c = tt

pub run-returns-in_ok-write_shared-in-Item-clause-named : goal.run-returns-in_ok-write_shared-in-Item-clause-named
run-returns-in_ok-write_shared-in-Item-clause-named g t c = put_given _ c.in_ok-refs-in-Item.refs.value (lists_of c.args.sets.now.named.items) _ c.in_ok-write_shared-in-Item.ensures (subst (λ (l : List Ref). AllGiven (g.W.Source.gave c.args.source.now) l) (sym c.in_ok-refs-in-Item.ensures) (c.requires.named c.as_bytes-in-Item.result.now)) (c.requires.named)

pub run-returns-in_ok-write_shared-in-Item-clause-recalled_named : goal.run-returns-in_ok-write_shared-in-Item-clause-recalled_named
run-returns-in_ok-write_shared-in-Item-clause-recalled_named g t c = c.requires.recalled_named

pub run-returns-in_ok-write_shared-in-Item-clause-answer : goal.run-returns-in_ok-write_shared-in-Item-clause-answer
run-returns-in_ok-write_shared-in-Item-clause-answer g t c = λ p is under known there can.
    let env = lists_of c.args.sets.now.named.items in
    let same = ap statement_of c.in-Item.is in
    let refs = c.in_ok-refs-in-Item.refs.value in
    let set = c.in_ok-refs-in-Item.ensures ∙ ap env c.as_bytes-in-Item.ensures in
    outcome_starts
    ((after_as same p.objects _ _ (c.in_ok-write_shared-in-Item.ensures ∙ ap (λ (name : List ℕ). put name refs env) c.as_bytes-in-Item-2.ensures ∙ ap (λ (l : List Ref). put c.in-Item.into l env) set), known), under)
    (λ x needs. (as_needs same p env x needs).asked)

pub run-returns-in_ok-write_shared-in-Item-clause-bounded : goal.run-returns-in_ok-write_shared-in-Item-clause-bounded
run-returns-in_ok-write_shared-in-Item-clause-bounded g t c = λ tell p is under known there can clear. still _ _

pub run-returns-in_ok-write_shared-in-Item-clause-in_row : goal.run-returns-in_ok-write_shared-in-Item-clause-in_row
run-returns-in_ok-write_shared-in-Item-clause-in_row g t c = λ tell p is under known there can clear. still _ _

pub run-returns-in_ok-write_shared-in-Item-clause-spent : goal.run-returns-in_ok-write_shared-in-Item-clause-spent
run-returns-in_ok-write_shared-in-Item-clause-spent g t c = λ tell p is under known there can clear. spent_as (ap statement_of c.in-Item.is) tell p (lists_of c.args.sets.now.named.items) _ _ (nothing_spent _)

-- ---- a union

pub run-note_all_asked-requires : goal.run-note_all_asked-requires
run-note_all_asked-requires g t c = λ r of. c.requires.asked r (union_asked c.args.statement.now c.in-Union.parts c.in-Union.into c.deref-in-Union.result.now r c.in-Union.is c.deref-in-Union.ensures.value of)

pub run-returns-in_err-given-in-Union : goal.run-returns-in_err-given-in-Union
run-returns-in_err-given-in-Union g t c =
    let end = c.from_residual-in_err-given-in-Union in record {
      later = c.run_all.ensures.later;
      walked = no_value end.result _ _ end.ensures.1;
      told = refused_as _ end.result _ end.ensures.1 c.in_err-given-in-Union.ensures.told;
      named = no_value end.result _ _ end.ensures.1;
      recalled_named = no_value end.result _ _ end.ensures.1;
      answer = λ p is under known there can.
          let env = lists_of c.args.sets.now.named.items in
          let same = ap statement_of c.in-Union.is ∙ union_is c.in-Union.parts c.in-Union.into in
          let parts = subst (λ (ps : List Stmt). CanRunAll (statements_of ps)) (sym c.deref-in-Union-2.ensures.value) (can_run_as same can) in
          outcome_stops _ end.ensures.1 refl (needs_as same p env)
          (subst (λ (ps : List Stmt). RanAllWell p (statements_of ps) env (lists_of c.run_all.new.sets.named.items) (AreAnswers p (g.W.Source.used c.run_all.new.source) c.run_all.new.memo.remembered.items) (g.W.Source.under c.run_all.new.source p) (uses (g.W.Source.holds c.run_all.new.source) (g.W.Source.used c.args.source.now) (g.W.Source.used c.run_all.new.source)) (Err c.in_err-given-in-Union.field-0.0)) c.deref-in-Union-2.ensures.value
          (c.in_err-given-in-Union.ensures.answer p is under known there parts));
      in_row = λ tell p is under known there can clear.
          let env = lists_of c.args.sets.now.named.items in
          let same = ap statement_of c.in-Union.is ∙ union_is c.in-Union.parts c.in-Union.into in
          let parts = subst (λ (ps : List Stmt). CanRunAll (statements_of ps)) (sym c.deref-in-Union-2.ensures.value) (can_run_as same can) in
          stops_as same tell p env _ _
          (subst (λ (ps : List Stmt). IsBounded (WorkOfAll tell p (statements_of ps) env) c.args.meter.now.spent c.run_all.new.meter.spent) c.deref-in-Union-2.ensures.value (c.run_all.ensures.bounded tell p is under known there parts clear));
      bounded = no_value end.result _ _ end.ensures.1;
      spent = no_value end.result _ _ end.ensures.1;
    }

pub run-returns-in_err-refs-in-Union : goal.run-returns-in_err-refs-in-Union
run-returns-in_err-refs-in-Union g t c =
    let end = c.from_residual-in_err-refs-in-Union in record {
      later = c.run_all.ensures.later;
      walked = no_value end.result _ _ end.ensures.1;
      told = refused_as _ end.result _ end.ensures.1 (g.met.W.Source.out_of_memory _);
      named = no_value end.result _ _ end.ensures.1;
      recalled_named = no_value end.result _ _ end.ensures.1;
      answer = λ p is under known there can. memory_stops _ end.ensures.1 refl;
      in_row = λ tell p is under known there can clear.
          let env = lists_of c.args.sets.now.named.items in
          let same = ap statement_of c.in-Union.is ∙ union_is c.in-Union.parts c.in-Union.into in
          let parts = subst (λ (ps : List Stmt). CanRunAll (statements_of ps)) (sym c.deref-in-Union-2.ensures.value) (can_run_as same can) in
          stops_as same tell p env _ _
          (subst (λ (ps : List Stmt). IsBounded (WorkOfAll tell p (statements_of ps) env) c.args.meter.now.spent c.run_all.new.meter.spent) c.deref-in-Union-2.ensures.value (c.run_all.ensures.bounded tell p is under known there parts clear));
      bounded = no_value end.result _ _ end.ensures.1;
      spent = no_value end.result _ _ end.ensures.1;
    }

pub run-returns-in_err-write-in-Union : goal.run-returns-in_err-write-in-Union
run-returns-in_err-write-in-Union g t c =
    let end = c.from_residual-in_err-write-in-Union in record {
      later = c.run_all.ensures.later;
      walked = no_value end.result _ _ end.ensures.1;
      told = refused_as _ end.result _ end.ensures.1 (g.met.W.Source.out_of_memory _);
      named = no_value end.result _ _ end.ensures.1;
      recalled_named = no_value end.result _ _ end.ensures.1;
      answer = λ p is under known there can. memory_stops _ end.ensures.1 refl;
      in_row = λ tell p is under known there can clear.
          let env = lists_of c.args.sets.now.named.items in
          let same = ap statement_of c.in-Union.is ∙ union_is c.in-Union.parts c.in-Union.into in
          let parts = subst (λ (ps : List Stmt). CanRunAll (statements_of ps)) (sym c.deref-in-Union-2.ensures.value) (can_run_as same can) in
          stops_as same tell p env _ _
          (subst (λ (ps : List Stmt). IsBounded (WorkOfAll tell p (statements_of ps) env) c.args.meter.now.spent c.run_all.new.meter.spent) c.deref-in-Union-2.ensures.value (c.run_all.ensures.bounded tell p is under known there parts clear));
      bounded = no_value end.result _ _ end.ensures.1;
      spent = no_value end.result _ _ end.ensures.1;
    }

pub run-returns-in_ok-write-in-Union-clause-later : goal.run-returns-in_ok-write-in-Union-clause-later
run-returns-in_ok-write-in-Union-clause-later g t c = c.run_all.ensures.later

pub run-returns-in_ok-write-in-Union-clause-walked : goal.run-returns-in_ok-write-in-Union-clause-walked
run-returns-in_ok-write-in-Union-clause-walked g t c = c.in_ok-given-in-Union.ensures.walked

pub run-returns-in_ok-write-in-Union-clause-told : goal.run-returns-in_ok-write-in-Union-clause-told
run-returns-in_ok-write-in-Union-clause-told g t c = tt

pub run-returns-in_ok-write-in-Union-clause-named : goal.run-returns-in_ok-write-in-Union-clause-named
run-returns-in_ok-write-in-Union-clause-named g t c = put_given _ c.in_ok-refs-in-Union.refs (lists_of c.run_all.new.sets.named.items) _ c.in_ok-write-in-Union.ensures (sorted_given c.in_ok-given-in-Union.given.items c.in_ok-refs-in-Union.refs c.in_ok-refs-in-Union.ensures c.in_ok-given-in-Union.ensures.named) (c.in_ok-given-in-Union.ensures.sets_named)

pub run-returns-in_ok-write-in-Union-clause-recalled_named : goal.run-returns-in_ok-write-in-Union-clause-recalled_named
run-returns-in_ok-write-in-Union-clause-recalled_named g t c = c.in_ok-given-in-Union.ensures.recalled_named

pub run-returns-in_ok-write-in-Union-clause-answer : goal.run-returns-in_ok-write-in-Union-clause-answer
run-returns-in_ok-write-in-Union-clause-answer g t c = λ p is under known there can.
    let env = lists_of c.args.sets.now.named.items in
    let mid = lists_of c.run_all.new.sets.named.items in
    let same = ap statement_of c.in-Union.is ∙ union_is c.in-Union.parts c.in-Union.into in
    let parts = subst (λ (ps : List Stmt). CanRunAll (statements_of ps)) (sym c.deref-in-Union-2.ensures.value) (can_run_as same can) in
    let given = c.in_ok-given-in-Union.given in
    let refs = c.in_ok-refs-in-Union.refs in
    truly_as (needs_as same p env) (λ so. as_needs same p env)
    (λ so. (after_as same p.objects _ _ (mid, given.items, so.0, (refs, c.in_ok-refs-in-Union.ensures, c.in_ok-write-in-Union.ensures ∙ ap (λ (name : List ℕ). put name refs mid) c.as_bytes-in-Union.ensures)), so.1))
    (subst (λ (ps : List Stmt). RanAllWell p (statements_of ps) env mid (AreAnswers p (g.W.Source.used c.run_all.new.source) c.run_all.new.memo.remembered.items) (g.W.Source.under c.run_all.new.source p) (uses (g.W.Source.holds c.run_all.new.source) (g.W.Source.used c.args.source.now) (g.W.Source.used c.run_all.new.source)) (Ok given)) c.deref-in-Union-2.ensures.value
    (c.in_ok-given-in-Union.ensures.answer p is under known there parts))

pub run-returns-in_ok-write-in-Union-clause-bounded : goal.run-returns-in_ok-write-in-Union-clause-bounded
run-returns-in_ok-write-in-Union-clause-bounded g t c = λ tell p is under known there can clear.
    let env = lists_of c.args.sets.now.named.items in
    let same = ap statement_of c.in-Union.is ∙ union_is c.in-Union.parts c.in-Union.into in
    let parts = subst (λ (ps : List Stmt). CanRunAll (statements_of ps)) (sym c.deref-in-Union-2.ensures.value) (can_run_as same can) in
    bounded_as same tell p env _ _
    (subst (λ (ps : List Stmt). IsBounded (WorkOfAll tell p (statements_of ps) env) c.args.meter.now.spent c.run_all.new.meter.spent) c.deref-in-Union-2.ensures.value (c.run_all.ensures.bounded tell p is under known there parts clear))

pub run-returns-in_ok-write-in-Union-clause-in_row : goal.run-returns-in_ok-write-in-Union-clause-in_row
run-returns-in_ok-write-in-Union-clause-in_row g t c = λ tell p is under known there can clear.
    row_stops p.objects (statement_of c.args.statement.now) (lists_of c.args.sets.now.named.items) _ _ (run-returns-in_ok-write-in-Union-clause-bounded g t c tell p is under known there can clear)

pub run-returns-in_ok-write-in-Union-clause-spent : goal.run-returns-in_ok-write-in-Union-clause-spent
run-returns-in_ok-write-in-Union-clause-spent g t c = λ tell p is under known there can clear.
    let env = lists_of c.args.sets.now.named.items in
    let same = ap statement_of c.in-Union.is ∙ union_is c.in-Union.parts c.in-Union.into in
    let parts = subst (λ (ps : List Stmt). CanRunAll (statements_of ps)) (sym c.deref-in-Union-2.ensures.value) (can_run_as same can) in
    spent_as same tell p env _ _
    (subst (λ (ps : List Stmt). IsSpent (WorkOfAll tell p (statements_of ps) env) c.args.meter.now.spent c.run_all.new.meter.spent) c.deref-in-Union-2.ensures.value (c.in_ok-given-in-Union.ensures.spent tell p is under known there parts clear))

-- ---- a difference

pub run-returns-in_err-run-in-Minus : goal.run-returns-in_err-run-in-Minus
run-returns-in_err-run-in-Minus g t c =
    let end = c.from_residual-in_err-run-in-Minus in record {
      later = c.run.ensures.later;
      walked = no_value end.result _ _ end.ensures.1;
      told = refused_as _ end.result _ end.ensures.1 c.in_err-run-in-Minus.ensures.told;
      named = no_value end.result _ _ end.ensures.1;
      recalled_named = no_value end.result _ _ end.ensures.1;
      answer = λ p is under known there can.
          let env = lists_of c.args.sets.now.named.items in
          let left = c.in-Minus.left.value in
          let right = c.in-Minus.right.value in
          let same = ap statement_of c.in-Minus.is in
          let first = subst (λ (s : Stmt). CanRun (statement_of s)) (sym c.deref-in-Minus.ensures) (can_run_as same can).0 in
          outcome_stops _ end.ensures.1 refl
          (λ x needs. needs_as same p env x (left_needs p (statement_of left) (statement_of right) c.in-Minus.into env x (subst (λ (s : Stmt). NeededBy p (AskedBy p (statement_of s) env) x) c.deref-in-Minus.ensures needs)))
          (c.in_err-run-in-Minus.ensures.answer p is under known there first);
      in_row = λ tell p is under known there can clear.
          let env = lists_of c.args.sets.now.named.items in
          let left = c.in-Minus.left.value in
          let right = c.in-Minus.right.value in
          let same = ap statement_of c.in-Minus.is in
          let both = can_run_as same can in
          let first = subst (λ (s : Stmt). CanRun (statement_of s)) (sym c.deref-in-Minus.ensures) both.0 in
          let ran = subst (λ (s : Stmt). IsBounded (WorkOfLast tell p (statement_of s) env) c.args.meter.now.spent c.run.new.meter.spent) c.deref-in-Minus.ensures (c.run.ensures.in_row tell p is under known there first clear) in
          stops_as same tell p env _ _ (last_stops tell p (statement_of left) env _ _ ran);
      bounded = no_value end.result _ _ end.ensures.1;
      spent = no_value end.result _ _ end.ensures.1;
    }

pub run-returns-in_err-first-in-Minus : goal.run-returns-in_err-first-in-Minus
run-returns-in_err-first-in-Minus g t c =
    let end = c.from_residual-in_err-first-in-Minus in record {
      later = c.run.ensures.later;
      walked = no_value end.result _ _ end.ensures.1;
      told = refused_as _ end.result _ end.ensures.1 (g.met.W.Source.out_of_memory _);
      named = no_value end.result _ _ end.ensures.1;
      recalled_named = no_value end.result _ _ end.ensures.1;
      answer = λ p is under known there can. memory_stops _ end.ensures.1 refl;
      in_row = λ tell p is under known there can clear.
          let env = lists_of c.args.sets.now.named.items in
          let left = c.in-Minus.left.value in
          let right = c.in-Minus.right.value in
          let same = ap statement_of c.in-Minus.is in
          let both = can_run_as same can in
          let first = subst (λ (s : Stmt). CanRun (statement_of s)) (sym c.deref-in-Minus.ensures) both.0 in
          let ran = subst (λ (s : Stmt). IsBounded (WorkOf tell p (statement_of s) env) c.args.meter.now.spent c.run.new.meter.spent) c.deref-in-Minus.ensures (c.in_ok-run-in-Minus.ensures.bounded tell p is under known there first clear) in
          stops_as same tell p env _ _ (row_stops p.objects (statement_of left) env _ _ ran);
      bounded = no_value end.result _ _ end.ensures.1;
      spent = no_value end.result _ _ end.ensures.1;
    }

pub run-returns-in_err-charge_run-in-Minus : goal.run-returns-in_err-charge_run-in-Minus
run-returns-in_err-charge_run-in-Minus g t c =
    let end = c.from_residual-in_err-charge_run-in-Minus in record {
      later = c.run.ensures.later;
      walked = no_value end.result _ _ end.ensures.1;
      told = refused_as _ end.result _ end.ensures.1 (g.met.W.Source.out_of_memory _);
      named = no_value end.result _ _ end.ensures.1;
      recalled_named = no_value end.result _ _ end.ensures.1;
      answer = λ p is under known there can. memory_stops _ end.ensures.1 refl;
      in_row = λ tell p is under known there can clear.
          let env = lists_of c.args.sets.now.named.items in
          let left = c.in-Minus.left.value in
          let right = c.in-Minus.right.value in
          let same = ap statement_of c.in-Minus.is in
          let both = can_run_as same can in
          let first = subst (λ (s : Stmt). CanRun (statement_of s)) (sym c.deref-in-Minus.ensures) both.0 in
          let ran = subst (λ (s : Stmt). IsBounded (WorkOf tell p (statement_of s) env) c.args.meter.now.spent c.run.new.meter.spent) c.deref-in-Minus.ensures (c.in_ok-run-in-Minus.ensures.bounded tell p is under known there first clear) in
          let mid = lists_of c.run.new.sets.named.items in
          let so = (found_well (λ x used. used) clear (subst (λ (s : Stmt). RanWell p (statement_of s) env mid (AreAnswers p (g.W.Source.used c.run.new.source) c.run.new.memo.remembered.items) (g.W.Source.under c.run.new.source p) (uses (g.W.Source.holds c.run.new.source) (g.W.Source.used c.args.source.now) (g.W.Source.used c.run.new.source)) (Ok c.in_ok-run-in-Minus.field-0)) c.deref-in-Minus.ensures (c.in_ok-run-in-Minus.ensures.answer p is under known there first))).0 in
          let given : c.deref-in-Minus-3.result.now ≡ given_by (statement_of left) mid = c.deref-in-Minus-3.ensures ∙ c.in_ok-first-in-Minus.ensures ∙ ap (λ (s : Stmt). given_by (statement_of s) mid) c.deref-in-Minus-2.ensures in
          stops_as same tell p env _ _ (row_bounded p.objects (statement_of left) env mid c.deref-in-Minus-3.result.now so.0 given _ _ _ _ c.charge_run.ensures ran (still _ _));
      bounded = no_value end.result _ _ end.ensures.1;
      spent = no_value end.result _ _ end.ensures.1;
    }

pub run-returns-in_err-run-in-Minus-2 : goal.run-returns-in_err-run-in-Minus-2
run-returns-in_err-run-in-Minus-2 g t c =
    let end = c.from_residual-in_err-run-in-Minus-2 in record {
      later = g.met.W.Source.chained _ _ _ c.run.ensures.later c.run-in-Minus.ensures.later;
      walked = no_value end.result _ _ end.ensures.1;
      told = refused_as _ end.result _ end.ensures.1 c.in_err-run-in-Minus-2.ensures.told;
      named = no_value end.result _ _ end.ensures.1;
      recalled_named = no_value end.result _ _ end.ensures.1;
      answer = λ p is under known there can.
          let env = lists_of c.args.sets.now.named.items in
          let mid = lists_of c.run.new.sets.named.items in
          let left = c.in-Minus.left.value in
          let right = c.in-Minus.right.value in
          let same = ap statement_of c.in-Minus.is in
          let both = can_run_as same can in
          let first = subst (λ (s : Stmt). CanRun (statement_of s)) (sym c.deref-in-Minus.ensures) both.0 in
          let second = subst (λ (s : Stmt). CanRun (statement_of s)) (sym c.deref-in-Minus-4.ensures) both.1 in
          truly_then_stops _ end.ensures.1 refl (λ x. g.met.W.Source.grows _ _ x c.run-in-Minus.ensures.later)
          (λ x needs. needs_as same p env x (left_needs p (statement_of left) (statement_of right) c.in-Minus.into env x needs))
          (λ so x needs. needs_as same p env x (right_needs p (statement_of left) (statement_of right) c.in-Minus.into env mid so.0 x needs))
          (subst (λ (s : Stmt). RanWell p (statement_of s) env mid (AreAnswers p (g.W.Source.used c.run.new.source) c.run.new.memo.remembered.items) (g.W.Source.under c.run.new.source p) (uses (g.W.Source.holds c.run.new.source) (g.W.Source.used c.args.source.now) (g.W.Source.used c.run.new.source)) (Ok c.in_ok-run-in-Minus.field-0)) c.deref-in-Minus.ensures (c.in_ok-run-in-Minus.ensures.answer p is under known there first))
          (λ so under_now. subst (λ (s : Stmt). RanWell p (statement_of s) mid (lists_of c.run-in-Minus.new.sets.named.items) (AreAnswers p (g.W.Source.used c.run-in-Minus.new.source) c.run-in-Minus.new.memo.remembered.items) (g.W.Source.under c.run-in-Minus.new.source p) (uses (g.W.Source.holds c.run-in-Minus.new.source) (g.W.Source.used c.run.new.source) (g.W.Source.used c.run-in-Minus.new.source)) (Err c.in_err-run-in-Minus-2.field-0.0)) c.deref-in-Minus-4.ensures
          (c.in_err-run-in-Minus-2.ensures.answer p is under_now so.1 (after_there p.objects (statement_of left) env mid so.0 there) second));
      in_row = λ tell p is under known there can clear.
          let env = lists_of c.args.sets.now.named.items in
          let left = c.in-Minus.left.value in
          let right = c.in-Minus.right.value in
          let same = ap statement_of c.in-Minus.is in
          let both = can_run_as same can in
          let first = subst (λ (s : Stmt). CanRun (statement_of s)) (sym c.deref-in-Minus.ensures) both.0 in
          let early = clear_before (λ x. g.met.W.Source.grows _ _ x c.run-in-Minus.ensures.later) clear in
          let ran = subst (λ (s : Stmt). IsBounded (WorkOf tell p (statement_of s) env) c.args.meter.now.spent c.run.new.meter.spent) c.deref-in-Minus.ensures (c.in_ok-run-in-Minus.ensures.bounded tell p is under known there first early) in
          let mid = lists_of c.run.new.sets.named.items in
          let (so, under_too) = found_well (λ x used. used) early (subst (λ (s : Stmt). RanWell p (statement_of s) env mid (AreAnswers p (g.W.Source.used c.run.new.source) c.run.new.memo.remembered.items) (g.W.Source.under c.run.new.source p) (uses (g.W.Source.holds c.run.new.source) (g.W.Source.used c.args.source.now) (g.W.Source.used c.run.new.source)) (Ok c.in_ok-run-in-Minus.field-0)) c.deref-in-Minus.ensures (c.in_ok-run-in-Minus.ensures.answer p is under known there first)) in
          let given : c.deref-in-Minus-3.result.now ≡ given_by (statement_of left) mid = c.deref-in-Minus-3.ensures ∙ c.in_ok-first-in-Minus.ensures ∙ ap (λ (s : Stmt). given_by (statement_of s) mid) c.deref-in-Minus-2.ensures in
          let second = subst (λ (s : Stmt). CanRun (statement_of s)) (sym c.deref-in-Minus-4.ensures) both.1 in
          let there_too = after_there p.objects (statement_of left) env mid so.0 there in
          let ran_too = subst (λ (s : Stmt). IsBounded (WorkOfLast tell p (statement_of s) mid) c.charge_run.new.self.spent c.run-in-Minus.new.meter.spent) c.deref-in-Minus-4.ensures (c.run-in-Minus.ensures.in_row tell p is under_too so.1 there_too second clear) in
          stops_as same tell p env _ _ (row_bounded p.objects (statement_of left) env mid c.deref-in-Minus-3.result.now so.0 given _ _ _ _ c.charge_run.ensures ran (last_stops tell p (statement_of right) mid _ _ ran_too));
      bounded = no_value end.result _ _ end.ensures.1;
      spent = no_value end.result _ _ end.ensures.1;
    }

pub run-returns-in_err-charge_run-in-Minus-2 : goal.run-returns-in_err-charge_run-in-Minus-2
run-returns-in_err-charge_run-in-Minus-2 g t c =
    let end = c.from_residual-in_err-charge_run-in-Minus-2 in record {
      later = g.met.W.Source.chained _ _ _ c.run.ensures.later c.run-in-Minus.ensures.later;
      walked = no_value end.result _ _ end.ensures.1;
      told = refused_as _ end.result _ end.ensures.1 (g.met.W.Source.out_of_memory _);
      named = no_value end.result _ _ end.ensures.1;
      recalled_named = no_value end.result _ _ end.ensures.1;
      answer = λ p is under known there can. memory_stops _ end.ensures.1 refl;
      in_row = λ tell p is under known there can clear.
          let env = lists_of c.args.sets.now.named.items in
          let left = c.in-Minus.left.value in
          let right = c.in-Minus.right.value in
          let same = ap statement_of c.in-Minus.is in
          let both = can_run_as same can in
          let first = subst (λ (s : Stmt). CanRun (statement_of s)) (sym c.deref-in-Minus.ensures) both.0 in
          let early = clear_before (λ x. g.met.W.Source.grows _ _ x c.run-in-Minus.ensures.later) clear in
          let ran = subst (λ (s : Stmt). IsBounded (WorkOf tell p (statement_of s) env) c.args.meter.now.spent c.run.new.meter.spent) c.deref-in-Minus.ensures (c.in_ok-run-in-Minus.ensures.bounded tell p is under known there first early) in
          let mid = lists_of c.run.new.sets.named.items in
          let (so, under_too) = found_well (λ x used. used) early (subst (λ (s : Stmt). RanWell p (statement_of s) env mid (AreAnswers p (g.W.Source.used c.run.new.source) c.run.new.memo.remembered.items) (g.W.Source.under c.run.new.source p) (uses (g.W.Source.holds c.run.new.source) (g.W.Source.used c.args.source.now) (g.W.Source.used c.run.new.source)) (Ok c.in_ok-run-in-Minus.field-0)) c.deref-in-Minus.ensures (c.in_ok-run-in-Minus.ensures.answer p is under known there first)) in
          let given : c.deref-in-Minus-3.result.now ≡ given_by (statement_of left) mid = c.deref-in-Minus-3.ensures ∙ c.in_ok-first-in-Minus.ensures ∙ ap (λ (s : Stmt). given_by (statement_of s) mid) c.deref-in-Minus-2.ensures in
          let second = subst (λ (s : Stmt). CanRun (statement_of s)) (sym c.deref-in-Minus-4.ensures) both.1 in
          let there_too = after_there p.objects (statement_of left) env mid so.0 there in
          let ran_too = subst (λ (s : Stmt). IsBounded (WorkOf tell p (statement_of s) mid) c.charge_run.new.self.spent c.run-in-Minus.new.meter.spent) c.deref-in-Minus-4.ensures (c.in_ok-run-in-Minus-2.ensures.bounded tell p is under_too so.1 there_too second clear) in
          let end = lists_of c.run-in-Minus.new.sets.named.items in
          let so_too = found_well (λ x used. used) clear (subst (λ (s : Stmt). RanWell p (statement_of s) mid end (AreAnswers p (g.W.Source.used c.run-in-Minus.new.source) c.run-in-Minus.new.memo.remembered.items) (g.W.Source.under c.run-in-Minus.new.source p) (uses (g.W.Source.holds c.run-in-Minus.new.source) (g.W.Source.used c.run.new.source) (g.W.Source.used c.run-in-Minus.new.source)) (Ok c.in_ok-run-in-Minus-2.field-0)) c.deref-in-Minus-4.ensures
          (c.in_ok-run-in-Minus-2.ensures.answer p is under_too so.1 there_too second)) in
          let given_too : c.written_by-second.result.now ≡ given_by (statement_of right) end = c.written_by-second.ensures ∙ ap (λ (s : Stmt). given_by (statement_of s) end) c.deref-in-Minus-5.ensures in
          stops_as same tell p env _ _ (row_bounded p.objects (statement_of left) env mid c.deref-in-Minus-3.result.now so.0 given _ _ _ _ c.charge_run.ensures ran
          (row_bounded p.objects (statement_of right) mid end c.written_by-second.result.now so_too.0.0 given_too _ _ _ _ c.charge_run-in-Minus.ensures ran_too (still _ _)));
      bounded = no_value end.result _ _ end.ensures.1;
      spent = no_value end.result _ _ end.ensures.1;
    }

pub run-returns-in_err-refs-in-Minus : goal.run-returns-in_err-refs-in-Minus
run-returns-in_err-refs-in-Minus g t c =
    let end = c.from_residual-in_err-refs-in-Minus in record {
      later = g.met.W.Source.chained _ _ _ c.run.ensures.later c.run-in-Minus.ensures.later;
      walked = no_value end.result _ _ end.ensures.1;
      told = refused_as _ end.result _ end.ensures.1 (g.met.W.Source.out_of_memory _);
      named = no_value end.result _ _ end.ensures.1;
      recalled_named = no_value end.result _ _ end.ensures.1;
      answer = λ p is under known there can. memory_stops _ end.ensures.1 refl;
      in_row = λ tell p is under known there can clear.
          let env = lists_of c.args.sets.now.named.items in
          let left = c.in-Minus.left.value in
          let right = c.in-Minus.right.value in
          let same = ap statement_of c.in-Minus.is in
          let both = can_run_as same can in
          let first = subst (λ (s : Stmt). CanRun (statement_of s)) (sym c.deref-in-Minus.ensures) both.0 in
          let early = clear_before (λ x. g.met.W.Source.grows _ _ x c.run-in-Minus.ensures.later) clear in
          let ran = subst (λ (s : Stmt). IsBounded (WorkOf tell p (statement_of s) env) c.args.meter.now.spent c.run.new.meter.spent) c.deref-in-Minus.ensures (c.in_ok-run-in-Minus.ensures.bounded tell p is under known there first early) in
          let mid = lists_of c.run.new.sets.named.items in
          let (so, under_too) = found_well (λ x used. used) early (subst (λ (s : Stmt). RanWell p (statement_of s) env mid (AreAnswers p (g.W.Source.used c.run.new.source) c.run.new.memo.remembered.items) (g.W.Source.under c.run.new.source p) (uses (g.W.Source.holds c.run.new.source) (g.W.Source.used c.args.source.now) (g.W.Source.used c.run.new.source)) (Ok c.in_ok-run-in-Minus.field-0)) c.deref-in-Minus.ensures (c.in_ok-run-in-Minus.ensures.answer p is under known there first)) in
          let given : c.deref-in-Minus-3.result.now ≡ given_by (statement_of left) mid = c.deref-in-Minus-3.ensures ∙ c.in_ok-first-in-Minus.ensures ∙ ap (λ (s : Stmt). given_by (statement_of s) mid) c.deref-in-Minus-2.ensures in
          let second = subst (λ (s : Stmt). CanRun (statement_of s)) (sym c.deref-in-Minus-4.ensures) both.1 in
          let there_too = after_there p.objects (statement_of left) env mid so.0 there in
          let ran_too = subst (λ (s : Stmt). IsBounded (WorkOf tell p (statement_of s) mid) c.charge_run.new.self.spent c.run-in-Minus.new.meter.spent) c.deref-in-Minus-4.ensures (c.in_ok-run-in-Minus-2.ensures.bounded tell p is under_too so.1 there_too second clear) in
          let end = lists_of c.run-in-Minus.new.sets.named.items in
          let so_too = found_well (λ x used. used) clear (subst (λ (s : Stmt). RanWell p (statement_of s) mid end (AreAnswers p (g.W.Source.used c.run-in-Minus.new.source) c.run-in-Minus.new.memo.remembered.items) (g.W.Source.under c.run-in-Minus.new.source p) (uses (g.W.Source.holds c.run-in-Minus.new.source) (g.W.Source.used c.run.new.source) (g.W.Source.used c.run-in-Minus.new.source)) (Ok c.in_ok-run-in-Minus-2.field-0)) c.deref-in-Minus-4.ensures
          (c.in_ok-run-in-Minus-2.ensures.answer p is under_too so.1 there_too second)) in
          let given_too : c.written_by-second.result.now ≡ given_by (statement_of right) end = c.written_by-second.ensures ∙ ap (λ (s : Stmt). given_by (statement_of s) end) c.deref-in-Minus-5.ensures in
          stops_as same tell p env _ _ (row_bounded p.objects (statement_of left) env mid c.deref-in-Minus-3.result.now so.0 given _ _ _ _ c.charge_run.ensures ran
          (row_bounded p.objects (statement_of right) mid end c.written_by-second.result.now so_too.0.0 given_too _ _ _ _ c.charge_run-in-Minus.ensures ran_too (still _ _)));
      bounded = no_value end.result _ _ end.ensures.1;
      spent = no_value end.result _ _ end.ensures.1;
    }

pub run-returns-in_err-write-in-Minus : goal.run-returns-in_err-write-in-Minus
run-returns-in_err-write-in-Minus g t c =
    let end = c.from_residual-in_err-write-in-Minus in record {
      later = g.met.W.Source.chained _ _ _ c.run.ensures.later c.run-in-Minus.ensures.later;
      walked = no_value end.result _ _ end.ensures.1;
      told = refused_as _ end.result _ end.ensures.1 (g.met.W.Source.out_of_memory _);
      named = no_value end.result _ _ end.ensures.1;
      recalled_named = no_value end.result _ _ end.ensures.1;
      answer = λ p is under known there can. memory_stops _ end.ensures.1 refl;
      in_row = λ tell p is under known there can clear.
          let env = lists_of c.args.sets.now.named.items in
          let left = c.in-Minus.left.value in
          let right = c.in-Minus.right.value in
          let same = ap statement_of c.in-Minus.is in
          let both = can_run_as same can in
          let first = subst (λ (s : Stmt). CanRun (statement_of s)) (sym c.deref-in-Minus.ensures) both.0 in
          let early = clear_before (λ x. g.met.W.Source.grows _ _ x c.run-in-Minus.ensures.later) clear in
          let ran = subst (λ (s : Stmt). IsBounded (WorkOf tell p (statement_of s) env) c.args.meter.now.spent c.run.new.meter.spent) c.deref-in-Minus.ensures (c.in_ok-run-in-Minus.ensures.bounded tell p is under known there first early) in
          let mid = lists_of c.run.new.sets.named.items in
          let (so, under_too) = found_well (λ x used. used) early (subst (λ (s : Stmt). RanWell p (statement_of s) env mid (AreAnswers p (g.W.Source.used c.run.new.source) c.run.new.memo.remembered.items) (g.W.Source.under c.run.new.source p) (uses (g.W.Source.holds c.run.new.source) (g.W.Source.used c.args.source.now) (g.W.Source.used c.run.new.source)) (Ok c.in_ok-run-in-Minus.field-0)) c.deref-in-Minus.ensures (c.in_ok-run-in-Minus.ensures.answer p is under known there first)) in
          let given : c.deref-in-Minus-3.result.now ≡ given_by (statement_of left) mid = c.deref-in-Minus-3.ensures ∙ c.in_ok-first-in-Minus.ensures ∙ ap (λ (s : Stmt). given_by (statement_of s) mid) c.deref-in-Minus-2.ensures in
          let second = subst (λ (s : Stmt). CanRun (statement_of s)) (sym c.deref-in-Minus-4.ensures) both.1 in
          let there_too = after_there p.objects (statement_of left) env mid so.0 there in
          let ran_too = subst (λ (s : Stmt). IsBounded (WorkOf tell p (statement_of s) mid) c.charge_run.new.self.spent c.run-in-Minus.new.meter.spent) c.deref-in-Minus-4.ensures (c.in_ok-run-in-Minus-2.ensures.bounded tell p is under_too so.1 there_too second clear) in
          let end = lists_of c.run-in-Minus.new.sets.named.items in
          let so_too = found_well (λ x used. used) clear (subst (λ (s : Stmt). RanWell p (statement_of s) mid end (AreAnswers p (g.W.Source.used c.run-in-Minus.new.source) c.run-in-Minus.new.memo.remembered.items) (g.W.Source.under c.run-in-Minus.new.source p) (uses (g.W.Source.holds c.run-in-Minus.new.source) (g.W.Source.used c.run.new.source) (g.W.Source.used c.run-in-Minus.new.source)) (Ok c.in_ok-run-in-Minus-2.field-0)) c.deref-in-Minus-4.ensures
          (c.in_ok-run-in-Minus-2.ensures.answer p is under_too so.1 there_too second)) in
          let given_too : c.written_by-second.result.now ≡ given_by (statement_of right) end = c.written_by-second.ensures ∙ ap (λ (s : Stmt). given_by (statement_of s) end) c.deref-in-Minus-5.ensures in
          stops_as same tell p env _ _ (row_bounded p.objects (statement_of left) env mid c.deref-in-Minus-3.result.now so.0 given _ _ _ _ c.charge_run.ensures ran
          (row_bounded p.objects (statement_of right) mid end c.written_by-second.result.now so_too.0.0 given_too _ _ _ _ c.charge_run-in-Minus.ensures ran_too (still _ _)));
      bounded = no_value end.result _ _ end.ensures.1;
      spent = no_value end.result _ _ end.ensures.1;
    }

pub run-returns-in_ok-write-in-Minus-clause-later : goal.run-returns-in_ok-write-in-Minus-clause-later
run-returns-in_ok-write-in-Minus-clause-later g t c = g.met.W.Source.chained _ _ _ c.run.ensures.later c.run-in-Minus.ensures.later

pub run-returns-in_ok-write-in-Minus-clause-walked : goal.run-returns-in_ok-write-in-Minus-clause-walked
run-returns-in_ok-write-in-Minus-clause-walked g t c = g.met.W.Source.more_walks _ _ _ c.run.ensures.later c.run-in-Minus.ensures.later c.in_ok-run-in-Minus.ensures.walked c.in_ok-run-in-Minus-2.ensures.walked

pub run-returns-in_ok-write-in-Minus-clause-told : goal.run-returns-in_ok-write-in-Minus-clause-told
run-returns-in_ok-write-in-Minus-clause-told g t c = tt

pub run-returns-in_ok-write-in-Minus-clause-named : goal.run-returns-in_ok-write-in-Minus-clause-named
run-returns-in_ok-write-in-Minus-clause-named g t c =
    let firsts = c.deref-in-Minus-6.result.now in
    let first_is = c.deref-in-Minus-6.ensures ∙ c.in_ok-first-in-Minus.ensures in
    put_given _ c.in_ok-refs-in-Minus.refs (lists_of c.run-in-Minus.new.sets.named.items) _ c.in_ok-write-in-Minus.ensures
    (part_given firsts c.in_ok-refs-in-Minus.refs c.in_ok-refs-in-Minus.ensures
    (all_later firsts (λ r. g.met.W.Source.same_gave _ _ r c.run-in-Minus.ensures.later)
    (subst (λ (l : List Ref). AllGiven (g.W.Source.gave c.run.new.source) l) (sym first_is) (written_given (statement_of c.deref-in-Minus-2.result.now) (lists_of c.run.new.sets.named.items) c.in_ok-run-in-Minus.ensures.named))))
    (c.in_ok-run-in-Minus-2.ensures.named)

pub run-returns-in_ok-write-in-Minus-clause-recalled_named : goal.run-returns-in_ok-write-in-Minus-clause-recalled_named
run-returns-in_ok-write-in-Minus-clause-recalled_named g t c = c.in_ok-run-in-Minus-2.ensures.recalled_named

pub run-returns-in_ok-write-in-Minus-clause-answer : goal.run-returns-in_ok-write-in-Minus-clause-answer
run-returns-in_ok-write-in-Minus-clause-answer g t c = λ p is under known there can.
    let env = lists_of c.args.sets.now.named.items in
    let mid = lists_of c.run.new.sets.named.items in
    let end = lists_of c.run-in-Minus.new.sets.named.items in
    let later = lists_of c.write-in-Minus.new.self.named.items in
    let refs = c.in_ok-refs-in-Minus.refs in
    let left = c.in-Minus.left.value in
    let right = c.in-Minus.right.value in
    let same = ap statement_of c.in-Minus.is in
    let both = can_run_as same can in
    let first = subst (λ (s : Stmt). CanRun (statement_of s)) (sym c.deref-in-Minus.ensures) both.0 in
    let second = subst (λ (s : Stmt). CanRun (statement_of s)) (sym c.deref-in-Minus-4.ensures) both.1 in
    let firsts = c.deref-in-Minus-6.result.now in
    let first_is : firsts ≡ given_by (statement_of left) mid =
    c.deref-in-Minus-6.ensures ∙ c.in_ok-first-in-Minus.ensures ∙ ap (λ (s : Stmt). given_by (statement_of s) mid) c.deref-in-Minus-2.ensures in
    let second_is = c.written_by-second.ensures ∙ ap (λ (s : Stmt). given_by (statement_of s) end) c.deref-in-Minus-5.ensures in
    truly_then (λ x. g.met.W.Source.grows _ _ x c.run-in-Minus.ensures.later)
    (λ x needs. needs_as same p env x (left_needs p (statement_of left) (statement_of right) c.in-Minus.into env x needs))
    (λ so x needs. needs_as same p env x (right_needs p (statement_of left) (statement_of right) c.in-Minus.into env mid so.0 x needs))
    (λ so two x needs. minus_splits p (statement_of left) (statement_of right) c.in-Minus.into env mid so.0 x (as_needs same p env x needs))
    (λ so two. (
      after_as same p.objects _ _ (minus_after p.objects left right c.in-Minus.into env mid end later firsts _ refs so.0 first_is two.0 second_is c.in_ok-refs-in-Minus.ensures
          (c.in_ok-write-in-Minus.ensures ∙ ap (λ (name : List ℕ). put name refs end) c.as_bytes-in-Minus.ensures)),
      two.1,
    ))
    (subst (λ (s : Stmt). RanWell p (statement_of s) env mid (AreAnswers p (g.W.Source.used c.run.new.source) c.run.new.memo.remembered.items) (g.W.Source.under c.run.new.source p) (uses (g.W.Source.holds c.run.new.source) (g.W.Source.used c.args.source.now) (g.W.Source.used c.run.new.source)) (Ok c.in_ok-run-in-Minus.field-0)) c.deref-in-Minus.ensures (c.in_ok-run-in-Minus.ensures.answer p is under known there first))
    (λ so under_now. subst (λ (s : Stmt). RanWell p (statement_of s) mid end (AreAnswers p (g.W.Source.used c.run-in-Minus.new.source) c.run-in-Minus.new.memo.remembered.items) (g.W.Source.under c.run-in-Minus.new.source p) (uses (g.W.Source.holds c.run-in-Minus.new.source) (g.W.Source.used c.run.new.source) (g.W.Source.used c.run-in-Minus.new.source)) (Ok c.in_ok-run-in-Minus-2.field-0)) c.deref-in-Minus-4.ensures
    (c.in_ok-run-in-Minus-2.ensures.answer p is under_now so.1 (after_there p.objects (statement_of left) env mid so.0 there) second))

pub run-returns-in_ok-write-in-Minus-clause-bounded : goal.run-returns-in_ok-write-in-Minus-clause-bounded
run-returns-in_ok-write-in-Minus-clause-bounded g t c = λ tell p is under known there can clear.
    let env = lists_of c.args.sets.now.named.items in
    let left = c.in-Minus.left.value in
    let right = c.in-Minus.right.value in
    let same = ap statement_of c.in-Minus.is in
    let both = can_run_as same can in
    let first = subst (λ (s : Stmt). CanRun (statement_of s)) (sym c.deref-in-Minus.ensures) both.0 in
    let early = clear_before (λ x. g.met.W.Source.grows _ _ x c.run-in-Minus.ensures.later) clear in
    let ran = subst (λ (s : Stmt). IsBounded (WorkOf tell p (statement_of s) env) c.args.meter.now.spent c.run.new.meter.spent) c.deref-in-Minus.ensures (c.in_ok-run-in-Minus.ensures.bounded tell p is under known there first early) in
    let mid = lists_of c.run.new.sets.named.items in
    let (so, under_too) = found_well (λ x used. used) early (subst (λ (s : Stmt). RanWell p (statement_of s) env mid (AreAnswers p (g.W.Source.used c.run.new.source) c.run.new.memo.remembered.items) (g.W.Source.under c.run.new.source p) (uses (g.W.Source.holds c.run.new.source) (g.W.Source.used c.args.source.now) (g.W.Source.used c.run.new.source)) (Ok c.in_ok-run-in-Minus.field-0)) c.deref-in-Minus.ensures (c.in_ok-run-in-Minus.ensures.answer p is under known there first)) in
    let given : c.deref-in-Minus-3.result.now ≡ given_by (statement_of left) mid = c.deref-in-Minus-3.ensures ∙ c.in_ok-first-in-Minus.ensures ∙ ap (λ (s : Stmt). given_by (statement_of s) mid) c.deref-in-Minus-2.ensures in
    let second = subst (λ (s : Stmt). CanRun (statement_of s)) (sym c.deref-in-Minus-4.ensures) both.1 in
    let there_too = after_there p.objects (statement_of left) env mid so.0 there in
    let ran_too = subst (λ (s : Stmt). IsBounded (WorkOf tell p (statement_of s) mid) c.charge_run.new.self.spent c.run-in-Minus.new.meter.spent) c.deref-in-Minus-4.ensures (c.in_ok-run-in-Minus-2.ensures.bounded tell p is under_too so.1 there_too second clear) in
    let end = lists_of c.run-in-Minus.new.sets.named.items in
    let so_too = found_well (λ x used. used) clear (subst (λ (s : Stmt). RanWell p (statement_of s) mid end (AreAnswers p (g.W.Source.used c.run-in-Minus.new.source) c.run-in-Minus.new.memo.remembered.items) (g.W.Source.under c.run-in-Minus.new.source p) (uses (g.W.Source.holds c.run-in-Minus.new.source) (g.W.Source.used c.run.new.source) (g.W.Source.used c.run-in-Minus.new.source)) (Ok c.in_ok-run-in-Minus-2.field-0)) c.deref-in-Minus-4.ensures
    (c.in_ok-run-in-Minus-2.ensures.answer p is under_too so.1 there_too second)) in
    let given_too : c.written_by-second.result.now ≡ given_by (statement_of right) end = c.written_by-second.ensures ∙ ap (λ (s : Stmt). given_by (statement_of s) end) c.deref-in-Minus-5.ensures in
    bounded_as same tell p env _ _ (row_bounded p.objects (statement_of left) env mid c.deref-in-Minus-3.result.now so.0 given _ _ _ _ c.charge_run.ensures ran
    (row_bounded p.objects (statement_of right) mid end c.written_by-second.result.now so_too.0.0 given_too _ _ _ _ c.charge_run-in-Minus.ensures ran_too (still _ _)))

pub run-returns-in_ok-write-in-Minus-clause-in_row : goal.run-returns-in_ok-write-in-Minus-clause-in_row
run-returns-in_ok-write-in-Minus-clause-in_row g t c = λ tell p is under known there can clear.
    row_stops p.objects (statement_of c.args.statement.now) (lists_of c.args.sets.now.named.items) _ _ (run-returns-in_ok-write-in-Minus-clause-bounded g t c tell p is under known there can clear)

pub run-returns-in_ok-write-in-Minus-clause-spent : goal.run-returns-in_ok-write-in-Minus-clause-spent
run-returns-in_ok-write-in-Minus-clause-spent g t c = λ tell p is under known there can clear.
    let env = lists_of c.args.sets.now.named.items in
    let left = c.in-Minus.left.value in
    let right = c.in-Minus.right.value in
    let same = ap statement_of c.in-Minus.is in
    let both = can_run_as same can in
    let first = subst (λ (s : Stmt). CanRun (statement_of s)) (sym c.deref-in-Minus.ensures) both.0 in
    let early = clear_before (λ x. g.met.W.Source.grows _ _ x c.run-in-Minus.ensures.later) clear in
    let ran = subst (λ (s : Stmt). IsSpent (WorkOf tell p (statement_of s) env) c.args.meter.now.spent c.run.new.meter.spent) c.deref-in-Minus.ensures (c.in_ok-run-in-Minus.ensures.spent tell p is under known there first early) in
    let mid = lists_of c.run.new.sets.named.items in
    let (so, under_too) = found_well (λ x used. used) early (subst (λ (s : Stmt). RanWell p (statement_of s) env mid (AreAnswers p (g.W.Source.used c.run.new.source) c.run.new.memo.remembered.items) (g.W.Source.under c.run.new.source p) (uses (g.W.Source.holds c.run.new.source) (g.W.Source.used c.args.source.now) (g.W.Source.used c.run.new.source)) (Ok c.in_ok-run-in-Minus.field-0)) c.deref-in-Minus.ensures (c.in_ok-run-in-Minus.ensures.answer p is under known there first)) in
    let given : c.deref-in-Minus-3.result.now ≡ given_by (statement_of left) mid = c.deref-in-Minus-3.ensures ∙ c.in_ok-first-in-Minus.ensures ∙ ap (λ (s : Stmt). given_by (statement_of s) mid) c.deref-in-Minus-2.ensures in
    let second = subst (λ (s : Stmt). CanRun (statement_of s)) (sym c.deref-in-Minus-4.ensures) both.1 in
    let there_too = after_there p.objects (statement_of left) env mid so.0 there in
    let ran_too = subst (λ (s : Stmt). IsSpent (WorkOf tell p (statement_of s) mid) c.charge_run.new.self.spent c.run-in-Minus.new.meter.spent) c.deref-in-Minus-4.ensures (c.in_ok-run-in-Minus-2.ensures.spent tell p is under_too so.1 there_too second clear) in
    let end = lists_of c.run-in-Minus.new.sets.named.items in
    let so_too = found_well (λ x used. used) clear (subst (λ (s : Stmt). RanWell p (statement_of s) mid end (AreAnswers p (g.W.Source.used c.run-in-Minus.new.source) c.run-in-Minus.new.memo.remembered.items) (g.W.Source.under c.run-in-Minus.new.source p) (uses (g.W.Source.holds c.run-in-Minus.new.source) (g.W.Source.used c.run.new.source) (g.W.Source.used c.run-in-Minus.new.source)) (Ok c.in_ok-run-in-Minus-2.field-0)) c.deref-in-Minus-4.ensures
    (c.in_ok-run-in-Minus-2.ensures.answer p is under_too so.1 there_too second)) in
    let given_too : c.written_by-second.result.now ≡ given_by (statement_of right) end = c.written_by-second.ensures ∙ ap (λ (s : Stmt). given_by (statement_of s) end) c.deref-in-Minus-5.ensures in
    spent_as same tell p env _ _ (row_spent p.objects (statement_of left) env mid c.deref-in-Minus-3.result.now so.0 given _ _ _ _ c.charge_run.ensures ran
    (row_spent p.objects (statement_of right) mid end c.written_by-second.result.now so_too.0.0 given_too _ _ _ _ c.charge_run-in-Minus.ensures ran_too (nothing_spent _)))

-- ---- an out, which is never run

pub run-returns-in-Print-clause-later : goal.run-returns-in-Print-clause-later
run-returns-in-Print-clause-later g t c = g.met.W.Source.itself _

pub run-returns-in-Print-clause-walked : goal.run-returns-in-Print-clause-walked
run-returns-in-Print-clause-walked g t c = g.met.W.Source.no_walk _

pub run-returns-in-Print-clause-told : goal.run-returns-in-Print-clause-told
run-returns-in-Print-clause-told g t c = tt

pub run-returns-in-Print-clause-named : goal.run-returns-in-Print-clause-named
run-returns-in-Print-clause-named g t c = c.requires.named

pub run-returns-in-Print-clause-recalled_named : goal.run-returns-in-Print-clause-recalled_named
run-returns-in-Print-clause-recalled_named g t c = c.requires.recalled_named

pub run-returns-in-Print-clause-answer : goal.run-returns-in-Print-clause-answer
run-returns-in-Print-clause-answer g t c = λ p is under known there can. absurd (can_run_as (ap statement_of c.in-Print.is) can)

pub run-returns-in-Print-clause-bounded : goal.run-returns-in-Print-clause-bounded
run-returns-in-Print-clause-bounded g t c = λ tell p is under known there can clear. absurd (can_run_as (ap statement_of c.in-Print.is) can)

pub run-returns-in-Print-clause-in_row : goal.run-returns-in-Print-clause-in_row
run-returns-in-Print-clause-in_row g t c = λ tell p is under known there can clear. absurd (can_run_as (ap statement_of c.in-Print.is) can)

pub run-returns-in-Print-clause-spent : goal.run-returns-in-Print-clause-spent
run-returns-in-Print-clause-spent g t c = λ tell p is under known there can clear. absurd (can_run_as (ap statement_of c.in-Print.is) can)

-- ---- statements in order

pub run_all-note_asked-requires : goal.run_all-note_asked-requires
run_all-note_asked-requires g t c = λ r of.
    g.met.W.Source.still_may _ _ r c.loop-part.invariant.later (c.requires.asked r (part_asked c.args.parts.now c.loop-part.part-index c.part-item.result r c.loop-part-test.true c.part-item.is of))

pub run_all-returns-in_err-run : goal.run_all-returns-in_err-run
run_all-returns-in_err-run g t c =
    let end = c.from_residual in record {
      later = g.met.W.Source.chained _ _ _ c.loop-part.invariant.later c.run.ensures.later;
      walked = no_value end.result _ _ end.ensures.1;
      told = refused_as _ end.result _ end.ensures.1 c.in_err-run.ensures.told;
      sets_named = no_value end.result _ _ end.ensures.1;
      named = no_value end.result _ _ end.ensures.1;
      recalled_named = no_value end.result _ _ end.ensures.1;
      answer = λ p is under known there can.
          let env = lists_of c.args.sets.now.named.items in
          let mid = lists_of c.loop-part.sets.named.items in
          let parts = c.args.parts.now in
          let k = c.loop-part.part-index in
          let part = c.part-item.result in
          truly_then_stops _ end.ensures.1 refl (λ x. g.met.W.Source.grows _ _ x c.run.ensures.later) (parts_all p env parts k)
          (λ so. part_all p env parts k part c.loop-part-test.true c.part-item.is mid c.loop-part.given.items so.0)
          (c.loop-part.invariant.answer p is under known there can)
          (λ so under_now. c.in_err-run.ensures.answer p is under_now so.1 (after_all_there p.objects (statements_of (take k parts)) env mid c.loop-part.given.items so.0 there).0
          (one_lawful parts k part c.loop-part-test.true c.part-item.is can));
      bounded = λ tell p is under known there can clear.
          let env = lists_of c.args.sets.now.named.items in
          let mid = lists_of c.loop-part.sets.named.items in
          let parts = c.args.parts.now in
          let k = c.loop-part.part-index in
          let part = c.part-item.result in
          let early = clear_before (λ x. g.met.W.Source.grows _ _ x c.run.ensures.later) clear in
          let going = going_at tell p parts env k mid _ _ part c.loop-part-test.true c.part-item.is (c.loop-part.invariant.going tell p is under known there can early) in
          let (so, under_now) = found_well (λ x used. used) early (c.loop-part.invariant.answer p is under known there can) in
          let there_now = (after_all_there p.objects (statements_of (take k parts)) env mid c.loop-part.given.items so.0 there).0 in
          let can_now = one_lawful parts k part c.loop-part-test.true c.part-item.is can in
          let first = c.run.ensures.in_row tell p is under_now so.1 there_now can_now clear in
          going_stops tell p (statements_of parts) env (statement_of part) (statements_of (drop (k + 1) parts)) mid _ _ _ going first;
      spent = no_value end.result _ _ end.ensures.1;
    }

pub run_all-returns-in_err-charge_run : goal.run_all-returns-in_err-charge_run
run_all-returns-in_err-charge_run g t c =
    let end = c.from_residual-in_err-charge_run in record {
      later = g.met.W.Source.chained _ _ _ c.loop-part.invariant.later c.run.ensures.later;
      walked = no_value end.result _ _ end.ensures.1;
      told = refused_as _ end.result _ end.ensures.1 (g.met.W.Source.out_of_memory _);
      sets_named = no_value end.result _ _ end.ensures.1;
      named = no_value end.result _ _ end.ensures.1;
      recalled_named = no_value end.result _ _ end.ensures.1;
      answer = λ p is under known there can. memory_stops _ end.ensures.1 refl;
      bounded = λ tell p is under known there can clear.
          let env = lists_of c.args.sets.now.named.items in
          let mid = lists_of c.loop-part.sets.named.items in
          let parts = c.args.parts.now in
          let k = c.loop-part.part-index in
          let part = c.part-item.result in
          let early = clear_before (λ x. g.met.W.Source.grows _ _ x c.run.ensures.later) clear in
          let going = going_at tell p parts env k mid _ _ part c.loop-part-test.true c.part-item.is (c.loop-part.invariant.going tell p is under known there can early) in
          let (so, under_now) = found_well (λ x used. used) early (c.loop-part.invariant.answer p is under known there can) in
          let there_now = (after_all_there p.objects (statements_of (take k parts)) env mid c.loop-part.given.items so.0 there).0 in
          let can_now = one_lawful parts k part c.loop-part-test.true c.part-item.is can in
          let first = c.in_ok-run.ensures.bounded tell p is under_now so.1 there_now can_now clear in
          let after = found_well (λ x used. used) clear (c.in_ok-run.ensures.answer p is under_now so.1 there_now can_now) in
          let next = going_next tell p (statements_of parts) env (statement_of part) (statements_of (drop (k + 1) parts)) mid _ _ _ going (lists_of c.run.new.sets.named.items) c.written_by-written.result.now _ after.0.0 c.written_by-written.ensures c.charge_run.ensures first (c.in_ok-run.ensures.spent tell p is under_now so.1 there_now can_now clear) in
          going_bounded tell p (statements_of parts) env (statements_of (drop (k + 1) parts)) (lists_of c.run.new.sets.named.items) _ _ next;
      spent = no_value end.result _ _ end.ensures.1;
    }

pub run_all-returns-in_err-extend_from_slice : goal.run_all-returns-in_err-extend_from_slice
run_all-returns-in_err-extend_from_slice g t c =
    let end = c.from_residual-in_err-extend_from_slice in record {
      later = g.met.W.Source.chained _ _ _ c.loop-part.invariant.later c.run.ensures.later;
      walked = no_value end.result _ _ end.ensures.1;
      told = refused_as _ end.result _ end.ensures.1 (g.met.W.Source.out_of_memory _);
      sets_named = no_value end.result _ _ end.ensures.1;
      named = no_value end.result _ _ end.ensures.1;
      recalled_named = no_value end.result _ _ end.ensures.1;
      answer = λ p is under known there can. memory_stops _ end.ensures.1 refl;
      bounded = λ tell p is under known there can clear.
          let env = lists_of c.args.sets.now.named.items in
          let mid = lists_of c.loop-part.sets.named.items in
          let parts = c.args.parts.now in
          let k = c.loop-part.part-index in
          let part = c.part-item.result in
          let early = clear_before (λ x. g.met.W.Source.grows _ _ x c.run.ensures.later) clear in
          let going = going_at tell p parts env k mid _ _ part c.loop-part-test.true c.part-item.is (c.loop-part.invariant.going tell p is under known there can early) in
          let (so, under_now) = found_well (λ x used. used) early (c.loop-part.invariant.answer p is under known there can) in
          let there_now = (after_all_there p.objects (statements_of (take k parts)) env mid c.loop-part.given.items so.0 there).0 in
          let can_now = one_lawful parts k part c.loop-part-test.true c.part-item.is can in
          let first = c.in_ok-run.ensures.bounded tell p is under_now so.1 there_now can_now clear in
          let after = found_well (λ x used. used) clear (c.in_ok-run.ensures.answer p is under_now so.1 there_now can_now) in
          let next = going_next tell p (statements_of parts) env (statement_of part) (statements_of (drop (k + 1) parts)) mid _ _ _ going (lists_of c.run.new.sets.named.items) c.written_by-written.result.now _ after.0.0 c.written_by-written.ensures c.charge_run.ensures first (c.in_ok-run.ensures.spent tell p is under_now so.1 there_now can_now clear) in
          going_bounded tell p (statements_of parts) env (statements_of (drop (k + 1) parts)) (lists_of c.run.new.sets.named.items) _ _ next;
      spent = no_value end.result _ _ end.ensures.1;
    }

pub run_all-loop-part-preserved : goal.run_all-loop-part-preserved
run_all-loop-part-preserved g t c = record {
  later = g.met.W.Source.chained _ _ _ c.loop-part.invariant.later c.run.ensures.later;
  walked = g.met.W.Source.more_walks _ _ _ c.loop-part.invariant.later c.run.ensures.later c.loop-part.invariant.walked c.in_ok-run.ensures.walked;
  sets_named = c.in_ok-run.ensures.named;
  recalled_named = c.in_ok-run.ensures.recalled_named;
  named = all_appended c.loop-part.given.items c.written_by-written.result.now c.extend_from_slice.new.self.items (c.in_ok-extend_from_slice.ensures.items ∙ ap (λ (l : List Ref). c.loop-part.given.items ++ l) c.as_slice.ensures.value)
      (all_later c.loop-part.given.items (λ r. g.met.W.Source.same_gave _ _ r c.run.ensures.later) c.loop-part.invariant.named)
      (subst (λ (l : List Ref). AllGiven (g.W.Source.gave c.run.new.source) l) (sym c.written_by-written.ensures) (written_given (statement_of c.part-item.result) (lists_of c.run.new.sets.named.items) c.in_ok-run.ensures.named));
  answer = λ p is under known there can.
      let env = lists_of c.args.sets.now.named.items in
      let mid = lists_of c.loop-part.sets.named.items in
      let parts = c.args.parts.now in
      let k = c.loop-part.part-index in
      let part = c.part-item.result in
      let given = c.loop-part.given.items in
      truly_then (λ x. g.met.W.Source.grows _ _ x c.run.ensures.later) (parts_front p env parts k part c.loop-part-test.true c.part-item.is)
      (λ so. part_needs p env parts k part c.loop-part-test.true c.part-item.is mid given so.0) (λ so one. parts_split p env parts k part c.loop-part-test.true c.part-item.is mid given so.0)
      (λ so one. (
        after_next p.objects parts k part c.loop-part-test.true c.part-item.is env mid (lists_of c.run.new.sets.named.items) given _ so.0 one.0
            (c.in_ok-extend_from_slice.ensures.items ∙ ap (λ (l : List Ref). given ++ l) (c.as_slice.ensures.value ∙ c.written_by-written.ensures)),
        one.1,
      ))
      (c.loop-part.invariant.answer p is under known there can)
      (λ so under_now. c.in_ok-run.ensures.answer p is under_now so.1 (after_all_there p.objects (statements_of (take k parts)) env mid given so.0 there).0
      (one_lawful parts k part c.loop-part-test.true c.part-item.is can));
  going = λ tell p is under known there can clear.
      let env = lists_of c.args.sets.now.named.items in
      let mid = lists_of c.loop-part.sets.named.items in
      let parts = c.args.parts.now in
      let k = c.loop-part.part-index in
      let part = c.part-item.result in
      let early = clear_before (λ x. g.met.W.Source.grows _ _ x c.run.ensures.later) clear in
      let going = going_at tell p parts env k mid _ _ part c.loop-part-test.true c.part-item.is (c.loop-part.invariant.going tell p is under known there can early) in
      let (so, under_now) = found_well (λ x used. used) early (c.loop-part.invariant.answer p is under known there can) in
      let there_now = (after_all_there p.objects (statements_of (take k parts)) env mid c.loop-part.given.items so.0 there).0 in
      let can_now = one_lawful parts k part c.loop-part-test.true c.part-item.is can in
      let first = c.in_ok-run.ensures.bounded tell p is under_now so.1 there_now can_now clear in
      let after = found_well (λ x used. used) clear (c.in_ok-run.ensures.answer p is under_now so.1 there_now can_now) in
      let next = going_next tell p (statements_of parts) env (statement_of part) (statements_of (drop (k + 1) parts)) mid _ _ _ going (lists_of c.run.new.sets.named.items) c.written_by-written.result.now _ after.0.0 c.written_by-written.ensures c.charge_run.ensures first (c.in_ok-run.ensures.spent tell p is under_now so.1 there_now can_now clear) in
      next;
}

pub run_all-returns-clause-later : goal.run_all-returns-clause-later
run_all-returns-clause-later g t c = c.loop-part.invariant.later

pub run_all-returns-clause-walked : goal.run_all-returns-clause-walked
run_all-returns-clause-walked g t c = c.loop-part.invariant.walked

pub run_all-returns-clause-told : goal.run_all-returns-clause-told
run_all-returns-clause-told g t c = tt

pub run_all-returns-clause-sets_named : goal.run_all-returns-clause-sets_named
run_all-returns-clause-sets_named g t c = c.loop-part.invariant.sets_named

pub run_all-returns-clause-named : goal.run_all-returns-clause-named
run_all-returns-clause-named g t c = c.loop-part.invariant.named

pub run_all-returns-clause-recalled_named : goal.run_all-returns-clause-recalled_named
run_all-returns-clause-recalled_named g t c = c.loop-part.invariant.recalled_named

pub run_all-returns-clause-answer : goal.run_all-returns-clause-answer
run_all-returns-clause-answer g t c = λ p is under known there can.
    let env = lists_of c.args.sets.now.named.items in
    let parts = c.args.parts.now in
    let all : take c.loop-part.part-index parts ≡ parts = take_all c.loop-part.part-index parts c.loop-part-test.false in
    truly_as (parts_all p env parts c.loop-part.part-index)
    (λ so x needs. subst (λ (ps : List Stmt). NeededBy p (AskedByAll p (statements_of ps) env) x) (sym all) needs)
    (λ so. (subst (λ (ps : List Stmt). AfterAll p.objects (statements_of ps) env (lists_of c.loop-part.sets.named.items) c.loop-part.given.items) all so.0, so.1))
    (c.loop-part.invariant.answer p is under known there can)

pub run_all-returns-clause-bounded : goal.run_all-returns-clause-bounded
run_all-returns-clause-bounded g t c = λ tell p is under known there can clear.
    let env = lists_of c.args.sets.now.named.items in
    let parts = c.args.parts.now in
    let k = c.loop-part.part-index in
    going_bounded tell p (statements_of parts) env (statements_of (drop k parts)) _ _ _ (c.loop-part.invariant.going tell p is under known there can clear)

pub run_all-returns-clause-spent : goal.run_all-returns-clause-spent
run_all-returns-clause-spent g t c = λ tell p is under known there can clear.
    let env = lists_of c.args.sets.now.named.items in
    let parts = c.args.parts.now in
    let k = c.loop-part.part-index in
    gone_all tell p parts env k _ _ _ c.loop-part-test.false (c.loop-part.invariant.going tell p is under known there can clear)
