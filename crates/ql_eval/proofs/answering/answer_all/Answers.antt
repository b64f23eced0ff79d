use Rattle.std.proofs.Common.{[], ◌++◌, ◌+◌, drop, refl, sym, subst, ◌∙◌}
use Rattle.osm_forms.specs.Forms.{form_text}
use Rattle.ref_sets.specs.NamedSets.{Env, lists_of, nothing_named}
use Rattle.ql_syntax.specs.StatementViews.{statement_of, statements_of}
use Rattle.ql_eval.proofs.QueryLemmas.{all_sets_there, answered_all, answered_next, answered_none, answered_stops, one_top}
use Rattle.ql_eval.proofs.WritingLemmas.{written_none, written_then}
use Rattle.ql_eval.proofs.GivenLemmas.{nothing_given}
use Rattle.ql_eval.specs.internal.Metering.{IsGoing}
use Rattle.ql_eval.proofs.MeterLemmas.{clear_before, found_well, going_at, going_bounded, going_next, going_start, going_stops, gone_all}
use Rattle.ql_eval.proofs.AbsenceLemmas.{part_asked}
use Rattle.ql_eval.proofs.RecallLemmas.{none_recalled, none_to_give}
use Rattle.ql_eval.proofs.answering.answer_all.Goals as goal

pub returns-in_err-answer_statement-clause-wrote : goal.returns-in_err-answer_statement-clause-wrote
returns-in_err-answer_statement-clause-wrote g c = (c.loop-statement.invariant.wrote.0 ++ c.answer_statement.ensures.wrote.0, written_then c.loop-statement.invariant.wrote.1 c.answer_statement.ensures.wrote.1)

pub returns-in_err-answer_statement-clause-answer : goal.returns-in_err-answer_statement-clause-answer
returns-in_err-answer_statement-clause-answer g c = λ p is under query.
    answered_stops (form_text c.args.form) p c.args.statements.now c.loop-statement.statement-index c.statement-item.result c.loop-statement-test.true c.statement-item.is
    (lists_of c.loop-statement.sets.named.items) (lists_of c.answer_statement.new.sets.named.items) _ c.from_residual.ensures.1 (λ x. g.met.W.Source.grows _ _ x c.answer_statement.ensures.later)
    (c.loop-statement.invariant.answer p is under query)
    (λ there known under_now. c.in_err-answer_statement.ensures.answer p is under_now known there
    (one_top c.args.statements.now c.loop-statement.statement-index c.statement-item.result c.loop-statement-test.true c.statement-item.is query))

pub loop-statement-preserved : goal.loop-statement-preserved
loop-statement-preserved g c = record {
  later = g.met.W.Source.chained _ _ _ c.loop-statement.invariant.later c.answer_statement.ensures.later;
  walked = g.met.W.Source.more_walks _ _ _ c.loop-statement.invariant.later c.answer_statement.ensures.later c.loop-statement.invariant.walked c.in_ok-answer_statement.ensures.walked;
  kept = c.answer_statement.ensures.kept ∙ c.loop-statement.invariant.kept;
  wrote = (c.loop-statement.invariant.wrote.0 ++ c.answer_statement.ensures.wrote.0, written_then c.loop-statement.invariant.wrote.1 c.answer_statement.ensures.wrote.1);
  named = c.in_ok-answer_statement.ensures.named;
  recalled_named = c.in_ok-answer_statement.ensures.recalled_named;
  answer = λ p is under query.
      answered_next (form_text c.args.form) p c.args.statements.now c.loop-statement.statement-index c.statement-item.result c.loop-statement-test.true c.statement-item.is
      (lists_of c.loop-statement.sets.named.items) (lists_of c.answer_statement.new.sets.named.items) (λ x. g.met.W.Source.grows _ _ x c.answer_statement.ensures.later)
      (c.loop-statement.invariant.answer p is under query)
      (λ there known under_now. c.in_ok-answer_statement.ensures.answer p is under_now known there
      (one_top c.args.statements.now c.loop-statement.statement-index c.statement-item.result c.loop-statement-test.true c.statement-item.is query));
  going = λ p is under query clear.
      let mid = lists_of c.loop-statement.sets.named.items in
      let all = c.args.statements.now in
      let k = c.loop-statement.statement-index in
      let one = c.statement-item.result in
      let early = clear_before (λ x. g.met.W.Source.grows _ _ x c.answer_statement.ensures.later) clear in
      let going = going_at (form_text c.args.form) p all nothing_named k mid _ _ one c.loop-statement-test.true c.statement-item.is (c.loop-statement.invariant.going p is under query early) in
      let so = found_well (λ x used. used) early (c.loop-statement.invariant.answer p is under query) in
      let there = all_sets_there (form_text c.args.form) p all k one c.loop-statement-test.true c.statement-item.is mid so.0 so.1 in
      let under_now = so.4 in
      let top = one_top all k one c.loop-statement-test.true c.statement-item.is query in
      let first = c.in_ok-answer_statement.ensures.bounded p is under_now so.3 there top clear in
      let after = (found_well (λ x used. used) clear (c.in_ok-answer_statement.ensures.answer p is under_now so.3 there top)).0.0 in
      let next = going_next (form_text c.args.form) p (statements_of all) nothing_named (statement_of one) (statements_of (drop (k + 1) all)) mid _ _ _ going (lists_of c.answer_statement.new.sets.named.items) c.written_by.result.now _ after c.written_by.ensures c.charge_run.ensures first (c.in_ok-answer_statement.ensures.spent p is under_now so.3 there top clear) in
      next;
}

pub returns-clause-answer : goal.returns-clause-answer
returns-clause-answer g c = λ p is under query.
    answered_all (form_text c.args.form) p c.args.statements.now (lists_of c.loop-statement.sets.named.items) c.loop-statement.statement-index c.loop-statement-test.false (c.loop-statement.invariant.answer p is under query)

pub loop-statement-init : goal.loop-statement-init
loop-statement-init g c = record {
  later = g.met.W.Source.itself _;
  walked = g.met.W.Source.no_walk _;
  kept = refl;
  wrote = ([], written_none);
  named = nothing_given _ (lists_of c.new-sets.result.named.items) c.new-sets.ensures;
  recalled_named = none_to_give _ c.new-memo.result.remembered.items c.new-memo.ensures;
  answer = λ p is under query. answered_none (form_text c.args.form) p c.args.statements.now c.new-sets.ensures (none_recalled p _ c.new-memo.result.remembered.items c.new-memo.ensures) under;
  going = λ p is under query clear.
      let all = statements_of c.args.statements.now in
      subst (λ (env : Env). IsGoing (form_text c.args.form) p all nothing_named all env c.args.meter.now.spent c.args.meter.now.spent) (sym c.new-sets.ensures) (going_start (form_text c.args.form) p all nothing_named _);
}

pub returns-in_err-answer_statement-clause-bounded : goal.returns-in_err-answer_statement-clause-bounded
returns-in_err-answer_statement-clause-bounded g c = λ p is under query clear.
    let mid = lists_of c.loop-statement.sets.named.items in
    let all = c.args.statements.now in
    let k = c.loop-statement.statement-index in
    let one = c.statement-item.result in
    let early = clear_before (λ x. g.met.W.Source.grows _ _ x c.answer_statement.ensures.later) clear in
    let going = going_at (form_text c.args.form) p all nothing_named k mid _ _ one c.loop-statement-test.true c.statement-item.is (c.loop-statement.invariant.going p is under query early) in
    let so = found_well (λ x used. used) early (c.loop-statement.invariant.answer p is under query) in
    let there = all_sets_there (form_text c.args.form) p all k one c.loop-statement-test.true c.statement-item.is mid so.0 so.1 in
    let under_now = so.4 in
    let top = one_top all k one c.loop-statement-test.true c.statement-item.is query in
    let first = c.answer_statement.ensures.in_row p is under_now so.3 there top clear in
    going_stops (form_text c.args.form) p (statements_of all) nothing_named (statement_of one) (statements_of (drop (k + 1) all)) mid _ _ _ going first

pub returns-in_err-charge_run-clause-bounded : goal.returns-in_err-charge_run-clause-bounded
returns-in_err-charge_run-clause-bounded g c = λ p is under query clear.
    let mid = lists_of c.loop-statement.sets.named.items in
    let all = c.args.statements.now in
    let k = c.loop-statement.statement-index in
    let one = c.statement-item.result in
    let early = clear_before (λ x. g.met.W.Source.grows _ _ x c.answer_statement.ensures.later) clear in
    let going = going_at (form_text c.args.form) p all nothing_named k mid _ _ one c.loop-statement-test.true c.statement-item.is (c.loop-statement.invariant.going p is under query early) in
    let so = found_well (λ x used. used) early (c.loop-statement.invariant.answer p is under query) in
    let there = all_sets_there (form_text c.args.form) p all k one c.loop-statement-test.true c.statement-item.is mid so.0 so.1 in
    let under_now = so.4 in
    let top = one_top all k one c.loop-statement-test.true c.statement-item.is query in
    let first = c.in_ok-answer_statement.ensures.bounded p is under_now so.3 there top clear in
    let after = (found_well (λ x used. used) clear (c.in_ok-answer_statement.ensures.answer p is under_now so.3 there top)).0.0 in
    let next = going_next (form_text c.args.form) p (statements_of all) nothing_named (statement_of one) (statements_of (drop (k + 1) all)) mid _ _ _ going (lists_of c.answer_statement.new.sets.named.items) c.written_by.result.now _ after c.written_by.ensures c.charge_run.ensures first (c.in_ok-answer_statement.ensures.spent p is under_now so.3 there top clear) in
    going_bounded (form_text c.args.form) p (statements_of all) nothing_named (statements_of (drop (k + 1) all)) (lists_of c.answer_statement.new.sets.named.items) _ _ next

pub returns-clause-bounded : goal.returns-clause-bounded
returns-clause-bounded g c = λ p is under query clear.
    let all = c.args.statements.now in
    let k = c.loop-statement.statement-index in
    going_bounded (form_text c.args.form) p (statements_of all) nothing_named (statements_of (drop k all)) _ _ _ (c.loop-statement.invariant.going p is under query clear)

pub returns-clause-spent : goal.returns-clause-spent
returns-clause-spent g c = λ p is under query clear.
    let all = c.args.statements.now in
    let k = c.loop-statement.statement-index in
    gone_all (form_text c.args.form) p all nothing_named k _ _ _ c.loop-statement-test.false (c.loop-statement.invariant.going p is under query clear)

pub returns-in_err-charge_run-clause-wrote : goal.returns-in_err-charge_run-clause-wrote
returns-in_err-charge_run-clause-wrote g c = (c.loop-statement.invariant.wrote.0 ++ c.answer_statement.ensures.wrote.0, written_then c.loop-statement.invariant.wrote.1 c.answer_statement.ensures.wrote.1)

pub answer_statement-requires-clause-asked : goal.answer_statement-requires-clause-asked
answer_statement-requires-clause-asked g c = λ r of.
    g.met.W.Source.still_may _ _ r c.loop-statement.invariant.later (c.requires r (part_asked c.args.statements.now c.loop-statement.statement-index c.statement-item.result r c.loop-statement-test.true c.statement-item.is of))
