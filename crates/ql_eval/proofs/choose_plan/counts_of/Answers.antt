use Rattle.std.proofs.Common.{ℕ, ◌+◌, ap, cond, refl, sym, ◌∙◌, filter, length, List}
use Rattle.tree_node.proofs.shared.OutcomeLaws.{outcome_as, outcome_then, outcome_then_stops}
use Rattle.ql_syntax.specs.StatementViews.{filter_of, filters_of}
use Rattle.ql_syntax.specs.declared.filter.Filter.{Filter}
use Rattle.ql_plan.specs.Plans.{is_counted}
use Rattle.ql_eval.specs.Questions.{Ask}
use Rattle.ql_eval.proofs.EachLemmas.{all_front, front_all, front_needs, needs_split, next_all, next_needs}
use Rattle.ql_eval.specs.internal.Counting.{IsRivalAsk}
use Rattle.ql_eval.proofs.CountLemmas.{counts_all, counts_more, many_more}
use Rattle.ql_eval.proofs.NarrowingLemmas.{asks_code, code_asks}
use Rattle.ql_eval.proofs.ExitLemmas.{no_value}
use Rattle.ql_eval.proofs.StepLemmas.{refused_as}
use Rattle.std.proofs.lemmas.List.{take_all}
use Rattle.ql_eval.proofs.choose_plan.counts_of.Goals as goal

pub returns-in_err-add_count : goal.returns-in_err-add_count
returns-in_err-add_count g c =
    let end = c.from_residual in record {
      later = g.met.W.Source.chained _ _ _ c.loop-filter.invariant.later c.add_count.ensures.later;
      walked = no_value end.result _ _ end.ensures.1;
      told = refused_as _ end.result _ end.ensures.1 c.in_err-add_count.ensures.told;
      truly = λ p is under. c.add_count.ensures.truly p is (c.loop-filter.invariant.truly p is under);
      many = no_value end.result _ _ end.ensures.1;
      answer = λ p is reads.
          let filters = c.args.filters.now in
          let Asks : Filter → Ask → Type 0 = λ f ask. IsRivalAsk c.args.kind (filter_of f) ask in
          outcome_then_stops _ end.ensures.1 refl (λ x. g.met.W.Source.grows _ _ x c.add_count.ensures.later)
          (λ x needs. asks_code (IsRivalAsk c.args.kind) p filters x (front_all Asks p filters c.loop-filter.filter-index x needs))
          (λ so x needs. asks_code (IsRivalAsk c.args.kind) p filters x (next_all Asks p filters c.loop-filter.filter-index c.filter-item.result c.loop-filter-test.true c.filter-item.is x needs))
          (c.loop-filter.invariant.answer p is reads) (λ so. c.in_err-add_count.ensures.answer p is (g.met.W.Source.still_reads _ _ p c.loop-filter.invariant.later reads));
    }

pub loop-filter-preserved : goal.loop-filter-preserved
loop-filter-preserved g c = record {
  later = g.met.W.Source.chained _ _ _ c.loop-filter.invariant.later c.add_count.ensures.later;
  walked = g.met.W.Source.more_walks _ _ _ c.loop-filter.invariant.later c.add_count.ensures.later c.loop-filter.invariant.walked c.in_ok-add_count.ensures.walked;
  truly = λ p is under. c.add_count.ensures.truly p is (c.loop-filter.invariant.truly p is under);
  many = c.in_ok-add_count.ensures.many ∙ ap (λ (n : ℕ). n + cond (is_counted (filter_of c.filter-item.result)) 1 0) c.loop-filter.invariant.many ∙ sym (many_more c.args.filters.now c.loop-filter.filter-index c.filter-item.result c.loop-filter-test.true c.filter-item.is);
  answer = λ p is reads.
      let filters = c.args.filters.now in
      let k = c.loop-filter.filter-index in
      let f = c.filter-item.result in
      let Asks : Filter → Ask → Type 0 = λ f ask. IsRivalAsk c.args.kind (filter_of f) ask in
      outcome_then (λ x. g.met.W.Source.grows _ _ x c.add_count.ensures.later) (front_needs Asks p filters k f c.loop-filter-test.true c.filter-item.is)
      (λ so. next_needs Asks p filters k f c.loop-filter-test.true c.filter-item.is) (λ so next. needs_split Asks p filters k f c.loop-filter-test.true c.filter-item.is)
      (λ so next. counts_more p c.args.kind filters k f c.loop-filter-test.true c.filter-item.is c.loop-filter.counts.items c.add_count.new.counts.items so next)
      (c.loop-filter.invariant.answer p is reads) (λ so. c.in_ok-add_count.ensures.answer p is (g.met.W.Source.still_reads _ _ p c.loop-filter.invariant.later reads));
}

pub returns-clause-later : goal.returns-clause-later
returns-clause-later g c = c.loop-filter.invariant.later

pub returns-clause-walked : goal.returns-clause-walked
returns-clause-walked g c = c.loop-filter.invariant.walked

pub returns-clause-told : goal.returns-clause-told
returns-clause-told g c = tt

pub returns-clause-truly : goal.returns-clause-truly
returns-clause-truly g c = c.loop-filter.invariant.truly

pub returns-clause-many : goal.returns-clause-many
returns-clause-many g c = c.loop-filter.invariant.many ∙ ap (λ (fs : List Filter). length (filter is_counted (filters_of fs))) (take_all c.loop-filter.filter-index c.args.filters.now c.loop-filter-test.false)

pub returns-clause-answer : goal.returns-clause-answer
returns-clause-answer g c = λ p is reads.
    let filters = c.args.filters.now in
    let k = c.loop-filter.filter-index in
    let Asks : Filter → Ask → Type 0 = λ f ask. IsRivalAsk c.args.kind (filter_of f) ask in
    outcome_as (λ x needs. asks_code (IsRivalAsk c.args.kind) p filters x (front_all Asks p filters k x needs))
    (λ so x needs. all_front Asks p filters k c.loop-filter-test.false x (code_asks (IsRivalAsk c.args.kind) p filters x needs))
    (λ so. counts_all p c.args.kind filters k c.loop-filter-test.false c.loop-filter.counts.items so) (c.loop-filter.invariant.answer p is reads)
