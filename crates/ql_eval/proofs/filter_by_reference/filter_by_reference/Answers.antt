use Rattle.std.proofs.Common.{refl}
use Rattle.ql_syntax.specs.StatementViews.{filter_of}
use Rattle.ql_syntax.specs.declared.filter.Filter.{Filter}
use Rattle.ref_sets.specs.NamedSets.{lists_of}
use Rattle.ql_eval.specs.Asks.{AskedByRest}
use Rattle.ql_eval.specs.Questions.{Ask}
use Rattle.ql_eval.proofs.EachLemmas.{all_front, front_all, front_needs, needs_split, next_all, next_needs}
use Rattle.ql_eval.proofs.NarrowingLemmas.{asks_code, code_asks, narrowed_all, narrowed_more}
use Rattle.ql_eval.proofs.GivenLemmas.{sets_later}
use Rattle.ql_eval.proofs.TruthLemmas.{truly_as, truly_then, truly_then_stops}
use Rattle.ql_eval.proofs.filter_by_reference.filter_by_reference.Goals as goal

pub returns-in_err-left-clause-answer : goal.returns-in_err-left-clause-answer
returns-in_err-left-clause-answer g c = λ p is under there.
    let env = lists_of c.args.sets.now.named.items in
    let filters = c.args.filters.now in
    let Asks : Filter → Ask → Type 0 = λ f ask. AskedByRest p env (filter_of f) ask in
    truly_then_stops _ c.from_residual.ensures.1 refl (λ x. g.met.W.Source.grows _ _ x c.named.ensures.later)
    (λ x needs. asks_code (AskedByRest p env) p filters x (front_all Asks p filters c.loop-filter.filter-index x needs))
    (λ so x needs. asks_code (AskedByRest p env) p filters x (next_all Asks p filters c.loop-filter.filter-index c.filter-item.result c.loop-filter-test.true c.filter-item.is x needs))
    (c.loop-filter.invariant.answer p is under there) (λ so under_now. c.in_err-left.ensures.answer p is under_now there)

pub loop-filter-preserved : goal.loop-filter-preserved
loop-filter-preserved g c = record {
  later = g.met.W.Source.chained _ _ _ c.loop-filter.invariant.later c.named.ensures.later;
  walked = g.met.W.Source.more_walks _ _ _ c.loop-filter.invariant.later c.named.ensures.later c.loop-filter.invariant.walked c.in_ok-left.ensures.walked;
  named = c.in_ok-left.ensures.named;
  answer = λ p is under there.
      let env = lists_of c.args.sets.now.named.items in
      let filters = c.args.filters.now in
      let k = c.loop-filter.filter-index in
      let f = c.filter-item.result in
      let Asks : Filter → Ask → Type 0 = λ f ask. AskedByRest p env (filter_of f) ask in
      truly_then (λ x. g.met.W.Source.grows _ _ x c.named.ensures.later) (front_needs Asks p filters k f c.loop-filter-test.true c.filter-item.is)
      (λ so. next_needs Asks p filters k f c.loop-filter-test.true c.filter-item.is) (λ so next. needs_split Asks p filters k f c.loop-filter-test.true c.filter-item.is)
      (λ so next. narrowed_more p.objects env c.args.refs filters k f c.loop-filter-test.true c.filter-item.is _ _ so next)
      (c.loop-filter.invariant.answer p is under there) (λ so under_now. c.in_ok-left.ensures.answer p is under_now there);
}

pub returns-clause-answer : goal.returns-clause-answer
returns-clause-answer g c = λ p is under there.
    let env = lists_of c.args.sets.now.named.items in
    let filters = c.args.filters.now in
    let k = c.loop-filter.filter-index in
    let Asks : Filter → Ask → Type 0 = λ f ask. AskedByRest p env (filter_of f) ask in
    truly_as (λ x needs. asks_code (AskedByRest p env) p filters x (front_all Asks p filters k x needs))
    (λ so x needs. all_front Asks p filters k c.loop-filter-test.false x (code_asks (AskedByRest p env) p filters x needs))
    (λ so. narrowed_all p.objects env c.args.refs filters k c.loop-filter-test.false _ so) (c.loop-filter.invariant.answer p is under there)

pub named-requires-clause-sets_named : goal.named-requires-clause-sets_named
named-requires-clause-sets_named g c = sets_later (lists_of c.args.sets.now.named.items) (λ r. g.met.W.Source.same_gave _ _ r c.loop-filter.invariant.later) c.requires.sets_named
