use Rattle.std.proofs.lemmas.List.{get_or_default}
use Rattle.ql_eval.specs.internal.Links.{IsBackAsk, ListsIt}
use Rattle.ql_eval.proofs.LinkLemmas.{set_of_added}
use Rattle.ql_eval.proofs.LoopLemmas.{gone_all, gone_next, gone_stops, gone_none}
use Rattle.ql_eval.proofs.GivenLemmas.{none_given, sorted_given}
use Rattle.ql_eval.proofs.links.referrers_of.Goals as goal

pub returns-in_err-add_referrers-clause-answer : goal.returns-in_err-add_referrers-clause-answer
returns-in_err-add_referrers-clause-answer g c = λ p is under.
    gone_stops p c.args.names.now (ListsIt p.objects c.args.kind) (IsBackAsk c.args.kind) c.loop-name.name-index _ c.loop-name-test.true (get_or_default c.args.names.now c.loop-name.name-index _ _ c.loop-name-test.true)
    _ c.from_residual.ensures.1 (λ x needs. needs) (λ x. g.met.W.Source.grows _ _ x c.add_referrers.ensures.later)
    (c.loop-name.invariant.answer p is under) (λ under_now. c.in_err-add_referrers.ensures.answer p is under_now)

pub loop-name-preserved : goal.loop-name-preserved
loop-name-preserved g c = record {
  later = g.met.W.Source.chained _ _ _ c.loop-name.invariant.later c.add_referrers.ensures.later;
  walked = g.met.W.Source.more_walks _ _ _ c.loop-name.invariant.later c.add_referrers.ensures.later c.loop-name.invariant.walked c.in_ok-add_referrers.ensures.walked;
  named = c.in_ok-add_referrers.ensures.named;
  answer = λ p is under.
      gone_next p c.args.names.now (ListsIt p.objects c.args.kind) (IsBackAsk c.args.kind) c.loop-name.name-index _ c.loop-name-test.true (get_or_default c.args.names.now c.loop-name.name-index _ _ c.loop-name-test.true)
      (λ x. g.met.W.Source.grows _ _ x c.add_referrers.ensures.later) (c.loop-name.invariant.answer p is under) (λ under_now. c.in_ok-add_referrers.ensures.answer p is under_now);
}

pub returns-clause-answer : goal.returns-clause-answer
returns-clause-answer g c = λ p is under.
    gone_all p c.args.names.now (ListsIt p.objects c.args.kind) (IsBackAsk c.args.kind) c.loop-name.name-index c.loop-name-test.false (λ x needs. needs) (λ x needs. needs)
    (λ so. set_of_added so c.from_refs.ensures) (c.loop-name.invariant.answer p is under)

pub loop-name-init : goal.loop-name-init
loop-name-init g c = record {
  later = g.met.W.Source.itself _;
  walked = g.met.W.Source.no_walk _;
  named = none_given _ _ c.new-refs.ensures.items;
  answer = λ p is under. rw c.new-refs.ensures.items (gone_none p c.args.names.now (ListsIt p.objects c.args.kind) (IsBackAsk c.args.kind) under);
}

pub returns-clause-named : goal.returns-clause-named
returns-clause-named g c = sorted_given c.loop-name.refs.items c.from_refs.result c.from_refs.ensures c.loop-name.invariant.named
