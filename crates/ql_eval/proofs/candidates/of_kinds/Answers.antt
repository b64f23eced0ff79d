use Rattle.std.proofs.lemmas.List.{get_or_default}
use Rattle.ql_eval.specs.internal.Candidates.{IsKindAsk, IsOfThisKind}
use Rattle.ql_eval.proofs.LinkLemmas.{set_of_added}
use Rattle.ql_eval.proofs.LoopLemmas.{gone_all, gone_next, gone_stops, gone_none}
use Rattle.ql_eval.proofs.GivenLemmas.{none_given, sorted_given}
use Rattle.ql_eval.proofs.candidates.of_kinds.Goals as goal

pub returns-in_err-add_kind-clause-answer : goal.returns-in_err-add_kind-clause-answer
returns-in_err-add_kind-clause-answer g c = λ p is under.
    gone_stops p c.args.kinds.now (IsOfThisKind p.objects) IsKindAsk c.loop-kind.kind-index _ c.loop-kind-test.true (get_or_default c.args.kinds.now c.loop-kind.kind-index _ _ c.loop-kind-test.true)
    _ c.from_residual.ensures.1 (λ x needs. needs) (λ x. g.met.W.Source.grows _ _ x c.add_kind.ensures.later)
    (c.loop-kind.invariant.answer p is under) (λ under_now. c.in_err-add_kind.ensures.answer p is under_now)

pub loop-kind-preserved : goal.loop-kind-preserved
loop-kind-preserved g c = record {
  later = g.met.W.Source.chained _ _ _ c.loop-kind.invariant.later c.add_kind.ensures.later;
  walked = g.met.W.Source.more_walks _ _ _ c.loop-kind.invariant.later c.add_kind.ensures.later c.loop-kind.invariant.walked c.in_ok-add_kind.ensures.walked;
  named = c.in_ok-add_kind.ensures.named;
  answer = λ p is under.
      gone_next p c.args.kinds.now (IsOfThisKind p.objects) IsKindAsk c.loop-kind.kind-index _ c.loop-kind-test.true (get_or_default c.args.kinds.now c.loop-kind.kind-index _ _ c.loop-kind-test.true)
      (λ x. g.met.W.Source.grows _ _ x c.add_kind.ensures.later) (c.loop-kind.invariant.answer p is under) (λ under_now. c.in_ok-add_kind.ensures.answer p is under_now);
}

pub returns-clause-answer : goal.returns-clause-answer
returns-clause-answer g c = λ p is under.
    gone_all p c.args.kinds.now (IsOfThisKind p.objects) IsKindAsk c.loop-kind.kind-index c.loop-kind-test.false (λ x needs. needs) (λ x needs. needs)
    (λ so. set_of_added so c.from_refs.ensures) (c.loop-kind.invariant.answer p is under)

pub loop-kind-init : goal.loop-kind-init
loop-kind-init g c = record {
  later = g.met.W.Source.itself _;
  walked = g.met.W.Source.no_walk _;
  named = none_given _ _ c.new-refs.ensures.items;
  answer = λ p is under. rw c.new-refs.ensures.items (gone_none p c.args.kinds.now (IsOfThisKind p.objects) IsKindAsk under);
}

pub returns-clause-named : goal.returns-clause-named
returns-clause-named g c = sorted_given c.loop-kind.refs.items c.from_refs.result c.from_refs.ensures c.loop-kind.invariant.named
