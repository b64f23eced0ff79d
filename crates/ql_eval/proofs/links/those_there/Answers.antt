use Rattle.std.proofs.lemmas.List.{get_or_default}
use Rattle.std.proofs.lemmas.List.Elements.{Contains-get_or}
use Rattle.ql_eval.specs.internal.Links.{IsObjectAsk, IsThereAs}
use Rattle.ql_eval.proofs.LinkLemmas.{set_of_added}
use Rattle.ql_eval.proofs.LoopLemmas.{gone_all, gone_next, gone_same, gone_stops}
use Rattle.ql_eval.proofs.GivenLemmas.{none_given, sorted_given}
use Rattle.ql_eval.proofs.links.those_there.Goals as goal

pub returns-in_err-add_there-clause-answer : goal.returns-in_err-add_there-clause-answer
returns-in_err-add_there-clause-answer g c = λ p is under.
    gone_stops p c.args.names.now (IsThereAs p.objects) IsObjectAsk c.loop-name.name-index _ c.loop-name-test.true (get_or_default c.args.names.now c.loop-name.name-index _ _ c.loop-name-test.true)
    _ c.from_residual.ensures.1 (λ x needs. needs) (λ x. g.met.W.Source.grows _ _ x c.add_there.ensures.later)
    (c.loop-name.invariant.answer p is under) (λ under_now. c.in_err-add_there.ensures.answer p is under_now)

pub loop-name-preserved : goal.loop-name-preserved
loop-name-preserved g c = record {
  later = g.met.W.Source.chained _ _ _ c.loop-name.invariant.later c.add_there.ensures.later;
  walked = g.met.W.Source.more_walks _ _ _ c.loop-name.invariant.later c.add_there.ensures.later c.loop-name.invariant.walked c.in_ok-add_there.ensures.walked;
  named = c.in_ok-add_there.ensures.named;
  answer = λ p is under.
      gone_next p c.args.names.now (IsThereAs p.objects) IsObjectAsk c.loop-name.name-index _ c.loop-name-test.true (get_or_default c.args.names.now c.loop-name.name-index _ _ c.loop-name-test.true)
      (λ x. g.met.W.Source.grows _ _ x c.add_there.ensures.later) (c.loop-name.invariant.answer p is under) (λ under_now. c.in_ok-add_there.ensures.answer p is under_now);
}

pub returns-clause-answer : goal.returns-clause-answer
returns-clause-answer g c = λ p is under.
    gone_all p c.args.names.now (IsThereAs p.objects) IsObjectAsk c.loop-name.name-index c.loop-name-test.false (λ x needs. needs) (λ x needs. needs)
    (λ so. set_of_added so c.from_refs.ensures) (c.loop-name.invariant.answer p is under)

pub loop-name-init : goal.loop-name-init
loop-name-init g c = record {
  later = c.announce_all.ensures.later;
  walked = c.announce_all.ensures.walked;
  named = none_given _ _ c.new-there.ensures.items;
  answer = λ p is under. rw c.new-there.ensures.items (gone_same p c.args.names.now (IsThereAs p.objects) IsObjectAsk c.announce_all.ensures.used (c.announce_all.ensures.truly p is under));
}

pub returns-clause-named : goal.returns-clause-named
returns-clause-named g c = sorted_given c.loop-name.there.items c.from_refs.result c.from_refs.ensures c.loop-name.invariant.named

pub add_there-requires-clause-may : goal.add_there-requires-clause-may
add_there-requires-clause-may g c = g.met.W.Source.still_may _ _ _ c.loop-name.invariant.later (c.requires _ (Contains-get_or c.args.names.now c.loop-name.name-index _ c.loop-name-test.true))
