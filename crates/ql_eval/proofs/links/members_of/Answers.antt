use Rattle.std.proofs.Common.{List, subst}
use Rattle.std.proofs.lemmas.List.{get_or_default, take_all}
use Rattle.osm_model.specs.declared.reference.Ref.{Ref}
use Rattle.ql_eval.specs.internal.Objects.{AreKnownParents, IsKnownParent}
use Rattle.ql_eval.proofs.KnownLemmas.{known_more, parent_later}
use Rattle.std.proofs.lemmas.List.Elements.{Contains-get_or}
use Rattle.ql_eval.specs.internal.Links.{IsListedOf, IsParentAsk}
use Rattle.ql_eval.proofs.LinkLemmas.{set_of_added}
use Rattle.ql_eval.proofs.LoopLemmas.{gone_all, gone_next, gone_stops}
use Rattle.ql_eval.proofs.GivenLemmas.{sorted_given}
use Rattle.ql_eval.proofs.links.members_of.Goals as goal

pub returns-in_err-add_listed-clause-answer : goal.returns-in_err-add_listed-clause-answer
returns-in_err-add_listed-clause-answer g c = λ p is under there.
    gone_stops p c.args.names.now (IsListedOf p.objects) (IsParentAsk p) c.loop-name.name-index _ c.loop-name-test.true (get_or_default c.args.names.now c.loop-name.name-index _ _ c.loop-name-test.true)
    _ c.from_residual.ensures.1 (λ x needs. needs) (λ x. g.met.W.Source.grows _ _ x c.add_listed.ensures.later)
    (c.loop-name.invariant.answer p is under there) (λ under_now. c.in_err-add_listed.ensures.answer p is under_now (there _ (Contains-get_or c.args.names.now c.loop-name.name-index _ c.loop-name-test.true)))

pub loop-name-preserved : goal.loop-name-preserved
loop-name-preserved g c = record {
  later = g.met.W.Source.chained _ _ _ c.loop-name.invariant.later c.add_listed.ensures.later;
  walked = g.met.W.Source.more_walks _ _ _ c.loop-name.invariant.later c.add_listed.ensures.later c.loop-name.invariant.walked c.in_ok-add_listed.ensures.walked;
  listed = c.in_ok-add_listed.ensures.listed;
  there = known_more IsKnownParent parent_later _ _ c.args.names.now c.loop-name.name-index _ c.loop-name-test.true (λ r o. g.met.W.Source.same_known _ _ r o c.add_listed.ensures.later) c.loop-name.invariant.there c.in_ok-add_listed.ensures.there;
  answer = λ p is under there.
      gone_next p c.args.names.now (IsListedOf p.objects) (IsParentAsk p) c.loop-name.name-index _ c.loop-name-test.true (get_or_default c.args.names.now c.loop-name.name-index _ _ c.loop-name-test.true)
      (λ x. g.met.W.Source.grows _ _ x c.add_listed.ensures.later) (c.loop-name.invariant.answer p is under there) (λ under_now. c.in_ok-add_listed.ensures.answer p is under_now (there _ (Contains-get_or c.args.names.now c.loop-name.name-index _ c.loop-name-test.true)));
}

pub returns-clause-answer : goal.returns-clause-answer
returns-clause-answer g c = λ p is under there.
    gone_all p c.args.names.now (IsListedOf p.objects) (IsParentAsk p) c.loop-name.name-index c.loop-name-test.false (λ x needs. needs) (λ x needs. needs)
    (λ so. set_of_added so c.from_refs.ensures) (c.loop-name.invariant.answer p is under there)

pub returns-clause-there : goal.returns-clause-there
returns-clause-there g c = subst (λ (names : List Ref). AreKnownParents (g.W.Source.knows c.loop-name.source) names) (take_all _ _ c.loop-name-test.false) c.loop-name.invariant.there

pub add_listed-requires-clause-gave : goal.add_listed-requires-clause-gave
add_listed-requires-clause-gave g c = g.met.W.Source.same_gave _ _ _ c.loop-name.invariant.later (c.requires _ (Contains-get_or c.args.names.now c.loop-name.name-index _ c.loop-name-test.true))

pub returns-clause-listed : goal.returns-clause-listed
returns-clause-listed g c = sorted_given c.loop-name.listed.items c.from_refs.result c.from_refs.ensures c.loop-name.invariant.listed
