use Rattle.std.proofs.Common.{◌++◌, List, Ok, subst, sym, ◌∙◌}
use Rattle.std.proofs.lemmas.List.{get_or_default, take_all}
use Rattle.osm_model.specs.declared.reference.Ref.{Ref}
use Rattle.tree_node.proofs.shared.OutcomeLaws.{uses}
use Rattle.ref_sets.proofs.shared.Adding.{none}
use Rattle.ql_eval.specs.internal.Objects.{AreKnownThere, IsKnownThere}
use Rattle.ql_eval.proofs.KnownLemmas.{known_more, there_later}
use Rattle.std.proofs.lemmas.List.Elements.{Contains-get_or}
use Rattle.ql_syntax.specs.StatementViews.{filters_of}
use Rattle.ref_sets.specs.NamedSets.{lists_of}
use Rattle.ql_eval.specs.internal.Links.{AreThere, IsLineAsk}
use Rattle.ql_eval.proofs.LinkLemmas.{set_of_added}
use Rattle.ql_eval.proofs.LoopLemmas.{gone_all, gone_next, gone_stops, gone_same}
use Rattle.ql_eval.proofs.PassingLemmas.{PassedWell}
use Rattle.ql_eval.specs.internal.Narrowing.{IsPassingAs}
use Rattle.ql_eval.proofs.GivenLemmas.{none_given, sorted_given}
use Rattle.ql_eval.specs.internal.Giving.{AllGiven}
use Rattle.ql_eval.proofs.filter_by_object.filter_by_object.Goals as goal

pub returns-in_err-add_passing-clause-answer : goal.returns-in_err-add_passing-clause-answer
returns-in_err-add_passing-clause-answer g c = λ p is under there.
    let names = c.as_slice-names.result.now in
    let env = lists_of c.args.sets.now.named.items in
    let rest = filters_of c.args.before.now ++ filters_of c.args.after.now in
    let are = subst (λ (l : List Ref). AreThere p.objects l) (sym c.as_slice-names.ensures.value) there in
    subst (λ (l : List Ref). PassedWell p env rest l (g.W.Source.under c.add_passing.new.source p) (uses (g.W.Source.holds c.add_passing.new.source) (g.W.Source.used c.args.source.now) (g.W.Source.used c.add_passing.new.source)) c.from_residual.result) c.as_slice-names.ensures.value
    (gone_stops p names (IsPassingAs p.objects env rest) (IsLineAsk p) c.loop-name.name-index _ c.loop-name-test.true (get_or_default names c.loop-name.name-index _ _ c.loop-name-test.true)
    _ c.from_residual.ensures.1 (λ x needs. needs) (λ x. g.met.W.Source.grows _ _ x c.add_passing.ensures.later) (c.loop-name.invariant.answer p is under are)
    (λ under_now. c.in_err-add_passing.ensures.answer p is under_now (are _ (Contains-get_or names c.loop-name.name-index _ c.loop-name-test.true))))

pub loop-name-preserved : goal.loop-name-preserved
loop-name-preserved g c =
    let names = c.as_slice-names.result.now in
    record {
      later = g.met.W.Source.chained _ _ _ c.loop-name.invariant.later c.add_passing.ensures.later;
      walked = g.met.W.Source.more_walks _ _ _ c.loop-name.invariant.later c.add_passing.ensures.later c.loop-name.invariant.walked c.in_ok-add_passing.ensures.walked;
      there = known_more IsKnownThere there_later _ _ names c.loop-name.name-index _ c.loop-name-test.true (λ r o. g.met.W.Source.same_known _ _ r o c.add_passing.ensures.later) c.loop-name.invariant.there c.in_ok-add_passing.ensures.there;
      named = c.in_ok-add_passing.ensures.named;
      answer = λ p is under there.
          gone_next p names (IsPassingAs p.objects (lists_of c.args.sets.now.named.items) (filters_of c.args.before.now ++ filters_of c.args.after.now)) (IsLineAsk p)
          c.loop-name.name-index _ c.loop-name-test.true (get_or_default names c.loop-name.name-index _ _ c.loop-name-test.true)
          (λ x. g.met.W.Source.grows _ _ x c.add_passing.ensures.later) (c.loop-name.invariant.answer p is under there)
          (λ under_now. c.in_ok-add_passing.ensures.answer p is under_now (there _ (Contains-get_or names c.loop-name.name-index _ c.loop-name-test.true)));
    }

pub returns-clause-answer : goal.returns-clause-answer
returns-clause-answer g c = λ p is under there.
    let names = c.as_slice-names.result.now in
    let env = lists_of c.args.sets.now.named.items in
    let rest = filters_of c.args.before.now ++ filters_of c.args.after.now in
    let are = subst (λ (l : List Ref). AreThere p.objects l) (sym c.as_slice-names.ensures.value) there in
    subst (λ (l : List Ref). PassedWell p env rest l (g.W.Source.under c.loop-name.source p) (uses (g.W.Source.holds c.loop-name.source) (g.W.Source.used c.args.source.now) (g.W.Source.used c.loop-name.source)) (Ok c.from_refs.result)) c.as_slice-names.ensures.value
    (gone_all p names (IsPassingAs p.objects env rest) (IsLineAsk p) c.loop-name.name-index c.loop-name-test.false (λ x needs. needs) (λ x needs. needs) (λ so. set_of_added so c.from_refs.ensures) (c.loop-name.invariant.answer p is under are))

pub returns-clause-there : goal.returns-clause-there
returns-clause-there g c =
    subst (λ (names : List Ref). AreKnownThere (g.W.Source.knows c.loop-name.source) names) (take_all _ _ c.loop-name-test.false ∙ c.as_slice-names.ensures.value) c.loop-name.invariant.there

pub loop-name-init : goal.loop-name-init
loop-name-init g c = record {
  later = c.announce_all.ensures.later;
  walked = c.announce_all.ensures.walked;
  there = λ r among. absurd (none r among);
  named = none_given _ _ c.new-refs.ensures.items;
  answer = λ p is under there. rw c.new-refs.ensures.items (gone_same p c.as_slice-names.result.now (IsPassingAs p.objects (lists_of c.args.sets.now.named.items) (filters_of c.args.before.now ++ filters_of c.args.after.now)) (IsLineAsk p) c.announce_all.ensures.used (c.announce_all.ensures.truly p is under));
}

pub add_passing-requires-clause-name_named : goal.add_passing-requires-clause-name_named
add_passing-requires-clause-name_named g c =
    let names = c.as_slice-names.result.now in
    g.met.W.Source.same_gave _ _ _ c.loop-name.invariant.later (subst (λ (l : List Ref). AllGiven (g.W.Source.gave c.args.source.now) l) (sym c.as_slice-names.ensures.value) c.requires _ (Contains-get_or names c.loop-name.name-index _ c.loop-name-test.true))

pub returns-clause-named : goal.returns-clause-named
returns-clause-named g c = sorted_given c.loop-name.refs.items c.from_refs.result c.from_refs.ensures c.loop-name.invariant.named
