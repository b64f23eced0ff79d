use Rattle.std.proofs.Common.{◌++◌, List, inl, refl, ap, ◌∙◌}
use Rattle.osm_model.specs.declared.kind.Kind.TheVariants as kinds
use Rattle.osm_model.specs.declared.reference.Ref.{Ref}
use Rattle.tree_node.proofs.shared.OutcomeLaws.{outcome_stops, memory_stops}
use Rattle.ql_eval.proofs.EachLemmas.{needed_as}
use Rattle.ql_eval.proofs.RecursionLemmas.{inner_needs, members_added, members_split, of_one, ways_there}
use Rattle.ql_eval.proofs.GivenLemmas.{all_appended, all_later, part_given}
use Rattle.ql_eval.proofs.ExitLemmas.{no_value}
use Rattle.ql_eval.proofs.StepLemmas.{refused_as}
use Rattle.ql_eval.proofs.TruthLemmas.{truly_then, truly_then_stops}
use Rattle.ql_eval.proofs.recursions.add_members.Goals as goal

pub members_there-requires : goal.members_there-requires
members_there-requires g c = c.requires.relations_named

pub members_there-requires-2 : goal.members_there-requires-2
members_there-requires-2 g c = part_given c.in_ok-members.members c.of_kinds-ways.result.now c.of_kinds-ways.ensures c.in_ok-members.ensures.named

pub returns-in_err-members : goal.returns-in_err-members
returns-in_err-members g c =
    let end = c.from_residual in record {
      later = c.members_there.ensures.later;
      walked = no_value end.result _ _ end.ensures.1;
      told = refused_as _ end.result _ end.ensures.1 c.in_err-members.ensures.told;
      named = no_value end.result _ _ end.ensures.1;
      answer = λ p is under there.
          outcome_stops _ end.ensures.1 refl (needed_as (λ ask asked. inl asked)) (c.in_err-members.ensures.answer p is under there);
    }

pub returns-in_err-inner : goal.returns-in_err-inner
returns-in_err-inner g c =
    let end = c.from_residual-in_err-inner in record {
      later = g.met.W.Source.chained _ _ _ c.members_there.ensures.later c.members_there-2.ensures.later;
      walked = no_value end.result _ _ end.ensures.1;
      told = refused_as _ end.result _ end.ensures.1 c.in_err-inner.ensures.told;
      named = no_value end.result _ _ end.ensures.1;
      answer = λ p is under there.
          let members = c.in_ok-members.members in
          let ways = c.of_kinds-ways.result.now in
          let are = of_one ways members kinds.Way c.of_kinds-ways.ensures.members in
          truly_then_stops _ end.ensures.1 refl (λ x. g.met.W.Source.grows _ _ x c.members_there-2.ensures.later)
          (needed_as (λ ask asked. inl asked)) (λ so. inner_needs p c.args.relations.now members ways so are)
          (c.in_ok-members.ensures.answer p is under there)
          (λ so under_now. c.in_err-inner.ensures.answer p is under_now (ways_there p c.args.relations.now members ways so are));
    }

pub returns-in_err-extend_from_slice : goal.returns-in_err-extend_from_slice
returns-in_err-extend_from_slice g c =
    let end = c.from_residual-in_err-extend_from_slice in record {
      later = g.met.W.Source.chained _ _ _ c.members_there.ensures.later c.members_there-2.ensures.later;
      walked = no_value end.result _ _ end.ensures.1;
      told = refused_as _ end.result _ end.ensures.1 (g.met.W.Source.out_of_memory _);
      named = no_value end.result _ _ end.ensures.1;
      answer = λ p is under there. memory_stops _ end.ensures.1 refl;
    }

pub returns-in_err-extend_from_slice-2 : goal.returns-in_err-extend_from_slice-2
returns-in_err-extend_from_slice-2 g c =
    let end = c.from_residual-in_err-extend_from_slice-2 in record {
      later = g.met.W.Source.chained _ _ _ c.members_there.ensures.later c.members_there-2.ensures.later;
      walked = no_value end.result _ _ end.ensures.1;
      told = refused_as _ end.result _ end.ensures.1 (g.met.W.Source.out_of_memory _);
      named = no_value end.result _ _ end.ensures.1;
      answer = λ p is under there. memory_stops _ end.ensures.1 refl;
    }

pub returns-clause-later : goal.returns-clause-later
returns-clause-later g c = g.met.W.Source.chained _ _ _ c.members_there.ensures.later c.members_there-2.ensures.later

pub returns-clause-walked : goal.returns-clause-walked
returns-clause-walked g c = g.met.W.Source.more_walks _ _ _ c.members_there.ensures.later c.members_there-2.ensures.later c.in_ok-members.ensures.walked c.in_ok-inner.ensures.walked

pub returns-clause-told : goal.returns-clause-told
returns-clause-told g c = tt

pub returns-clause-named : goal.returns-clause-named
returns-clause-named g c =
    let first = λ (r : Ref). g.met.W.Source.same_gave _ _ r c.members_there.ensures.later in
    let second = λ (r : Ref). g.met.W.Source.same_gave _ _ r c.members_there-2.ensures.later in
    all_appended c.extend_from_slice.new.self.items c.in_ok-inner.inner c.extend_from_slice-2.new.self.items (c.in_ok-extend_from_slice-2.ensures.items ∙ ap (λ (l : List Ref). c.extend_from_slice.new.self.items ++ l) c.as_slice-2.ensures.value)
    (all_appended c.args.refs.now.items c.in_ok-members.members c.extend_from_slice.new.self.items (c.in_ok-extend_from_slice.ensures.items ∙ ap (λ (l : List Ref). c.args.refs.now.items ++ l) c.as_slice.ensures.value)
    (all_later c.args.refs.now.items second (all_later c.args.refs.now.items first c.requires.named)) (all_later c.in_ok-members.members second c.in_ok-members.ensures.named))
    c.in_ok-inner.ensures.named

pub returns-clause-answer : goal.returns-clause-answer
returns-clause-answer g c = λ p is under there.
    let members = c.in_ok-members.members in
    let ways = c.of_kinds-ways.result.now in
    let are = of_one ways members kinds.Way c.of_kinds-ways.ensures.members in
    truly_then (λ x. g.met.W.Source.grows _ _ x c.members_there-2.ensures.later)
    (needed_as (λ ask asked. inl asked)) (λ so. inner_needs p c.args.relations.now members ways so are) (λ so inner. members_split p c.args.relations.now members ways so are)
    (λ so inner. members_added p c.args.relations.now members ways so are c.in_ok-inner.inner _ _ _ inner (c.in_ok-extend_from_slice.ensures.items ∙ ap (λ (l : List Ref). c.args.refs.now.items ++ l) c.as_slice.ensures.value)
    (c.in_ok-extend_from_slice-2.ensures.items ∙ ap (λ (l : List Ref). c.extend_from_slice.new.self.items ++ l) c.as_slice-2.ensures.value))
    (c.in_ok-members.ensures.answer p is under there)
    (λ so under_now. c.in_ok-inner.ensures.answer p is under_now (ways_there p c.args.relations.now members ways so are))
