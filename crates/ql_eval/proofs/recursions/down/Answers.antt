use Rattle.std.proofs.Common.{List, refl, subst, sym}
use Rattle.osm_model.specs.declared.reference.Ref.{Ref}
use Rattle.ref_sets.specs.Adding.{Adds}
use Rattle.ql_eval.specs.internal.Links.{IsMemberBelow}
use Rattle.osm_model.specs.declared.kind.Kind.TheVariants as kinds
use Rattle.tree_node.proofs.shared.OutcomeLaws.{outcome_stops}
use Rattle.ql_eval.proofs.RecursionLemmas.{down_set, down_splits, members_need, of_one, ways_need}
use Rattle.ql_eval.proofs.GivenLemmas.{all_later, part_given, sorted_given}
use Rattle.ql_eval.specs.internal.Giving.{AllGiven}
use Rattle.ql_eval.proofs.TruthLemmas.{truly_then, truly_then_stops}
use Rattle.ql_eval.proofs.recursions.down.Goals as goal

pub returns-in_err-below_ways-clause-answer : goal.returns-in_err-below_ways-clause-answer
returns-in_err-below_ways-clause-answer g c = λ p is under there.
    let set = c.args.set.now in
    let ways = c.of_kinds-ways.result.now in
    let relations = c.of_kinds-relations.result.now in
    let ways_are = of_one ways set kinds.Way c.of_kinds-ways.ensures.members in
    let relations_are = of_one relations set kinds.Rel c.of_kinds-relations.ensures.members in
    outcome_stops _ c.from_residual.ensures.1 refl (ways_need p set ways relations ways_are relations_are) (c.in_err-below_ways.ensures.answer p is under (λ r among. there r ((ways_are r).0 among).0))

pub returns-in_err-add_members-clause-answer : goal.returns-in_err-add_members-clause-answer
returns-in_err-add_members-clause-answer g c = λ p is under there.
    let set = c.args.set.now in
    let ways = c.of_kinds-ways.result.now in
    let relations = c.of_kinds-relations.result.now in
    let ways_are = of_one ways set kinds.Way c.of_kinds-ways.ensures.members in
    let relations_are = of_one relations set kinds.Rel c.of_kinds-relations.ensures.members in
    truly_then_stops _ c.from_residual-in_err-add_members.ensures.1 refl (λ x. g.met.W.Source.grows _ _ x c.add_members.ensures.later)
    (ways_need p set ways relations ways_are relations_are) (λ so. members_need p set ways relations ways_are relations_are)
    (c.in_ok-below_ways.ensures.answer p is under (λ r among. there r ((ways_are r).0 among).0))
    (λ so under_now. c.in_err-add_members.ensures.answer p is under_now (λ r among. there r ((relations_are r).0 among).0))

pub returns-clause-answer : goal.returns-clause-answer
returns-clause-answer g c = λ p is under there.
    let set = c.args.set.now in
    let ways = c.of_kinds-ways.result.now in
    let relations = c.of_kinds-relations.result.now in
    let ways_are = of_one ways set kinds.Way c.of_kinds-ways.ensures.members in
    let relations_are = of_one relations set kinds.Rel c.of_kinds-relations.ensures.members in
    truly_then (λ x. g.met.W.Source.grows _ _ x c.add_members.ensures.later)
    (ways_need p set ways relations ways_are relations_are) (λ so. members_need p set ways relations ways_are relations_are) (λ so more. down_splits p set ways relations ways_are relations_are)
    (λ so more. down_set p set ways relations ways_are relations_are c.in_ok-below_ways.below_ways _ _ so (subst (λ (l : List Ref). Adds l c.add_members.new.refs.items (IsMemberBelow p.objects relations)) c.into_refs-refs.ensures more) c.from_refs.ensures)
    (c.in_ok-below_ways.ensures.answer p is under (λ r among. there r ((ways_are r).0 among).0))
    (λ so under_now. c.in_ok-add_members.ensures.answer p is under_now (λ r among. there r ((relations_are r).0 among).0))

pub members_there-requires : goal.members_there-requires
members_there-requires g c = part_given c.args.set.now c.of_kinds-ways.result.now c.of_kinds-ways.ensures c.requires

pub add_members-requires-clause-named : goal.add_members-requires-clause-named
add_members-requires-clause-named g c = subst (λ (l : List Ref). AllGiven (g.W.Source.gave c.members_there.new.source) l) (sym c.into_refs-refs.ensures) c.in_ok-below_ways.ensures.named

pub add_members-requires-clause-relations_named : goal.add_members-requires-clause-relations_named
add_members-requires-clause-relations_named g c = all_later c.of_kinds-relations.result.now (λ r. g.met.W.Source.same_gave _ _ r c.members_there.ensures.later) (part_given c.args.set.now c.of_kinds-relations.result.now c.of_kinds-relations.ensures c.requires)

pub returns-clause-named : goal.returns-clause-named
returns-clause-named g c = sorted_given c.add_members.new.refs.items c.from_refs.result c.from_refs.ensures c.in_ok-add_members.ensures.named
