use Rattle.std.proofs.Common.{refl}
use Rattle.osm_model.specs.declared.kind.Kind.TheVariants as kinds
use Rattle.tree_node.proofs.shared.OutcomeLaws.{outcome_stops}
use Rattle.ql_eval.proofs.RecursionLemmas.{children_need, of_one, outer_needs, up_set, up_splits}
use Rattle.ql_eval.proofs.GivenLemmas.{all_later, union_given}
use Rattle.ql_eval.proofs.TruthLemmas.{truly_then, truly_then_stops}
use Rattle.ql_eval.proofs.recursions.up.Goals as goal

pub returns-in_err-first-clause-answer : goal.returns-in_err-first-clause-answer
returns-in_err-first-clause-answer g c = λ p is under there.
    outcome_stops _ c.from_residual.ensures.1 refl (children_need p c.args.set.now c.of_kinds-children.result.now c.of_kinds-children.ensures.members) (c.in_err-first.ensures.answer p is under)

pub returns-in_err-outer-clause-answer : goal.returns-in_err-outer-clause-answer
returns-in_err-outer-clause-answer g c = λ p is under there.
    let set = c.args.set.now in
    let children = c.of_kinds-children.result.now in
    let refs = c.in_ok-first.first in
    let ways = c.of_kinds-ways.result.now in
    let ways_are = of_one ways refs kinds.Way c.of_kinds-ways.ensures.members in
    truly_then_stops _ c.from_residual-in_err-outer.ensures.1 refl (λ x. g.met.W.Source.grows _ _ x c.referrers_of-2.ensures.later)
    (children_need p set children c.of_kinds-children.ensures.members) (λ so. outer_needs p set children refs ways c.of_kinds-children.ensures.members so ways_are there)
    (c.in_ok-first.ensures.answer p is under)
    (λ so under_now. c.in_err-outer.ensures.answer p is under_now)

pub returns-clause-answer : goal.returns-clause-answer
returns-clause-answer g c = λ p is under there.
    let set = c.args.set.now in
    let children = c.of_kinds-children.result.now in
    let refs = c.in_ok-first.first in
    let ways = c.of_kinds-ways.result.now in
    let ways_are = of_one ways refs kinds.Way c.of_kinds-ways.ensures.members in
    truly_then (λ x. g.met.W.Source.grows _ _ x c.referrers_of-2.ensures.later)
    (children_need p set children c.of_kinds-children.ensures.members) (λ so. outer_needs p set children refs ways c.of_kinds-children.ensures.members so ways_are there)
    (λ so outer. up_splits p set children refs ways c.of_kinds-children.ensures.members so ways_are there)
    (λ so outer. up_set p set children refs ways c.of_kinds-children.ensures.members so ways_are there c.in_ok-outer.outer _ outer c.in_ok-union.ensures)
    (c.in_ok-first.ensures.answer p is under)
    (λ so under_now. c.in_ok-outer.ensures.answer p is under_now)

pub returns-clause-named : goal.returns-clause-named
returns-clause-named g c = union_given c.in_ok-first.first c.in_ok-outer.outer c.in_ok-union.field-0 c.in_ok-union.ensures (all_later c.in_ok-first.first (λ r. g.met.W.Source.same_gave _ _ r c.referrers_of-2.ensures.later) c.in_ok-first.ensures.named) c.in_ok-outer.ensures.named
