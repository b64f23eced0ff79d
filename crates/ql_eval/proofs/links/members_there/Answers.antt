use Rattle.std.proofs.Common.{inl, refl}
use Rattle.tree_node.proofs.shared.OutcomeLaws.{outcome_stops}
use Rattle.osm_model.specs.declared.reference.Ref.{Ref}
use Rattle.ref_sets.specs.Adding.{From}
use Rattle.ref_sets.specs.Sets.{IsSetOf}
use Rattle.ql_eval.specs.internal.Links.{IsListedOf}
use Rattle.ql_eval.proofs.EachLemmas.{needed_as}
use Rattle.ql_eval.proofs.LinkLemmas.{below_needs, below_set, below_there, needs_below}
use Rattle.ql_eval.proofs.TruthLemmas.{truly_then_same}
use Rattle.ql_eval.proofs.links.members_there.Goals as goal

pub returns-in_err-listed-clause-answer : goal.returns-in_err-listed-clause-answer
returns-in_err-listed-clause-answer g c = λ p is under there.
    outcome_stops _ c.from_residual.ensures.1 refl (needed_as (λ ask asked. inl asked)) (c.in_err-listed.ensures.answer p is under there)

pub returns-clause-answer : goal.returns-clause-answer
returns-clause-answer g c = λ p is under there.
    let names = c.args.names.now in
    let first = c.args.first in
    let last = c.args.last in
    let some = c.of_kinds.result.now in
    let listed_in = λ (so : IsSetOf c.in_ok-listed.listed (From names (IsListedOf p.objects))) (r : Ref). below_set p.objects names first last c.in_ok-listed.listed some
    so c.of_kinds.ensures.members r in
    truly_then_same (λ x. g.met.W.Source.grows _ _ x c.those_there.ensures.later)
    (needed_as (λ ask asked. inl asked)) (λ so. below_needs p names first last some (listed_in so)) (λ so b set. needs_below p names first last some (listed_in so))
    (λ so b set. below_there p names first last some (listed_in so) b set)
    (c.in_ok-listed.ensures.answer p is under there)
    (λ so under_now. c.those_there.ensures.answer p is under_now)

pub those_there-requires : goal.those_there-requires
those_there-requires g c = λ r has. c.in_ok-listed.ensures.listed r ((c.of_kinds.ensures.members r).0 has).0
