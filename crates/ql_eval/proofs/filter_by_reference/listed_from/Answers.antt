use Rattle.std.proofs.Common.{refl}
use Rattle.tree_node.proofs.shared.OutcomeLaws.{outcome_stops}
use Rattle.ql_eval.proofs.NarrowingLemmas.{needs_path, path_is, path_needs}
use Rattle.ql_eval.proofs.GivenLemmas.{all_later, part_given}
use Rattle.ql_eval.proofs.TruthLemmas.{truly_as}
use Rattle.ql_eval.proofs.filter_by_reference.listed_from.Goals as goal

pub returns-in_err-listed-clause-answer : goal.returns-in_err-listed-clause-answer
returns-in_err-listed-clause-answer g c = λ p is under there.
    outcome_stops _ c.from_residual.ensures.1 refl (needs_path c.args.from.now c.of_kinds.result.now c.args.kind c.of_kinds.ensures.members) (c.in_err-listed.ensures.answer p is under (λ r has. there r ((c.of_kinds.ensures.members r).0 has).0))

pub returns-clause-answer : goal.returns-clause-answer
returns-clause-answer g c = λ p is under there.
    let from = c.args.from.now in
    let some = c.of_kinds.result.now in
    truly_as (needs_path from some c.args.kind c.of_kinds.ensures.members) (λ so. path_needs from some c.args.kind c.of_kinds.ensures.members c.requires.parent)
    (λ so. path_is from some c.args.kind c.of_kinds.ensures.members p.objects c.args.refs.now c.in_ok-listed.listed c.in_ok-intersection.field-0 so
    c.in_ok-intersection.ensures)
    (c.in_ok-listed.ensures.answer p is under (λ r has. there r ((c.of_kinds.ensures.members r).0 has).0))

pub members_of-requires : goal.members_of-requires
members_of-requires g c = part_given c.args.from.now c.of_kinds.result.now c.of_kinds.ensures c.requires.from_named

pub returns-clause-named : goal.returns-clause-named
returns-clause-named g c = part_given c.args.refs.now c.in_ok-intersection.field-0 c.in_ok-intersection.ensures (all_later c.args.refs.now (λ r. g.met.W.Source.same_gave _ _ r c.members_of.ensures.later) c.requires.named)
