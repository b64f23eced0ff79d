use Rattle.std.proofs.Common.{refl}
use Rattle.tree_node.proofs.shared.OutcomeLaws.{outcome_stops}
use Rattle.ql_syntax.specs.StatementViews.{filters_of}
use Rattle.ref_sets.specs.NamedSets.{lists_of}
use Rattle.ql_eval.specs.Asks.{AskedByRest}
use Rattle.ql_eval.proofs.NarrowingLemmas.{narrowed_both}
use Rattle.ql_eval.proofs.RestLemmas.{either_asks, first_asks, second_asks}
use Rattle.ql_eval.proofs.GivenLemmas.{sets_later}
use Rattle.ql_eval.proofs.TruthLemmas.{truly_then_same}
use Rattle.ql_eval.proofs.apply_filters.filter_by_both.Goals as goal

pub returns-in_err-left-clause-answer : goal.returns-in_err-left-clause-answer
returns-in_err-left-clause-answer g c = λ p is under there.
    outcome_stops _ c.from_residual.ensures.1 refl (first_asks (AskedByRest p (lists_of c.args.sets.now.named.items)) (filters_of c.args.before.now) (filters_of c.args.after.now)) (c.in_err-left.ensures.answer p is under there)

pub returns-clause-answer : goal.returns-clause-answer
returns-clause-answer g c = λ p is under there.
    let env = lists_of c.args.sets.now.named.items in
    let first = filters_of c.args.before.now in
    let second = filters_of c.args.after.now in
    truly_then_same (λ x. g.met.W.Source.grows _ _ x c.filter_by_reference-2.ensures.later) (first_asks (AskedByRest p env) first second) (λ so. second_asks (AskedByRest p env) first second) (λ so b next. either_asks (AskedByRest p env) first second)
    (λ so b next. narrowed_both p.objects env c.args.refs first second c.in_ok-left.left b so next)
    (c.in_ok-left.ensures.answer p is under there) (λ so under_now. c.filter_by_reference-2.ensures.answer p is under_now there)

pub filter_by_reference-requires-2-clause-sets_named : goal.filter_by_reference-requires-2-clause-sets_named
filter_by_reference-requires-2-clause-sets_named g c = sets_later (lists_of c.args.sets.now.named.items) (λ r. g.met.W.Source.same_gave _ _ r c.filter_by_reference.ensures.later) c.requires.sets_named
