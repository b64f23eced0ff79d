use Rattle.std.proofs.Common.{◌≡◌, ◌≢◌, List, [], ◌++◌, ap, refl, subst, sym, ◌∙◌}
use Rattle.std.specs.List.{Contains}
use Rattle.tree_node.proofs.shared.OutcomeLaws.{outcome_starts, outcome_stops}
use Rattle.ql_syntax.specs.Filters as tree
use Rattle.ql_syntax.specs.StatementViews.{filters_of}
use Rattle.ref_sets.specs.Sets.{IsSetOf}
use Rattle.ref_sets.specs.NamedSets.{lists_of}
use Rattle.ql_eval.specs.internal.Selecting.{IsKeptBy}
use Rattle.ql_eval.proofs.HalfLemmas.{all_kept, kept_is}
use Rattle.ql_eval.proofs.RestLemmas.{filters_test, nothing_tested, nothing_written, objects_test, some_after, some_before, test_split}
use Rattle.ql_eval.proofs.GivenLemmas.{sets_later}
use Rattle.ql_eval.proofs.TruthLemmas.{truly_then_same}
use Rattle.ql_eval.proofs.apply_filters.apply_filters.Goals as goal
use Rattle.ql_eval.proofs.apply_filters.apply_filters.Goals.{else-is_empty-via-then-is_empty+else-is_empty-2, else-is_empty-via-else-is_empty}

pub returns-then-is_empty-2-clause-answer : goal.returns-then-is_empty-2-clause-answer
returns-then-is_empty-2-clause-answer g c = λ p is under there all.
    let env = lists_of c.args.sets.now.named.items in
    let candidates = c.args.candidates in
    let first = nothing_written c.args.before.now c.is_empty.result c.is_empty.ensures c.if-is_empty.true in
    let second = nothing_written c.args.after.now c.is_empty-then-is_empty.result c.is_empty-then-is_empty.ensures c.if-is_empty-2.true in
    let empty : filters_of c.args.before.now ++ filters_of c.args.after.now ≡ [] = ap (λ (fs : List tree.Filter). fs ++ filters_of c.args.after.now) first ∙ second in
    let set : IsSetOf candidates (Contains candidates) = record { rising = c.as_slice.ensures.rising; members = λ r. ((λ has. has), (λ has. has)) } in
    outcome_starts (subst (λ (fs : List tree.Filter). IsSetOf candidates (λ r. Contains candidates r × IsKeptBy p.objects env fs r)) (sym empty) (all_kept p.objects env candidates candidates there set), under)
    (nothing_tested env (filters_of c.args.before.now ++ filters_of c.args.after.now) candidates empty)

pub returns-in_err-refs-clause-answer : goal.returns-in_err-refs-clause-answer
returns-in_err-refs-clause-answer g c = λ p is under there all.
    let rest = filters_of c.args.before.now ++ filters_of c.args.after.now in
    let some : rest ≢ [] = elim c.else-is_empty.branch [
      | else-is_empty-via-then-is_empty+else-is_empty-2 w ↦ some_after c.args.before.now c.args.after.now w.is_empty-then-is_empty.result w.is_empty-then-is_empty.ensures w.if-is_empty-2.false
      | else-is_empty-via-else-is_empty w ↦ some_before c.args.before.now c.args.after.now c.is_empty.result c.is_empty.ensures w.if-is_empty.false
    ] in
    outcome_stops _ c.from_residual.ensures.1 refl (objects_test (lists_of c.args.sets.now.named.items) rest c.args.candidates some) (c.in_err-refs.ensures.answer p is under there)

pub returns-clause-answer : goal.returns-clause-answer
returns-clause-answer g c = λ p is under there all.
    let env = lists_of c.args.sets.now.named.items in
    let candidates = c.args.candidates in
    let rest = filters_of c.args.before.now ++ filters_of c.args.after.now in
    let some : rest ≢ [] = elim c.else-is_empty.branch [
      | else-is_empty-via-then-is_empty+else-is_empty-2 w ↦ some_after c.args.before.now c.args.after.now w.is_empty-then-is_empty.result w.is_empty-then-is_empty.ensures w.if-is_empty-2.false
      | else-is_empty-via-else-is_empty w ↦ some_before c.args.before.now c.args.after.now c.is_empty.result c.is_empty.ensures w.if-is_empty.false
    ] in
    truly_then_same (λ x. g.met.W.Source.grows _ _ x c.filter_by_both.ensures.later) (objects_test env rest candidates some) (λ so. filters_test env rest candidates) (λ so b next. test_split env rest candidates)
    (λ so b next. kept_is p.objects env all candidates rest c.in_ok-refs.refs b so next)
    (c.in_ok-refs.ensures.answer p is under there) (λ so under_now. c.filter_by_both.ensures.answer p is under_now all)

pub filter_by_both-requires-clause-sets_named : goal.filter_by_both-requires-clause-sets_named
filter_by_both-requires-clause-sets_named g c = sets_later (lists_of c.args.sets.now.named.items) (λ r. g.met.W.Source.same_gave _ _ r c.filter_by_object.ensures.later) c.requires.sets_named
