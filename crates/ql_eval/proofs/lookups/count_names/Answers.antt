use Rattle.std.proofs.Common.{ap, sym, subst, ◌∙◌}
use Rattle.tree_node.specs.declared.tree.Tree.{Tree}
use Rattle.tree_node.proofs.shared.OutcomeLaws.{outcome_as, outcome_stops}
use Rattle.tree_walk.specs.Choices.{IsCount}
use Rattle.tree_walk.specs.Ranges.{Range}
use Rattle.tree_walk.specs.Walks.{IsEntryIn}
use Rattle.ql_eval.specs.Questions.{Ask, Counted, NeedsAsk, range_asked}
use Rattle.ql_eval.specs.internal.Views.{question_of}
use Rattle.ql_eval.specs.internal.TrueFaults.{IsTrueUnder}
use Rattle.ql_eval.proofs.StepLemmas.{refused_as, walk_cause}
use Rattle.ql_eval.proofs.WalkLemmas.{walk_told}
use Rattle.ql_eval.proofs.lookups.count_names.Goals as goal

pub returns-in_err-count-clause-answer : goal.returns-in_err-count-clause-answer
returns-in_err-count-clause-answer g c = λ p is under.
    let question = question_of c.args.question.now in
    let same = ap (λ (r : Range). Counted c.tree_of.result r) (c.as_range.ensures.value ∙ c.in_ok-keys.ensures.keys) ∙ ap (λ (t : Tree). Counted t (range_asked question)) c.tree_of.ensures in
    outcome_stops _ c.from_residual-in_err-count.ensures.1 (walk_cause c.in_err-count.field-0.0)
    (λ x needs. subst (λ (ask : Ask). NeedsAsk p ask x) same needs)
    (c.in_err-count.ensures.answer p is under)

pub returns-clause-answer : goal.returns-clause-answer
returns-clause-answer g c = λ p is under.
    let question = question_of c.args.question.now in
    let same = ap (λ (r : Range). Counted c.tree_of.result r) (c.as_range.ensures.value ∙ c.in_ok-keys.ensures.keys) ∙ ap (λ (t : Tree). Counted t (range_asked question)) c.tree_of.ensures in
    outcome_as
    (λ x needs. subst (λ (ask : Ask). NeedsAsk p ask x) same needs)
    (λ is x needs. subst (λ (ask : Ask). NeedsAsk p ask x) (sym same) needs)
    (λ is. subst (λ (t : Tree). IsCount (IsEntryIn (range_asked question)) (p.entries t) c.in_ok-count.count) c.tree_of.ensures
    (subst (λ (range : Range). IsCount (IsEntryIn range) (p.entries c.tree_of.result) c.in_ok-count.count) (c.as_range.ensures.value ∙ c.in_ok-keys.ensures.keys) is))
    (c.in_ok-count.ensures.answer p is under)

pub returns-in_err-count-clause-told : goal.returns-in_err-count-clause-told
returns-in_err-count-clause-told g c =
    refused_as (IsTrueUnder (g.S.Shelf.holds c.count_in.new.shelf) (g.S.Shelf.used c.count_in.new.shelf) c.args.manifest.now) c.from_residual-in_err-count.result _ c.from_residual-in_err-count.ensures.1
    (walk_told _ _ c.args.manifest.now c.tree_of.result _ c.in_err-count.ensures.told)
