use Rattle.std.proofs.Common.{List, ap, sym, subst, ◌∙◌}
use Rattle.std.specs.Prelude.{IfErr, IfOk, OnOk}
use Rattle.tree_node.specs.NodeRefs.{bindings_of}
use Rattle.tree_node.specs.declared.item.Item.{Item}
use Rattle.tree_node.specs.declared.tree.Tree.{Tree}
use Rattle.tree_node.proofs.shared.OutcomeLaws.{outcome_stops}
use Rattle.tree_walk.specs.Choices.{AreThose}
use Rattle.tree_walk.specs.Ranges.{Range}
use Rattle.tree_walk.specs.Walks.{IsEntryIn}
use Rattle.ref_sets.specs.Sets.{IsSetOf}
use Rattle.ql_eval.specs.Questions.{Ask, Listed, NeedsAsk, range_asked}
use Rattle.ql_eval.specs.Forms.{HaveForm, Names}
use Rattle.ql_eval.specs.internal.Entries.{AreMisread, IsSaid}
use Rattle.ql_eval.specs.internal.Views.{question_of}
use Rattle.ql_eval.proofs.EntryLemmas.{answered}
use Rattle.osm_keys.specs.Manifests.{top_among}
use Rattle.ql_eval.specs.internal.TrueFaults.{IsTrueUnder}
use Rattle.ql_eval.proofs.StepLemmas.{refused_as, then_read, walk_cause}
use Rattle.ql_eval.proofs.AbsenceLemmas.{asked_many, walk_read}
use Rattle.ql_eval.proofs.WalkLemmas.{read_told, walk_told}
use Rattle.ql_eval.proofs.GivenLemmas.{read_named}
use Rattle.ql_eval.proofs.lookups.find_names.Goals as goal

pub returns-in_err-found-clause-answer : goal.returns-in_err-found-clause-answer
returns-in_err-found-clause-answer g c = λ p is under clean.
    let question = question_of c.args.question.now in
    let same = ap (λ (r : Range). Listed c.tree_of-tree.result r) (c.as_range.ensures.value ∙ c.in_ok-keys.ensures.keys) ∙ ap (λ (t : Tree). Listed t (range_asked question)) c.tree_of-tree.ensures in
    outcome_stops _ c.from_residual-in_err-found.ensures.1 (walk_cause c.in_err-found.field-0.0)
    (λ x needs. subst (λ (ask : Ask). NeedsAsk p ask x) same needs)
    (c.in_err-found.ensures.answer p is under)

pub returns-clause-answer : goal.returns-clause-answer
returns-clause-answer g c = λ p is under clean.
    let question = question_of c.args.question.now in
    let same = ap (λ (r : Range). Listed c.tree_of-tree.result r) (c.as_range.ensures.value ∙ c.in_ok-keys.ensures.keys) ∙ ap (λ (t : Tree). Listed t (range_asked question)) c.tree_of-tree.ensures in
    then_read c.names_in.result
    (λ x needs. subst (λ (ask : Ask). NeedsAsk p ask x) same needs)
    (λ x needs. subst (λ (ask : Ask). NeedsAsk p ask x) (sym same) needs)
    (λ those.
    answered p is question clean c.in_ok-keys.ensures.fits (bindings_of c.in_ok-found.found.items)
    (subst (λ (t : Tree). AreThose (IsEntryIn (range_asked question)) (p.entries t) (bindings_of c.in_ok-found.found.items)) c.tree_of-tree.ensures
    (subst (λ (range : Range). AreThose (IsEntryIn range) (p.entries c.tree_of-tree.result) (bindings_of c.in_ok-found.found.items)) (c.as_range.ensures.value ∙ c.in_ok-keys.ensures.keys) those))
    c.names_in.result
    (subst (λ (t : Tree). IfOk c.names_in.result (λ names. IsSetOf names (IsSaid (Names t) (bindings_of c.in_ok-found.found.items)))) c.tree_of-tree.ensures
    (subst (λ (all : List Item). IfOk c.names_in.result (λ names. IsSetOf names (IsSaid (Names c.tree_of-tree.result) (bindings_of all)))) c.deref.ensures.value c.names_in.ensures.read))
    (subst (λ (t : Tree). IfErr c.names_in.result (AreMisread t (bindings_of c.in_ok-found.found.items))) c.tree_of-tree.ensures
    (subst (λ (all : List Item). IfErr c.names_in.result (AreMisread c.tree_of-tree.result (bindings_of all))) c.deref.ensures.value c.names_in.ensures.refused)))
    (c.in_ok-found.ensures.answer p is under)

pub returns-in_err-found-clause-told : goal.returns-in_err-found-clause-told
returns-in_err-found-clause-told g c =
    refused_as (IsTrueUnder (g.S.Shelf.holds c.entries_in.new.shelf) (g.S.Shelf.used c.entries_in.new.shelf) c.args.manifest.now) c.from_residual-in_err-found.result _ c.from_residual-in_err-found.ensures.1
    (walk_told _ _ c.args.manifest.now c.tree_of-tree.result _ c.in_err-found.ensures.told)

pub returns-clause-walked : goal.returns-clause-walked
returns-clause-walked g c = walk_read (top_among c.args.manifest.now.tops) _ _ _ _ _ _ _ c.tree_of-tree.result _ (bindings_of c.in_ok-found.found.items) c.names_in.result c.entries_in.ensures.calls c.in_ok-found.ensures.gives
    (subst (λ (all : List Item). OnOk c.names_in.result (HaveForm c.tree_of-tree.result (bindings_of all))) c.deref.ensures.value c.names_in.ensures.formed)
    (λ r tree range. asked_many (question_of c.args.question.now) r (sym (c.as_range.ensures.value ∙ c.in_ok-keys.ensures.keys) ∙ range))

pub returns-clause-told : goal.returns-clause-told
returns-clause-told g c = read_told _ _ _ c.args.manifest.now _ _ c.tree_of-tree.result _ (bindings_of c.in_ok-found.found.items) c.names_in.result c.in_ok-found.ensures.gives
    (subst (λ (all : List Item). IfErr c.names_in.result (AreMisread c.tree_of-tree.result (bindings_of all))) c.deref.ensures.value c.names_in.ensures.refused)

pub returns-clause-named : goal.returns-clause-named
returns-clause-named g c =
    read_named _ _ _ c.args.manifest.now _ _ c.tree_of-tree.result _ (bindings_of c.in_ok-found.found.items) c.names_in.result c.in_ok-found.ensures.gives
    (subst (λ (all : List Item). IfOk c.names_in.result (λ names. IsSetOf names (IsSaid (Names c.tree_of-tree.result) (bindings_of all)))) c.deref.ensures.value c.names_in.ensures.read)
