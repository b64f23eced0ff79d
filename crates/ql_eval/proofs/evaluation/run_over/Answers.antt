use Rattle.std.proofs.Common.{ℕ, List, rules, subst, sym}
use Rattle.std.specs.Borrow.{Bor}
use Rattle.std.specs.Prelude.{OnOk}
use Rattle.osm_keys.specs.Manifests.{top_among}
use Rattle.osm_keys.specs.declared.manifest.Manifest.{Manifest}
use Rattle.ql_syntax.specs.declared.statement.Stmt.{Stmt}
use Rattle.tree_walk.specs.WalksGiven.{HasGiven}
use Rattle.ql_eval.specs.Absences.{IsSound, MayBeAbsent}
use Rattle.ql_eval.proofs.AbsenceLemmas.{none_read, sound_end}
use Rattle.tree_node.specs.Outcomes.{Outcome}
use Rattle.tree_node.proofs.shared.OutcomeLaws.{uses}
use Rattle.ql_syntax.specs.StatementViews.{statements_of}
use Rattle.osm_forms.specs.Forms.{form_text}
use Rattle.ql_meaning.specs.Meanings.{Means_by}
use Rattle.ref_sets.specs.NamedSets.{nothing_named}
use Rattle.ql_eval.specs.Asks.{AskedByAll}
use Rattle.ql_eval.specs.Faults.{cause_of_evaluation}
use Rattle.ql_eval.specs.Questions.{NeededBy}
use Rattle.ql_eval.specs.Written.{HasWritten}
use Rattle.ql_eval.proofs.KnownLemmas.{none_remembered}
use Rattle.ql_eval.proofs.RememberLemmas.{none_recalled}
use Rattle.ref_sets.proofs.shared.Results.{on_ok_as}
use Rattle.ql_eval.specs.Work.{HasNoClash}
use Rattle.ql_eval.proofs.TruthLemmas.{truly_ended}
use Rattle.ql_eval.proofs.evaluation.run_over.Goals as goal

pub returns-clause-answer : goal.returns-clause-answer
returns-clause-answer g c = λ p is under query.
    subst
    (λ s. Outcome cause_of_evaluation (λ (_ : Unit {0}). (text : List ℕ) × Means_by (form_text c.args.form) p.objects (statements_of c.args.statements.now) text × HasWritten (g.T.Sink.stands c.args.sink.now) (g.T.Sink.stands c.answer_all-ran.new.sink) text)
    (NeededBy p (AskedByAll p (statements_of c.args.statements.now) nothing_named)) (uses (g.S.Shelf.holds s) (g.S.Shelf.used c.args.shelf.now) (g.S.Shelf.used s)) c.answer_all-ran.result)
    (search rules)
    (truly_ended (c.answer_all-ran.ensures.answer p is (under, none_remembered p _ c.new-objects.result c.new-objects.ensures.empty, none_recalled p _ c.new-memo.result.remembered.items c.new-memo.ensures) query))

pub returns-clause-bounded : goal.returns-clause-bounded
returns-clause-bounded g c = λ p is under query clear.
    c.answer_all-ran.ensures.bounded p is (under, none_remembered p _ c.new-objects.result c.new-objects.ensures.empty, none_recalled p _ c.new-memo.result.remembered.items c.new-memo.ensures) query
    (subst (λ s. HasNoClash p (g.S.Shelf.used s)) (search rules) clear)

pub returns-clause-spent : goal.returns-clause-spent
returns-clause-spent g c = on_ok_as c.answer_all-ran.result (λ spent p is under query clear.
    spent p is (under, none_remembered p _ c.new-objects.result c.new-objects.ensures.empty, none_recalled p _ c.new-memo.result.remembered.items c.new-memo.ensures) query
    (subst (λ s. HasNoClash p (g.S.Shelf.used s)) (search rules) clear)) c.answer_all-ran.ensures.spent

pub returns-clause-walked : goal.returns-clause-walked
returns-clause-walked g c =
    let source = c.answer_all-ran.new.source in
    let later = c.answer_all-ran.ensures.later in
    let ended = sound_end c.answer_all-ran.result (top_among source.manifest.tops) (statements_of source.statements.now) source.manifest source.objects.now _ _ _ _ _ _ _ (later.10 (none_read _ c.args.manifest c.new-objects.result c.new-objects.ensures.empty)) c.answer_all-ran.ensures.walked in
    let here =
    subst
    (λ (m : Manifest). OnOk c.answer_all-ran.result (HasGiven (top_among m.tops) (IsSound (MayBeAbsent (statements_of source.statements.now) (g.S.Shelf.used source.shelf.now) m)) (uses (g.S.Shelf.holds source.shelf.now) (g.S.Shelf.used c.args.shelf.now) (g.S.Shelf.used source.shelf.now)) 0 source.tally.calls 0 source.tally.fetches))
    (sym later.1) ended in
    let said =
    subst
    (λ (ss : Bor (List Stmt)). OnOk c.answer_all-ran.result (HasGiven (top_among c.args.manifest.tops) (IsSound (MayBeAbsent (statements_of ss.now) (g.S.Shelf.used source.shelf.now) c.args.manifest)) (uses (g.S.Shelf.holds source.shelf.now) (g.S.Shelf.used c.args.shelf.now) (g.S.Shelf.used source.shelf.now)) 0 source.tally.calls 0 source.tally.fetches))
    (sym later.9) here in
    subst
    (λ s. OnOk c.answer_all-ran.result (HasGiven (top_among c.args.manifest.tops) (IsSound (MayBeAbsent (statements_of c.args.statements.now) (g.S.Shelf.used s) c.args.manifest)) (uses (g.S.Shelf.holds s) (g.S.Shelf.used c.args.shelf.now) (g.S.Shelf.used s)) 0 source.tally.calls 0 source.tally.fetches))
    (search rules) said
