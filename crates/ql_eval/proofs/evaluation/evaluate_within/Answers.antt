use Rattle.std.proofs.Common.{◌≡◌, List, Ok, Err, inl, inr, refl, subst, sym}
use Rattle.tree_node.proofs.shared.OutcomeLaws.{honest, outcome_stops, outcome_then, outcome_then_stops}
use Rattle.ql_syntax.specs.LawfulQueries.{IsQuery}
use Rattle.ql_syntax.specs.StatementViews.{statements_of}
use Rattle.ql_syntax.specs.declared.statement.Stmt.{Stmt}
use Rattle.osm_forms.specs.Forms.{form_text}
use Rattle.ql_meaning.specs.Meanings.{Means_by}
use Rattle.ref_sets.specs.NamedSets.{nothing_named}
use Rattle.ql_eval.specs.Asks.{AskedByAll}
use Rattle.osm_keys.specs.Manifests.{top_among}
use Rattle.tree_walk.specs.WalksGiven.{HasGiven}
use Rattle.ql_eval.specs.Absences.{IsSound, MayBeAbsent}
use Rattle.ql_eval.specs.Openings.{nodes_after}
use Rattle.tree_walk.proofs.shared.WalksGivenLaws.{given_from, given_walked}
use Rattle.ql_eval.specs.Questions.{NeededBy}
use Rattle.ql_eval.specs.TrueFaults.{IsTrueFault}
use Rattle.ql_eval.proofs.Openings.{opening_cause}
use Rattle.ql_eval.proofs.StepLemmas.{refused_as}
use Rattle.ql_eval.proofs.ToldLemmas.{opening_told, told_under}
use Rattle.ql_eval.specs.Work.{KeepsBudget, WorkOfQuery}
use Rattle.ql_eval.specs.declared.fault.EvalFault.{EvalFault}
use Rattle.ql_eval.proofs.MeterLemmas.{found_as, kept_other, opening_never, refused_other}
use Rattle.ql_eval.proofs.evaluation.evaluate_within.Goals as goal

pub returns-in-Ok-clause-answer : goal.returns-in-Ok-clause-answer
returns-in-Ok-clause-answer g c = λ p is root.
    let same = c.stmts-statements.ensures.statements in
    outcome_then c.run_within.ensures.grows (λ x needs. inl needs)
    (λ so x needs. inr (subst (λ (ss : List Stmt). NeededBy p (AskedByAll p (statements_of ss) nothing_named) x) same needs))
    (λ so one x needs. elim needs [ inl top ↦ inl top | inr asked ↦ inr (subst (λ (ss : List Stmt). NeededBy p (AskedByAll p (statements_of ss) nothing_named) x) (sym same) asked) ])
    (λ so one. (one.0, subst (λ (ss : List Stmt). Means_by (form_text c.args.form) p.objects (statements_of ss) one.0) same one.1, one.2))
    (c.in_ok-manifest.ensures.answer p root) (λ so. c.in-Ok.ensures.answer p is so (subst (λ (ss : List Stmt). IsQuery (statements_of ss)) (sym c.stmts-statements.ensures.statements) c.stmts-statements.ensures.kept))

pub returns-in-Err-clause-answer : goal.returns-in-Err-clause-answer
returns-in-Err-clause-answer g c = λ p is root.
    outcome_then_stops c.in-Err.fault refl refl c.run_within.ensures.grows (λ x needs. inl needs)
    (λ so x needs. inr (subst (λ (ss : List Stmt). NeededBy p (AskedByAll p (statements_of ss) nothing_named) x) c.stmts-statements.ensures.statements needs))
    (c.in_ok-manifest.ensures.answer p root) (λ so. c.in-Err.ensures.answer p is so (subst (λ (ss : List Stmt). IsQuery (statements_of ss)) (sym c.stmts-statements.ensures.statements) c.stmts-statements.ensures.kept))

pub returns-in-Ok-clause-served : goal.returns-in-Ok-clause-served
returns-in-Ok-clause-served g c = λ p is root all.
    honest c.run_within.ensures.unlike all c.run_within.ensures.held (returns-in-Ok-clause-answer g c p is root)

pub returns-in-Err-clause-served : goal.returns-in-Err-clause-served
returns-in-Err-clause-served g c = λ p is root all.
    honest c.run_within.ensures.unlike all c.run_within.ensures.held (returns-in-Err-clause-answer g c p is root)

pub returns-in-Ok-clause-walks : goal.returns-in-Ok-clause-walks
returns-in-Ok-clause-walks g c = (
  c.in_ok-manifest.manifest,
  (c.run_within.ensures.stays _).1 c.in_ok-manifest.ensures.held.0,
  c.in_ok-manifest.ensures.held.1,
  subst
      (λ (ss : List Stmt). HasGiven (top_among c.in_ok-manifest.manifest.tops) (IsSound (MayBeAbsent (statements_of ss) (g.S.Shelf.used c.run_within.new.shelf) c.in_ok-manifest.manifest)) (nodes_after c.in_ok-manifest.manifest g.S.Shelf.holds g.S.Shelf.used c.args.shelf.now c.run_within.new.shelf) 0 c.in-Ok.report.ranges 0 c.in-Ok.report.fetched)
      c.stmts-statements.ensures.statements
      (given_from (top_among c.in_ok-manifest.manifest.tops) _ _ _ _ _ _ _ _ _ _ c.in_ok-manifest.ensures.grown c.in-Ok.ensures.walked),
)

pub returns-in-Ok-clause-report : goal.returns-in-Ok-clause-report
returns-in-Ok-clause-report g c = (
  c.in_ok-manifest.manifest,
  (c.run_within.ensures.stays _).1 c.in_ok-manifest.ensures.held.0,
  c.in_ok-manifest.ensures.held.1,
  given_walked (top_among c.in_ok-manifest.manifest.tops) _ _ _ _ _ _ _ _
      (given_from (top_among c.in_ok-manifest.manifest.tops) _ _ _ _ _ _ _ _ _ _ c.in_ok-manifest.ensures.grown c.in-Ok.ensures.walked),
)

pub returns-in_err-manifest-clause-answer : goal.returns-in_err-manifest-clause-answer
returns-in_err-manifest-clause-answer g c = λ p is root.
    outcome_stops _ c.from_residual.ensures.1 (opening_cause c.in_err-manifest.field-0.0) (λ x needs. inl needs) (c.in_err-manifest.ensures.answer p root)

pub returns-in_err-manifest-clause-told : goal.returns-in_err-manifest-clause-told
returns-in_err-manifest-clause-told g c =
    refused_as (IsTrueFault (g.S.Shelf.holds c.open_manifest.new.shelf) (g.S.Shelf.used c.open_manifest.new.shelf) c.args.root.now.0) c.from_residual.result _ c.from_residual.ensures.1
    (opening_told _ _ _ c.open_manifest.result _ c.in_err-manifest.was c.open_manifest.ensures.missing c.open_manifest.ensures.malformed)

pub returns-in-Err-clause-told : goal.returns-in-Err-clause-told
returns-in-Err-clause-told g c = elim c.in-Err.ensures.told [
  | inl over ↦ subst (λ (fault : EvalFault). IsTrueFault (g.S.Shelf.holds c.run_within.new.shelf) (g.S.Shelf.used c.run_within.new.shelf) c.args.root.now.0 fault) (sym over) tt
  | inr told ↦ told_under _ _ _ c.in_ok-manifest.manifest ((c.run_within.ensures.stays _).1 c.in_ok-manifest.ensures.held.0) c.in_ok-manifest.ensures.held.1 c.in-Err.fault told
]

pub returns-in_err-manifest-clause-limited : goal.returns-in_err-manifest-clause-limited
returns-in_err-manifest-clause-limited g c = λ none same. refused_other (λ n. n ≡ n) c.args.most c.from_residual.result _ c.from_residual.ensures.1 (opening_never c.in_err-manifest.field-0.0) same

pub returns-in_err-manifest-clause-budget : goal.returns-in_err-manifest-clause-budget
returns-in_err-manifest-clause-budget g c = λ p is root clear. kept_other (WorkOfQuery (form_text c.args.form) p (statements_of c.args.query.now)) c.args.most c.from_residual.result _ c.from_residual.ensures.1 (opening_never c.in_err-manifest.field-0.0)

pub returns-in-Ok-clause-budget : goal.returns-in-Ok-clause-budget
returns-in-Ok-clause-budget g c = λ p is root clear.
    let so = found_as (λ x same. inl same) (λ x used. c.run_within.ensures.grows x used) clear (c.in_ok-manifest.ensures.answer p root) in
    subst (λ (ss : List Stmt). KeepsBudget (WorkOfQuery (form_text c.args.form) p (statements_of ss)) c.args.most (Ok c.in-Ok.report)) c.stmts-statements.ensures.statements
    (c.in-Ok.ensures.budget p is so (subst (λ (ss : List Stmt). IsQuery (statements_of ss)) (sym c.stmts-statements.ensures.statements) c.stmts-statements.ensures.kept) clear)

pub returns-in-Err-clause-budget : goal.returns-in-Err-clause-budget
returns-in-Err-clause-budget g c = λ p is root clear.
    let so = found_as (λ x same. inl same) (λ x used. c.run_within.ensures.grows x used) clear (c.in_ok-manifest.ensures.answer p root) in
    subst (λ (ss : List Stmt). KeepsBudget (WorkOfQuery (form_text c.args.form) p (statements_of ss)) c.args.most (Err c.in-Err.fault)) c.stmts-statements.ensures.statements
    (c.in-Err.ensures.budget p is so (subst (λ (ss : List Stmt). IsQuery (statements_of ss)) (sym c.stmts-statements.ensures.statements) c.stmts-statements.ensures.kept) clear)

pub returns-in_err-manifest-clause-whole : goal.returns-in_err-manifest-clause-whole
returns-in_err-manifest-clause-whole g c = λ p is root all. kept_other (WorkOfQuery (form_text c.args.form) p (statements_of c.args.query.now)) c.args.most c.from_residual.result _ c.from_residual.ensures.1 (opening_never c.in_err-manifest.field-0.0)

pub returns-in-Ok-clause-whole : goal.returns-in-Ok-clause-whole
returns-in-Ok-clause-whole g c = λ p is root all.
    returns-in-Ok-clause-budget g c p is root (λ (a, b, is_a, is_b, differ, same). differ (c.run_within.ensures.unlike a b (all a is_a) (c.run_within.ensures.held b is_b) same))

pub returns-in-Err-clause-whole : goal.returns-in-Err-clause-whole
returns-in-Err-clause-whole g c = λ p is root all.
    returns-in-Err-clause-budget g c p is root (λ (a, b, is_a, is_b, differ, same). differ (c.run_within.ensures.unlike a b (all a is_a) (c.run_within.ensures.held b is_b) same))
