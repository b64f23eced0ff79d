use Rattle.std.proofs.Common.{◌≡◌, [], List, ℕ, Err, subst, sym}
use Rattle.osm_forms.specs.Forms.{form_text}
use Rattle.osm_forms.specs.declared.form.Form.TheVariants.{Opl}
use Rattle.ql_syntax.specs.StatementViews.{statements_of}
use Rattle.ql_meaning.specs.Meanings.{Means}
use Rattle.ql_eval.specs.Work.{KeepsBudget, WorkOfQuery}
use Rattle.ql_eval.specs.declared.fault.EvalFault.{EvalFault}
use Rattle.ql_eval.specs.declared.fault.EvalFault.TheVariants as faults
use Rattle.outside_proof.proofs.BudgetLemmas.{within}
use Rattle.outside_proof.proofs.Evaluating.{ends_by}
use Rattle.outside_proof.proofs.evaluation.evaluate_over.Goals as goal

pub returns-in-Ok-clause-means : goal.returns-in-Ok-clause-means
returns-in-Ok-clause-means g c = λ p is root none.
    let st = statements_of c.args.query.now in
    let ends = ends_by p st _ _ _ _ none (c.in-Ok.ensures.answer p is root) in
    subst (λ (text : List ℕ). Means p.objects st text) (sym {A = List ℕ} (ends.0.2.all [] c.new-answer.ensures.items)) ends.0.1

pub returns-in-Ok-clause-needed : goal.returns-in-Ok-clause-needed
returns-in-Ok-clause-needed g c = λ p is root none.
    (ends_by p (statements_of c.args.query.now) _ _ _ _ none (c.in-Ok.ensures.answer p is root)).1

pub returns-in-Ok-clause-within : goal.returns-in-Ok-clause-within
returns-in-Ok-clause-within g c = λ p is root none.
    within (WorkOfQuery (form_text Opl) p (statements_of c.args.query.now)) c.args.most _ (c.in-Ok.ensures.budget p is root none)

pub returns-in-Err-clause-only : goal.returns-in-Err-clause-only
returns-in-Err-clause-only g c = λ p is root none.
    ends_by p (statements_of c.args.query.now) _ _ _ _ none (c.in-Err.ensures.answer p is root)

pub returns-in-Err-clause-too_much : goal.returns-in-Err-clause-too_much
returns-in-Err-clause-too_much g c = λ p is root none same.
    let work : c.in-Err.fault ≡ faults.Work = let e = same in cc in
    subst (λ (fault : EvalFault). KeepsBudget (WorkOfQuery (form_text Opl) p (statements_of c.args.query.now)) c.args.most (Err fault)) work
    (c.in-Err.ensures.budget p is root none)
