use Rattle.std.proofs.Common.{◌≡◌, Err, Vec, ap, subst, sym, ◌∙◌, ℕ}
use Rattle.std.specs.declared.alloc.Global.{Global}
use Rattle.osm_forms.specs.Forms.{form_text}
use Rattle.osm_forms.specs.declared.form.Form.TheVariants.{Opl}
use Rattle.ql_eval.specs.Work.{WorkOfQuery}
use Rattle.ql_eval.specs.declared.fault.EvalFault.{EvalFault}
use Rattle.ql_eval.specs.declared.fault.EvalFault.TheVariants as faults
use Rattle.ql_syntax.specs.StatementViews.{statements_of}
use Rattle.outside_proof.specs.Budgets.{KeepsBudget}
use Rattle.outside_proof.specs.Faults.{IsFromOutside, IsNamed}
use Rattle.outside_proof.specs.declared.fault.OutsideFault.{OutsideFault}
use Rattle.outside_proof.specs.declared.fault.OutsideFault.TheVariants as told
use Rattle.outside_proof.proofs.FaultLemmas.{err_keeps, from_outside, named, never_too_long, told_work}
use Rattle.outside_proof.proofs.answerer.answer_over.Goals as goal

pub returns-in-Err-clause-only : goal.returns-in-Err-clause-only
returns-in-Err-clause-only g c = λ p is root none.
    subst IsFromOutside (sym c.refusal.ensures) (from_outside _ _ c.in-Err.fault c.reason.result (c.in-Err.ensures.only p is root none))

pub returns-in-Err-clause-named : goal.returns-in-Err-clause-named
returns-in-Err-clause-named g c = subst IsNamed (sym c.refusal.ensures) (named c.in-Err.fault c.reason.result)

pub returns-in-Err-clause-short : goal.returns-in-Err-clause-short
returns-in-Err-clause-short g c = λ same.
    let long : c.refusal.result ≡ told.TooLong = let e = same in cc in
    never_too_long c.in-Err.fault c.reason.result (sym c.refusal.ensures ∙ long)

pub returns-in-Err-clause-limited : goal.returns-in-Err-clause-limited
returns-in-Err-clause-limited g c = λ unlimited same.
    let work : c.refusal.result ≡ told.Work = let e = same in cc in
    c.in-Err.ensures.limited unlimited (ap (λ (f : EvalFault). Err f) (told_work c.in-Err.fault c.reason.result (sym c.refusal.ensures ∙ work)))

pub returns-in-Err-clause-budget : goal.returns-in-Err-clause-budget
returns-in-Err-clause-budget g c = λ p is root none.
    let IsWork = WorkOfQuery (form_text Opl) p (statements_of c.args.query.now) in
    subst (λ (fault : OutsideFault). KeepsBudget {A = Vec ℕ Global} IsWork c.args.most (Err fault)) (sym c.refusal.ensures)
    (err_keeps (Vec ℕ Global) IsWork c.args.most c.in-Err.fault c.reason.result
    (λ (work : c.in-Err.fault ≡ faults.Work). c.in-Err.ensures.too_much p is root none (ap (λ (f : EvalFault). Err f) work)))
