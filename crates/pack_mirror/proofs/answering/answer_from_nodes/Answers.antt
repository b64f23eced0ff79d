use Rattle.std.proofs.Common.{◌≡◌, ℕ, Err, ap, subst, sym, ◌∙◌}
use Rattle.std.specs.declared.alloc.Global.{Global}
use Rattle.std.specs.declared.vec.Vec.{Vec}
use Rattle.std.proofs.lemmas.Result.{err_from_is_err_and}
use Rattle.osm_forms.specs.Forms.{form_text}
use Rattle.osm_forms.specs.declared.form.Form.TheVariants.{Opl}
use Rattle.osm_gate.specs.Mirrors.{KeepsBudget}
use Rattle.osm_gate.specs.declared.mirror_fault.MirrorFault.{MirrorFault}
use Rattle.osm_gate.specs.declared.mirror_fault.MirrorFault.TheVariants.{Query}
use Rattle.osm_prove.specs.Budgets.{IsWorkOf}
use Rattle.osm_prove.specs.declared.answered.Answered.{Answered}
use Rattle.ql_syntax.specs.StatementViews.{statements_of}
use Rattle.pack_mirror.proofs.Refusals.{budget_told, no_fault, no_query, passed_on, query_within, work_told}
use Rattle.pack_mirror.proofs.answering.answer_from_nodes.Goals as goal

pub returns-in_err-parsed-clause-refused : goal.returns-in_err-parsed-clause-refused
returns-in_err-parsed-clause-refused g c =
    let told = err_from_is_err_and c.from_residual.result c.from_residual.ensures.1 in
    λ fault has. passed_on c.from_residual.result told.0 c.in_err-parsed.field-0.0 fault told.1 told.2 (c.in_err-parsed.ensures.refused fault has)

pub returns-in-Ok-clause-refused : goal.returns-in-Ok-clause-refused
returns-in-Ok-clause-refused g c = λ fault has. absurd (no_fault _ fault (c.in_ok-parsed.ensures.refused fault has))

pub returns-in-Ok-clause-budget : goal.returns-in-Ok-clause-budget
returns-in-Ok-clause-budget g c = λ p stands.
    query_within (form_text Opl) p c.args.query.now (statements_of c.in_ok-parsed.parsed) c.in_ok-parsed.ensures.read c.args.most (c.in-Ok.ensures.budget p stands)

pub returns-clause-refused : goal.returns-clause-refused
returns-clause-refused g c = λ fault has. absurd (no_fault _ fault (c.in_ok-parsed.ensures.refused fault has))

pub returns-clause-told : goal.returns-clause-told
returns-clause-told g c = λ fault is.
    let one : c.answer_refused.result ≡ Query fault = let e = is in cc in
    absurd (no_query c.in-Err.fault fault (sym c.answer_refused.ensures ∙ one))

pub returns-clause-budget : goal.returns-clause-budget
returns-clause-budget g c = λ p stands.
    let IsWork = IsWorkOf (form_text Opl) p c.args.query.now in
    let kept = budget_told (form_text Opl) p c.args.query.now (statements_of c.in_ok-parsed.parsed) c.in_ok-parsed.ensures.read (Vec ℕ Global) Answered c.args.most c.in-Err.fault (c.in-Err.ensures.budget p stands) in
    subst (λ (fault : MirrorFault). KeepsBudget {A = Answered} IsWork c.args.most (Err fault)) (sym c.answer_refused.ensures) kept
