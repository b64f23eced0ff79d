use Rattle.std.proofs.Common.{Err, subst, sym}
use Rattle.osm_forms.specs.Forms.{form_text}
use Rattle.ql_eval.specs.Work.{WorkOfQuery}
use Rattle.ql_syntax.specs.StatementViews.{statements_of}
use Rattle.outside_answer.specs.Answers.{KeepsBudget}
use Rattle.outside_answer.specs.declared.fault.AnswerFault.{AnswerFault}
use Rattle.outside_answer.proofs.OkLemmas.{err_keeps, ok_is}
use Rattle.outside_answer.proofs.answer.answer_from.Goals as goal

pub returns-in-Ok-clause-right : goal.returns-in-Ok-clause-right
returns-in-Ok-clause-right g c = λ p is root. ok_is _ _ _ _ _ (c.in-Ok.ensures.answer p is root)

pub returns-in-Ok-clause-budget : goal.returns-in-Ok-clause-budget
returns-in-Ok-clause-budget g c = λ p is root none. c.in-Ok.ensures.budget p is root none

pub returns-in-Err-clause-budget : goal.returns-in-Err-clause-budget
returns-in-Err-clause-budget g c = λ p is root none.
    let keeps = c.in-Err.ensures.budget p is root none in
    let work = WorkOfQuery (form_text c.args.form) p (statements_of c.args.query.now) in
    subst (λ (fault : AnswerFault). KeepsBudget work c.args.most (Err fault)) (sym c.refusal.ensures)
    (err_keeps work c.args.most c.in-Err.fault c.reason.result keeps)
