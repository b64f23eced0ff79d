-- What a budget makes of an answer, and what is told where there is none.
-- Source: this project.
use Rattle.std.specs.Prelude.{◌≡◌, ◌-◌, ◌^◌, ℕ, min, Option, Some, None, Result, Ok, Err, ⊤}
use Rattle.outside_shelf.specs.declared.refused.Refused.{Refused}
use Rattle.ql_eval.specs.Work.{Passes}
use Rattle.ql_eval.specs.declared.evaluation.Report.{Report}
use Rattle.ql_eval.specs.declared.fault.EvalFault.{EvalFault}
use Rattle.ql_eval.specs.declared.fault.EvalFault.TheVariants as faults
use Rattle.outside_answer.specs.declared.fault.AnswerFault.{AnswerFault}
use Rattle.outside_answer.specs.declared.fault.AnswerFault.TheVariants.{Evaluation, Source}

-- an answer is given only where the work is within the budget, and reported, at most the greatest u64; and it is refused for
-- the budget only where its work passes it
abbrev pub KeepsBudget : (ℕ → Type 0) → Option ℕ → Result Report AnswerFault → Type 0
KeepsBudget Work most (Ok report) = (n : ℕ) × Work n × (¬ Passes most n) × (report.work ≡ min n (2 ^ 64 - 1))
KeepsBudget Work most (Err (Evaluation faults.Work)) = (n : ℕ) → Work n → Passes most n
KeepsBudget Work most (Err (Evaluation (faults.Walk fault))) = ⊤
KeepsBudget Work most (Err (Evaluation faults.Form)) = ⊤
KeepsBudget Work most (Err (Evaluation faults.Absent)) = ⊤
KeepsBudget Work most (Err (Evaluation (faults.Manifest fault))) = ⊤
KeepsBudget Work most (Err (Evaluation faults.Memory)) = ⊤
KeepsBudget Work most (Err (Source reason)) = ⊤

-- where there is a reason of the source it is told, and else the fault of the evaluation
abbrev pub told_beside : EvalFault → Option Refused → AnswerFault
told_beside fault (Some reason) = Source reason
told_beside fault None = Evaluation fault

-- the same of any fault but too much work, which is told in any case
abbrev pub fault_told : EvalFault → Option Refused → AnswerFault
fault_told faults.Work reason = Evaluation faults.Work
fault_told (faults.Walk fault) reason = told_beside (faults.Walk fault) reason
fault_told faults.Form reason = told_beside faults.Form reason
fault_told faults.Absent reason = told_beside faults.Absent reason
fault_told (faults.Manifest fault) reason = told_beside (faults.Manifest fault) reason
fault_told faults.Memory reason = told_beside faults.Memory reason
