-- What the outcome of an evaluation says of an answer, whatever the shelf may hold.
use Rattle.std.proofs.Common.{List, ℕ, ◌⊎◌, inl, inr, Option, Some, None, Ok, Err}
use Rattle.tree_node.specs.Outcomes.{Cause, Clash, Outcome, ShelfUse}
use Rattle.outside_shelf.specs.declared.refused.Refused.{Refused}
use Rattle.ql_eval.specs.Work as evaluation
use Rattle.ql_eval.specs.declared.fault.EvalFault.{EvalFault}
use Rattle.ql_eval.specs.declared.fault.EvalFault.TheVariants as faults
use Rattle.outside_answer.specs.Answers.{KeepsBudget, fault_told}

-- what was given is as it should be, or a needed node and a different used one clash
pub ok_is : {A F : Type 0} (cause : F → Cause) (Is : A → Type 0) (needed : List ℕ → Type 0) (shelf : ShelfUse) (value : A)
    → Outcome cause Is needed shelf (Ok value) → Is value ⊎ Clash needed shelf.after
ok_is cause Is needed shelf value so = elim so.ends [
  | inl clash ↦ inr clash
  | inr ends ↦ inl ends.0
]

-- an evaluation that keeps a budget keeps it as an answer, whatever the source's reason is
pub err_keeps : (Work : ℕ → Type 0) (most : Option ℕ) (fault : EvalFault) (reason : Option Refused)
    → evaluation.KeepsBudget Work most (Err fault) → KeepsBudget Work most (Err (fault_told fault reason))
err_keeps Work most faults.Work reason keeps = keeps
err_keeps Work most (faults.Walk fault) None keeps = tt
err_keeps Work most (faults.Walk fault) (Some reason) keeps = tt
err_keeps Work most faults.Form None keeps = tt
err_keeps Work most faults.Form (Some reason) keeps = tt
err_keeps Work most faults.Absent None keeps = tt
err_keeps Work most faults.Absent (Some reason) keeps = tt
err_keeps Work most (faults.Manifest fault) None keeps = tt
err_keeps Work most (faults.Manifest fault) (Some reason) keeps = tt
err_keeps Work most faults.Memory None keeps = tt
err_keeps Work most faults.Memory (Some reason) keeps = tt
