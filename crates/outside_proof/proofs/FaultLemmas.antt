-- What a refused evaluation is told as.
use Rattle.std.proofs.Common.{◌≡◌, ◌≢◌, inl, inr, ℕ, List, Option, Some, None, Err, refl, subst}
use Rattle.tree_node.specs.Outcomes.{Cause, NoMemory, NodeMissing, OtherCause, RefusedFor}
use Rattle.outside_shelf.specs.declared.refused.Refused.{Refused}
use Rattle.outside_shelf.specs.declared.refused.Refused.TheVariants as reasons
use Rattle.ql_eval.specs.Faults.{cause_of_evaluation}
use Rattle.ql_eval.specs.declared.fault.EvalFault.{EvalFault}
use Rattle.ql_eval.specs.declared.fault.EvalFault.TheVariants as faults
use Rattle.osm_prove.specs.Budgets.{IsTooMuch}
use Rattle.outside_proof.specs.Budgets.{KeepsBudget}
use Rattle.outside_proof.specs.Faults.{IsFromOutside, IsNamed, fault_told, source_told, told_by_cause}
use Rattle.outside_proof.specs.declared.fault.OutsideFault.{OutsideFault}
use Rattle.outside_proof.specs.declared.fault.OutsideFault.TheVariants.{Evaluation, Memory, Source, TooLong, Work}

absent : reasons.Absent ≢ reasons.Memory
absent is = cc

other : reasons.Other ≢ reasons.Memory
other is = cc

device : reasons.Device ≢ reasons.Memory
device is = cc

too_many : reasons.TooMany ≢ reasons.Memory
too_many is = cc

-- ---- what is so of each fault that may be told, is so of the one that is

module _ (P : OutsideFault → Type 0) (memory : P Memory) (source : (reason : Refused) → reason ≢ reasons.Memory → P (Source reason)) where
  of_source : (reason : Option Refused) → P (source_told reason)
  of_source None = source reasons.Absent absent
  of_source (Some reasons.Absent) = source reasons.Absent absent
  of_source (Some reasons.Other) = source reasons.Other other
  of_source (Some reasons.Device) = source reasons.Device device
  of_source (Some reasons.Memory) = memory
  of_source (Some reasons.TooMany) = source reasons.TooMany too_many

  of_cause : (fault : EvalFault) (reason : Option Refused) (cause : Cause) → (cause ≡ OtherCause → P (Evaluation fault)) → P (told_by_cause fault reason cause)
  of_cause fault reason NoMemory nodes = memory
  of_cause fault reason NodeMissing nodes = of_source reason
  of_cause fault reason OtherCause nodes = nodes refl

  -- it is too much work, memory, a source's reason, or a fault of the nodes
  of_told : (fault : EvalFault) (reason : Option Refused) → (fault ≡ faults.Work → P Work) → (cause_of_evaluation fault ≡ OtherCause → P (Evaluation fault)) → P (fault_told fault reason)
  of_told faults.Work reason work nodes = work refl
  of_told (faults.Walk fault) reason work nodes = of_cause (faults.Walk fault) reason (cause_of_evaluation (faults.Walk fault)) nodes
  of_told faults.Form reason work nodes = nodes refl
  of_told faults.Absent reason work nodes = nodes refl
  of_told (faults.Manifest fault) reason work nodes = of_cause (faults.Manifest fault) reason (cause_of_evaluation (faults.Manifest fault)) nodes
  of_told faults.Memory reason work nodes = memory

-- ---- so

-- it has the right name
pub named : (fault : EvalFault) (reason : Option Refused) → IsNamed (fault_told fault reason)
named fault reason = of_told IsNamed tt (λ r apart. apart) fault reason (λ work. tt) (λ nodes. nodes)

-- nothing is too long for a proof
pub never_too_long : (fault : EvalFault) (reason : Option Refused) → fault_told fault reason ≢ TooLong
never_too_long fault reason = of_told (λ (told : OutsideFault). told ≢ TooLong) (λ is. cc) (λ r apart is. cc) fault reason (λ work is. cc) (λ nodes is. cc)

-- an evaluation that was refused for memory or for a node that isn't held is refused from outside
pub from_outside : (needed held : List ℕ → Type 0) (fault : EvalFault) (reason : Option Refused) → RefusedFor needed held (cause_of_evaluation fault) → IsFromOutside (fault_told fault reason)
from_outside needed held fault reason refused =
    of_told IsFromOutside (inl refl) (λ r apart. inr (inr (r, refl, apart))) fault reason (λ work. inr (inl refl))
    (λ nodes. absurd (subst (RefusedFor needed held) nodes refused))

-- too much work is told of it alone
pub told_work : (fault : EvalFault) (reason : Option Refused) → fault_told fault reason ≡ Work → fault ≡ faults.Work
told_work fault reason =
    of_told (λ (told : OutsideFault). told ≡ Work → fault ≡ faults.Work) (λ is. cc) (λ r apart is. cc) fault reason (λ work is. work) (λ nodes is. cc)

-- a refusal keeps the budget where too much work is told rightly
pub err_keeps : (A : Type 0) (IsWork : ℕ → Type 0) (most : Option ℕ) (fault : EvalFault) (reason : Option Refused)
    → (fault ≡ faults.Work → IsTooMuch IsWork most) → KeepsBudget {A = A} IsWork most (Err (fault_told fault reason))
err_keeps A IsWork most fault reason too_much =
    of_told (λ (told : OutsideFault). KeepsBudget {A = A} IsWork most (Err told)) tt (λ r apart. tt) fault reason too_much (λ nodes. tt)
