-- Why there is no answer: what a refused evaluation makes of it.
-- Source: this project.
use Rattle.std.specs.Prelude.{◌≡◌, ◌≢◌, ◌⊎◌, Option, Some, None, ⊤}
use Rattle.tree_node.specs.Outcomes.{Cause, NoMemory, NodeMissing, OtherCause}
use Rattle.outside_shelf.specs.declared.refused.Refused.{Refused}
use Rattle.outside_shelf.specs.declared.refused.Refused.TheVariants as reasons
use Rattle.ql_eval.specs.Faults.{cause_of_evaluation}
use Rattle.ql_eval.specs.declared.fault.EvalFault.{EvalFault}
use Rattle.ql_eval.specs.declared.fault.EvalFault.TheVariants as faults
use Rattle.outside_proof.specs.declared.fault.OutsideFault.{OutsideFault}
use Rattle.outside_proof.specs.declared.fault.OutsideFault.TheVariants.{Evaluation, Memory, Source, TooLong, Work}

-- a node that wasn't given is told by the shelf's reason; where the shelf tells none, it holds no such node
abbrev pub source_told : Option Refused → OutsideFault
source_told None = Source reasons.Absent
source_told (Some reasons.Absent) = Source reasons.Absent
source_told (Some reasons.Other) = Source reasons.Other
source_told (Some reasons.Device) = Source reasons.Device
source_told (Some reasons.Memory) = Memory
source_told (Some reasons.TooMany) = Source reasons.TooMany

-- out of memory stays so, a node that wasn't given is told by its reason, and what else is wrong is the nodes' own fault
abbrev pub told_by_cause : EvalFault → Option Refused → Cause → OutsideFault
told_by_cause fault reason NoMemory = Memory
told_by_cause fault reason NodeMissing = source_told reason
told_by_cause fault reason OtherCause = Evaluation fault

-- the same of any fault but too much work
abbrev pub fault_told : EvalFault → Option Refused → OutsideFault
fault_told faults.Work reason = Work
fault_told (faults.Walk fault) reason = told_by_cause (faults.Walk fault) reason (cause_of_evaluation (faults.Walk fault))
fault_told faults.Form reason = Evaluation faults.Form
fault_told faults.Absent reason = Evaluation faults.Absent
fault_told (faults.Manifest fault) reason = told_by_cause (faults.Manifest fault) reason (cause_of_evaluation (faults.Manifest fault))
fault_told faults.Memory reason = Memory

-- ---- what a fault says

-- nothing but memory, the budget or the source is the reason
abbrev pub IsFromOutside : OutsideFault → Type 0
IsFromOutside fault = (fault ≡ Memory) ⊎ ((fault ≡ Work) ⊎ ((reason : Refused) × (fault ≡ Source reason) × (reason ≢ reasons.Memory)))

-- a source's reason isn't memory, and a fault of the nodes is neither memory nor a node that wasn't given
abbrev pub IsNamed : OutsideFault → Type 0
IsNamed Work = ⊤
IsNamed Memory = ⊤
IsNamed (Source reason) = reason ≢ reasons.Memory
IsNamed (Evaluation fault) = cause_of_evaluation fault ≡ OtherCause
IsNamed TooLong = ⊤
