-- What a refusal of an evaluation says of the shelf, and what a refused walk and a refused opening make of it.
-- Source: this project.
use Rattle.tree_node.specs.Outcomes.{Cause, NoMemory, OtherCause}
use Rattle.tree_walk.specs.Fetches.{cause_of}
use Rattle.tree_walk.specs.declared.fault.WalkFault.{WalkFault}
use Rattle.tree_walk.specs.declared.fault.WalkFault.TheVariants as walks
use Rattle.ql_eval.specs.Openings.{cause_of_manifest}
use Rattle.ql_eval.specs.declared.fault.EvalFault.{EvalFault}
use Rattle.ql_eval.specs.declared.fault.EvalFault.TheVariants as faults
use Rattle.ql_eval.specs.declared.opening.ManifestFault.{ManifestFault}
use Rattle.ql_eval.specs.declared.opening.ManifestFault.TheVariants as openings

-- what a refused walk makes of an evaluation
abbrev pub fault_of_walk : WalkFault → EvalFault
fault_of_walk walks.Missing = faults.Walk walks.Missing
fault_of_walk (walks.Malformed fault) = faults.Walk (walks.Malformed fault)
fault_of_walk walks.WrongTreeOrLevel = faults.Walk walks.WrongTreeOrLevel
fault_of_walk walks.Disagrees = faults.Walk walks.Disagrees
fault_of_walk walks.Memory = faults.Memory

-- what a manifest that couldn't be read makes of it
abbrev pub fault_of_opening : ManifestFault → EvalFault
fault_of_opening openings.Missing = faults.Manifest openings.Missing
fault_of_opening openings.Malformed = faults.Manifest openings.Malformed
fault_of_opening openings.Memory = faults.Memory

-- what a refusal says of the shelf
abbrev pub cause_of_evaluation : EvalFault → Cause
cause_of_evaluation (faults.Walk fault) = cause_of fault
cause_of_evaluation faults.Form = OtherCause
cause_of_evaluation faults.Absent = OtherCause
cause_of_evaluation (faults.Manifest fault) = cause_of_manifest fault
cause_of_evaluation faults.Memory = NoMemory
-- a refusal for a limit says as little of the shelf
cause_of_evaluation faults.Work = NoMemory
