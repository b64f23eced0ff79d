-- What the faults of a query and of an answer are to who asks a mirror.
-- Source: this project.
use Rattle.std.specs.Prelude.{⊤}
use Rattle.osm_gate.specs.declared.mirror_fault.MirrorFault.{MirrorFault}
use Rattle.osm_gate.specs.declared.mirror_fault.MirrorFault.TheVariants.{Device, Memory, Query, Work}
use Rattle.outside_proof.specs.declared.fault.OutsideFault.{OutsideFault}
use Rattle.outside_proof.specs.declared.fault.OutsideFault.TheVariants as answers
use Rattle.ql_syntax.specs.declared.cause.QlCause.{QlCause}
use Rattle.ql_syntax.specs.declared.cause.QlCause.TheVariants as causes
use Rattle.ql_syntax.specs.declared.fault.QlFault.{QlFault}

-- ---- queries that don't read

-- out of memory stays out of memory
abbrev pub fault_of_cause : QlFault → QlCause → MirrorFault
fault_of_cause fault causes.Memory = Memory
fault_of_cause fault _ = Query fault

abbrev pub fault_of_query : QlFault → MirrorFault
fault_of_query fault = fault_of_cause fault fault.cause

-- ---- answers that nodes don't give

-- too much work and out of memory stay so, and nodes that aren't given, or are wrong, are the device's fault
abbrev pub fault_of_answer : OutsideFault → MirrorFault
fault_of_answer answers.Work = Work
fault_of_answer answers.Memory = Memory
fault_of_answer (answers.Source reason) = Device
fault_of_answer (answers.Evaluation fault) = Device
fault_of_answer answers.TooLong = Device

-- ---- what a fault says

-- it isn't too much work, nor of the device
abbrev pub IsOfQuery : MirrorFault → Type 0
IsOfQuery (Query fault) = ⊤
IsOfQuery Work = ⊥
IsOfQuery Memory = ⊤
IsOfQuery Device = ⊥
