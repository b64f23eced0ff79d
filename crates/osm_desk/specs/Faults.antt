-- The refusal of changes, as a desk tells it.
-- Source: this project.
use Rattle.osm_index.specs.declared.apply_fault.ApplyFault.{ApplyFault}
use Rattle.osm_index.specs.declared.apply_fault.ApplyFault.TheVariants as faults
use Rattle.osm_desk.specs.declared.desk_fault.DeskFault.{DeskFault}
use Rattle.osm_desk.specs.declared.desk_fault.DeskFault.TheVariants.{Memory, Refused}

-- memory that runs out is no matter of the changes
abbrev pub fault_of : ApplyFault → DeskFault
fault_of faults.LastSequence = Refused faults.LastSequence
fault_of (faults.ChangedTwice r) = Refused (faults.ChangedTwice r)
fault_of (faults.NotThere r) = Refused (faults.NotThere r)
fault_of faults.TooMany = Refused faults.TooMany
fault_of faults.Clash = Refused faults.Clash
fault_of faults.Memory = Memory
