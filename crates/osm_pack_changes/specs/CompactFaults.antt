-- What refusals of the calls below are to who compacts a head's files, and how the program ends.
-- Source: this project.
use Rattle.osm_commands.specs.declared.command_fault.CommandFault.{CommandFault}
use Rattle.osm_commands.specs.declared.command_fault.CommandFault.TheVariants as commands
use Rattle.osm_commands.specs.declared.status.Status.{Status}
use Rattle.osm_commands.specs.declared.status.Status.TheVariants.{Failed, Refused as Told}
use Rattle.outside_shelf.specs.declared.refused.Refused.{Refused}
use Rattle.outside_shelf.specs.declared.refused.Refused.TheVariants as reasons
use Rattle.pack_compact.specs.declared.fault.CompactFault.{CompactFault}
use Rattle.pack_compact.specs.declared.fault.CompactFault.TheVariants as faults
use Rattle.osm_pack_changes.specs.declared.not_compacted.NotCompacted.{NotCompacted}
use Rattle.osm_pack_changes.specs.declared.not_compacted.NotCompacted.TheVariants.{Device, Files, Memory}

abbrev pub fault_of_reason : Refused → NotCompacted
fault_of_reason reasons.Memory = Memory
fault_of_reason reasons.Device = Device
fault_of_reason reason = Files (faults.Source reason)

abbrev pub fault_of_compact : CompactFault → NotCompacted
fault_of_compact (faults.Source reason) = fault_of_reason reason
fault_of_compact faults.Memory = Memory
fault_of_compact faults.Device = Device
fault_of_compact faults.NotWritten = Device
fault_of_compact fault = Files fault

abbrev pub fault_of_command : CommandFault → NotCompacted
fault_of_command commands.Memory = Memory
fault_of_command fault = Device

abbrev pub status_of_files : CompactFault → Status
status_of_files faults.TooLong = Failed
status_of_files fault = Told

abbrev pub status_of : NotCompacted → Status
status_of (Files fault) = status_of_files fault
status_of Memory = Failed
status_of Device = Failed
