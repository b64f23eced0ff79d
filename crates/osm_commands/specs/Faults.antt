-- The faults of commands.
-- Source: this project.
use Rattle.opl_codec.specs.declared.cause.OplCause.{OplCause}
use Rattle.opl_codec.specs.declared.cause.OplCause.TheVariants as causes
use Rattle.opl_codec.specs.declared.fault.LoadFault.{LoadFault}
use Rattle.osm_prove.specs.declared.prove_fault.ProveFault.{ProveFault}
use Rattle.osm_prove.specs.declared.prove_fault.ProveFault.TheVariants as refusals
use Rattle.osm_check.specs.declared.check_fault.CheckFault.{CheckFault}
use Rattle.osm_check.specs.declared.check_fault.CheckFault.TheVariants as checks
use Rattle.osm_index.specs.declared.fault.IndexFault.{IndexFault}
use Rattle.osm_index.specs.declared.fault.IndexFault.TheVariants as indexes
use Rattle.osm_index.specs.declared.apply_fault.ApplyFault.{ApplyFault}
use Rattle.osm_index.specs.declared.apply_fault.ApplyFault.TheVariants as applying
use Rattle.osm_commands.specs.declared.command_fault.CommandFault.{CommandFault}
use Rattle.osm_commands.specs.declared.command_fault.CommandFault.TheVariants.{Opl, Query, Endless, TooLarge, Work, Clash, TooMany, Apply, Memory, Device}
use Rattle.osm_commands.specs.declared.status.Status.{Status}
use Rattle.osm_commands.specs.declared.status.Status.TheVariants.{Refused, Failed}

-- how the program ends after the fault
abbrev pub status_of : CommandFault → Status
status_of (Opl load) = Refused
status_of (Query refused) = Refused
status_of Endless = Refused
status_of TooLarge = Failed
status_of Work = Failed
status_of Clash = Refused
status_of TooMany = Refused
status_of (Apply refused) = Refused
status_of Memory = Failed
status_of Device = Failed

-- what an input that isn't read is to a command: a failed reader is a device
abbrev pub fault_of_cause : LoadFault → OplCause → CommandFault
fault_of_cause load causes.ReaderFailed = Device
fault_of_cause load causes.Memory = Memory
fault_of_cause load _ = Opl load

abbrev pub fault_of_load : LoadFault → CommandFault
fault_of_load load = fault_of_cause load load.fault.cause

-- what a refusal of an answer is to a command
abbrev pub fault_of_prove : ProveFault → CommandFault
fault_of_prove (refusals.Query refused) = Query refused
fault_of_prove refusals.Memory = Memory
fault_of_prove refusals.Work = Work

-- what a want of a verdict is to a command
abbrev pub fault_of_check : CheckFault → CommandFault
fault_of_check checks.Memory = Memory
fault_of_check checks.Work = Work

-- what a set without trees is to a command
abbrev pub fault_of_index : IndexFault → CommandFault
fault_of_index indexes.Clash = Clash
fault_of_index indexes.TooMany = TooMany
fault_of_index indexes.Memory = Memory

-- what changes that can't be made are to a command
abbrev pub fault_of_apply : ApplyFault → CommandFault
fault_of_apply applying.Memory = Memory
fault_of_apply refused = Apply refused
