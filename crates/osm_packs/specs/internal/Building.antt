-- What the faults of the building of a pack are to the command.
use Rattle.osm_commands.specs.Faults.{fault_of_load}
use Rattle.osm_commands.specs.declared.command_fault.CommandFault.{CommandFault}
use Rattle.osm_commands.specs.declared.command_fault.CommandFault.TheVariants.{Clash, Device, Memory, TooLarge, TooMany}
use Rattle.pack_build.specs.declared.fault.BuildFault.{BuildFault}
use Rattle.pack_build.specs.declared.fault.BuildFault.TheVariants as faults

abbrev pub fault_of_build : BuildFault → CommandFault
fault_of_build (faults.Load load) = fault_of_load load
fault_of_build faults.TooMany = TooMany
fault_of_build faults.Clash = Clash
fault_of_build faults.TooLong = TooLarge
fault_of_build faults.Memory = Memory
fault_of_build faults.Device = Device
fault_of_build faults.NotWritten = Device
