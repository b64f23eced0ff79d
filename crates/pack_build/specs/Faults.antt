-- What refusals of what is called are to who builds a pack.
-- Source: this project.
use Rattle.pack_assembly.specs.declared.fault.AssemblyFault.{AssemblyFault}
use Rattle.pack_assembly.specs.declared.fault.AssemblyFault.TheVariants as assemblies
use Rattle.entry_sort.specs.declared.entry_fault.EntryFault.{EntryFault}
use Rattle.entry_sort.specs.declared.entry_fault.EntryFault.TheVariants as entries
use Rattle.pack_build.specs.declared.fault.BuildFault.{BuildFault}
use Rattle.pack_build.specs.declared.fault.BuildFault.TheVariants as faults

abbrev pub fault_of_entries : EntryFault → BuildFault
fault_of_entries (entries.Load load) = faults.Load load
fault_of_entries entries.TooMany = faults.TooMany
fault_of_entries entries.Memory = faults.Memory
fault_of_entries entries.Device = faults.Device

abbrev pub fault_of_assembly : AssemblyFault → BuildFault
fault_of_assembly assemblies.Clash = faults.Clash
fault_of_assembly assemblies.TooLong = faults.TooLong
fault_of_assembly assemblies.Memory = faults.Memory
fault_of_assembly assemblies.Device = faults.Device
fault_of_assembly assemblies.NotWritten = faults.NotWritten
