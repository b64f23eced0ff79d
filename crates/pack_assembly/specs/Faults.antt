-- What refusals of what is called are to who assembles a pack.
-- Source: this project.
use Rattle.external_sort.specs.declared.fault.SortFault.{SortFault}
use Rattle.external_sort.specs.declared.fault.SortFault.TheVariants as sorts
use Rattle.tree_stream.specs.declared.levels_read.ReadBackFault.{ReadBackFault}
use Rattle.tree_stream.specs.declared.levels_read.ReadBackFault.TheVariants as reads
use Rattle.pack_assembly.specs.declared.fault.AssemblyFault.{AssemblyFault}
use Rattle.pack_assembly.specs.declared.fault.AssemblyFault.TheVariants as faults
use Rattle.pack_assembly.specs.declared.refusal.Refusal.{Refusal}
use Rattle.pack_assembly.specs.declared.refusal.Refusal.TheVariants as refusals
use Rattle.pack_assembly.specs.declared.unwritten.Unwritten.{Unwritten}
use Rattle.pack_assembly.specs.declared.unwritten.Unwritten.TheVariants as unwritten

-- a digest is never too long for a sorter
abbrev pub refusal_of_sort : SortFault → Refusal
refusal_of_sort sorts.Memory = refusals.Memory
refusal_of_sort sorts.Device = refusals.Device
refusal_of_sort sorts.TooLong = refusals.Device

abbrev pub refusal_of_read : ReadBackFault → Refusal
refusal_of_read reads.Memory = refusals.Memory
refusal_of_read reads.Device = refusals.Device

-- a node for which there is no memory leaves the pack unwritten
abbrev pub unwritten_of_read : ReadBackFault → Unwritten
unwritten_of_read reads.Memory = unwritten.NotWritten
unwritten_of_read reads.Device = unwritten.Device

abbrev pub fault_of_refusal : Refusal → AssemblyFault
fault_of_refusal refusals.Memory = faults.Memory
fault_of_refusal refusals.Device = faults.Device

abbrev pub fault_of_unwritten : Unwritten → AssemblyFault
fault_of_unwritten unwritten.Device = faults.Device
fault_of_unwritten unwritten.NotWritten = faults.NotWritten
