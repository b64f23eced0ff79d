-- What a refused node makes of the entry that completed it.
-- Source: this project.
use Rattle.tree_stream.specs.declared.fault.StreamFault.{StreamFault}
use Rattle.tree_stream.specs.declared.fault.StreamFault.TheVariants as streams
use Rattle.tree_stream.specs.declared.fault.WriterFault.{WriterFault}
use Rattle.tree_stream.specs.declared.fault.WriterFault.TheVariants as writers

-- a node that wasn't written refuses the entry
abbrev pub stream_fault_of : WriterFault → StreamFault
stream_fault_of writers.Memory = streams.Memory
stream_fault_of writers.Device = streams.Device
