-- What a tree that refuses an entry is to who gives entries.
use Rattle.entry_sort.specs.declared.entry_sink.SinkFault.{SinkFault}
use Rattle.entry_sort.specs.declared.entry_sink.SinkFault.TheVariants as sinks
use Rattle.tree_stream.specs.declared.fault.StreamFault.{StreamFault}
use Rattle.tree_stream.specs.declared.fault.StreamFault.TheVariants as streams

-- Entries of a set rise and fit a tree, so others come only from a device that gave back what it wasn't given.
abbrev pub sink_fault_of : StreamFault → SinkFault
sink_fault_of streams.NotRising = sinks.Device
sink_fault_of streams.TooLong = sinks.Device
sink_fault_of streams.TooMany = sinks.TooMany
sink_fault_of streams.Memory = sinks.Memory
sink_fault_of streams.Device = sinks.Device
