-- What refusals of what is called are to who writes a pack of files.
-- Source: this project.
use Rattle.node_pack.specs.declared.read_at.ReadFault.{ReadFault}
use Rattle.node_pack.specs.declared.read_at.ReadFault.TheVariants as reads
use Rattle.outside_shelf.specs.declared.refused.Refused.TheVariants as reasons
use Rattle.pack_build.specs.declared.fault.BuildFault.{BuildFault}
use Rattle.pack_build.specs.declared.fault.BuildFault.TheVariants as builds
use Rattle.tree_stream.specs.declared.fault.StreamFault.{StreamFault}
use Rattle.tree_stream.specs.declared.fault.StreamFault.TheVariants as streams
use Rattle.tree_stream.specs.declared.fault.WriterFault.{WriterFault}
use Rattle.tree_stream.specs.declared.fault.WriterFault.TheVariants as writers
use Rattle.pack_compact.specs.declared.fault.CompactFault.{CompactFault}
use Rattle.pack_compact.specs.declared.fault.CompactFault.TheVariants.{Clash, Device, Memory, NoTree, NotWritten, Source, TooLong}

abbrev pub fault_of_read : ReadFault → CompactFault
fault_of_read reads.Device = Source reasons.Device
fault_of_read reads.Memory = Memory

-- an entry that no tree takes at its place is in no tree
abbrev pub fault_of_push : StreamFault → CompactFault
fault_of_push streams.NotRising = NoTree
fault_of_push streams.TooLong = NoTree
fault_of_push streams.TooMany = NoTree
fault_of_push streams.Memory = Memory
fault_of_push streams.Device = Device

abbrev pub fault_of_writer : WriterFault → CompactFault
fault_of_writer writers.Memory = Memory
fault_of_writer writers.Device = Device

-- trees that are there have a set, and few enough entries
abbrev pub fault_of_build : BuildFault → CompactFault
fault_of_build (builds.Load load) = NoTree
fault_of_build builds.TooMany = NoTree
fault_of_build builds.Clash = Clash
fault_of_build builds.TooLong = TooLong
fault_of_build builds.Memory = Memory
fault_of_build builds.Device = Device
fault_of_build builds.NotWritten = NotWritten
