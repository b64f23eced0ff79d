-- What a refused read is to who asks for a node.
use Rattle.node_pack.specs.declared.read_at.ReadFault.{ReadFault}
use Rattle.node_pack.specs.declared.read_at.ReadFault.TheVariants as reads
use Rattle.outside_shelf.specs.declared.source.SourceFault.{SourceFault}
use Rattle.outside_shelf.specs.declared.source.SourceFault.TheVariants as sources

-- what a refused read is to who asks for a node
abbrev pub source_fault_of : ReadFault → SourceFault
source_fault_of reads.Device = sources.Device
source_fault_of reads.Memory = sources.Memory
