-- Why a file isn't opened as a pack, and why a pack isn't written.
-- Source: this project.
use Rattle.node_pack.specs.declared.fault.PackFault.{PackFault}
use Rattle.node_pack.specs.declared.fault.PackFault.TheVariants as faults
use Rattle.node_pack.specs.declared.read_at.ReadFault.{ReadFault}
use Rattle.node_pack.specs.declared.read_at.ReadFault.TheVariants as reads
use Rattle.node_pack.specs.declared.write_fault.WriteFault.{WriteFault}
use Rattle.node_pack.specs.declared.write_fault.WriteFault.TheVariants as writes
use Rattle.tree_node.specs.declared.shelf.ShelfFault.{ShelfFault}
use Rattle.tree_node.specs.declared.shelf.ShelfFault.TheVariants as shelves

-- what a refused read is to who opens a pack
abbrev pub pack_fault_of : ReadFault → PackFault
pack_fault_of reads.Device = faults.Device
pack_fault_of reads.Memory = faults.Memory

-- what a shelf that gave no node is to who writes a pack
abbrev pub write_fault_of : ShelfFault → WriteFault
write_fault_of shelves.Missing = writes.Missing
write_fault_of shelves.Memory = writes.Memory
