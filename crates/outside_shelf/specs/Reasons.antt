-- Why an outside shelf gave no node, and what it tells walks of it.
-- Source: this project.
use Rattle.outside_shelf.specs.declared.refused.Refused.{Refused}
use Rattle.outside_shelf.specs.declared.refused.Refused.TheVariants as reasons
use Rattle.outside_shelf.specs.declared.source.SourceFault.{SourceFault}
use Rattle.outside_shelf.specs.declared.source.SourceFault.TheVariants as faults
use Rattle.tree_node.specs.declared.shelf.ShelfFault.{ShelfFault}
use Rattle.tree_node.specs.declared.shelf.ShelfFault.TheVariants.{Memory, Missing}

-- what a source's fault is to the shelf
abbrev pub reason_of_source : SourceFault → Refused
reason_of_source faults.Absent = reasons.Absent
reason_of_source faults.Device = reasons.Device
reason_of_source faults.Memory = reasons.Memory

-- what a shelf says to walks: out of memory, or that it holds no such node
abbrev pub shelf_fault_of : Refused → ShelfFault
shelf_fault_of reasons.Memory = Memory
shelf_fault_of reasons.Absent = Missing
shelf_fault_of reasons.Other = Missing
shelf_fault_of reasons.Device = Missing
shelf_fault_of reasons.TooMany = Missing
