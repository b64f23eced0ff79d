-- How the nodes of a stock change.
-- Source: this project.
use Rattle.tree_node.specs.declared.stock.PutFault.{PutFault}
use Rattle.tree_node.specs.declared.stock.PutFault.TheVariants as puts
use Rattle.osm_index.specs.declared.apply_fault.ApplyFault.{ApplyFault}
use Rattle.osm_index.specs.declared.apply_fault.ApplyFault.TheVariants as faults

-- a refused node refuses the changes
abbrev pub fault_of_put : PutFault → ApplyFault
fault_of_put puts.Clash = faults.Clash
fault_of_put puts.Memory = faults.Memory
