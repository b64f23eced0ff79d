-- What a refusal of the stock makes of a build.
-- Source: this project.
use Rattle.tree_node.specs.declared.stock.PutFault.{PutFault}
use Rattle.tree_node.specs.declared.stock.PutFault.TheVariants as puts
use Rattle.tree_build.specs.declared.fault.BuildFault.{BuildFault}
use Rattle.tree_build.specs.declared.fault.BuildFault.TheVariants.{Clash, Memory}

-- a refused node refuses the build
abbrev pub fault_of_put : PutFault → BuildFault
fault_of_put puts.Clash = Clash
fault_of_put puts.Memory = Memory
