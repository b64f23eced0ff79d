-- What a refusal of the shelf makes of a walk.
-- Source: this project.
use Rattle.tree_node.specs.declared.shelf.ShelfFault.{ShelfFault}
use Rattle.tree_node.specs.declared.shelf.ShelfFault.TheVariants as shelves
use Rattle.tree_walk.specs.declared.fault.WalkFault.{WalkFault}
use Rattle.tree_walk.specs.declared.fault.WalkFault.TheVariants as faults

-- a refused fetch refuses the walk
abbrev pub fault_of_shelf : ShelfFault → WalkFault
fault_of_shelf shelves.Missing = faults.Missing
fault_of_shelf shelves.Memory = faults.Memory
