use Rattle.opl_codec.proofs.ValueCoordinates.{beyond, no_coordinate}
use Rattle.opl_codec.proofs.coordinate.value_fault_of.Goals as goal

pub returns-in-OutOfRange : goal.returns-in-OutOfRange
returns-in-OutOfRange c text axis some fault = beyond text axis (rw c.in-OutOfRange.is at fault)

pub returns-in_default : goal.returns-in_default
returns-in_default c text axis some fault = no_coordinate text axis c.args.fault some c.in_default.not-OutOfRange fault
