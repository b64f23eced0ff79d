-- Coordinates of fields: their faults.
use Rattle.std.proofs.Common.{◌≡◌, ◌≢◌, ℕ, ℤ, List, [], Option, Some, None, arith}
use Rattle.osm_model.specs.Degrees.{IsFault}
use Rattle.osm_model.specs.declared.axis.Axis.{Axis}
use Rattle.osm_model.specs.declared.fault.ModelFault.{ModelFault}
use Rattle.osm_model.specs.declared.fault.ModelFault.TheVariants.{OutOfRange}
use Rattle.opl_codec.specs.Values.{SpellsCoordinate}
use Rattle.opl_codec.specs.ValueFaults.{CoordinateFault}
use Rattle.opl_codec.specs.declared.value_fault.ValueFault.TheVariants.{Limit}
use Rattle.opl_codec.proofs.ReadCoordinates.{no_degrees}

-- degrees beyond the axis
pub beyond : (text : List ℕ) (axis : Axis) → IsFault text axis OutOfRange → CoordinateFault axis text Limit
beyond text axis h = (Some h.0, h.1, λ within. let far = h.2 in omega arith)

-- no coordinate
pub no_coordinate : (text : List ℕ) (axis : Axis) (fault : ModelFault) → text ≢ [] → (fault ≡ OutOfRange → ⊥) → IsFault text axis fault → (coordinate : Option ℤ) → SpellsCoordinate text coordinate → ⊥
no_coordinate text axis fault some other h None spelled = some spelled
no_coordinate text axis fault some other h (Some z) spelled = no_degrees text axis fault z some other h spelled
