use Rattle.osm_model.specs.DecimalParts.{decimal_of}
use Rattle.osm_model.proofs.EdgeUnits.{floor_within, same_number}
use Rattle.osm_model.proofs.edge.Edge.floor_units.Goals as goal

pub returns-clause-within : goal.returns-clause-within
returns-clause-within c = rw (← c.self.view_is) (same_number c.self.inside.axis c.self.inside.floor (floor_within (record { axis = c.self.inside.axis; value = decimal_of c.self.inside.parts }) c.self.invariant.0 c.self.inside.floor c.self.invariant.1.at_most))
