use Rattle.std.proofs.Common.{arith}
use Rattle.osm_model.proofs.DecimalValues.{refuses}
use Rattle.osm_model.proofs.degrees.value_of.Goals as goal

pub returns-then-units-limit-clause-refused : goal.returns-then-units-limit-clause-refused
returns-then-units-limit-clause-refused c = refuses _ _ _ _ _ c.in-Some.ensures.found c.decimals-decimals.ensures (omega arith) _ _ c.units_of-units.ensures.value (omega (arith, c.limit.ensures))
