use Rattle.osm_model.specs.CanonicalDegrees.{degrees}
use Rattle.osm_model.proofs.EdgeLaws.{compares_as_degrees}
use Rattle.osm_model.proofs.shared.ReadBack.{reads_back}
use Rattle.osm_model.proofs.edge.compares_as_degrees.Goals as goal

pub returns-clause-read : goal.returns-clause-read
returns-clause-read c = compares_as_degrees

pub returns-clause-written : goal.returns-clause-written
returns-clause-written c = λ z u d small spells. compares_as_degrees (degrees z) z u d (reads_back z small) spells
