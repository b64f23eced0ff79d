use Rattle.osm_model.proofs.OneEdge.{only}
use Rattle.osm_model.proofs.edge.Edge.read.Goals as goal

pub returns-clause-only : goal.returns-clause-only
returns-clause-only c = only _ _ _ c.read_edge.ensures.read c.read_edge.ensures.refused
