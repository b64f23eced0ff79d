use Rattle.osm_commands.proofs.FrontLemmas.{query_bytes, query_end, query_failed, query_takes}
use Rattle.osm_commands.proofs.query_reader.read_query.Goals as goal

pub returns-clause-read : goal.returns-clause-read
returns-clause-read g c = query_bytes _ _ c.read_front.result c.read_front.ensures

pub returns-clause-end : goal.returns-clause-end
returns-clause-end g c = query_end _ _ c.read_front.result c.read_front.ensures

pub returns-clause-refused : goal.returns-clause-refused
returns-clause-refused g c = query_failed _ _ c.read_front.result c.read_front.ensures

pub returns-clause-takes : goal.returns-clause-takes
returns-clause-takes g c = query_takes _ _ c.read_front.result c.read_front.ensures
