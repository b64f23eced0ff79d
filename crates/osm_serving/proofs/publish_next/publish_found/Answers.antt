use Rattle.osm_serving.proofs.ReadingLemmas.{one_found}
use Rattle.osm_serving.proofs.publish_next.publish_found.Goals as goal

pub returns-clause-found : goal.returns-clause-found
returns-clause-found g c =
    one_found c.args.root_line (g.C.ChangeSource.found c.args.source.now) (g.C.ChangeSource.found c.publish_file.new.source) c.args.desk.now.mirror c.publish_file.new.desk.mirror c.publish_file.result
    c.publish_file.ensures.unchanged c.publish_file.ensures.found
