use Rattle.osm_serving.proofs.ReadingLemmas.{published_or_left}
use Rattle.osm_serving.proofs.publish_next.publish_file.Goals as goal

pub returns-clause-in_force : goal.returns-clause-in_force
returns-clause-in_force g c = λ p holds.
    published_or_left c.args.root_line _ c.args.desk.now.mirror _ p c.publish_changes.result holds (c.publish_changes.ensures.published p holds) c.publish_changes.ensures.unchanged
