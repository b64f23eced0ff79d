use Rattle.osm_serving.proofs.ChangeLemmas.{published_under, under_watched}
use Rattle.osm_serving.proofs.change_lookout.ChangeLookoutLookoutSnapshot.look.Goals as goal

pub returns-then-eq-clause-in_force : goal.returns-then-eq-clause-in_force
returns-then-eq-clause-in_force g c = λ p holds. published_under c.self.inside.root_line c.publish_found.new.desk.mirror p (c.publish_found.ensures.in_force p holds)

pub returns-then-eq-clause-root_line : goal.returns-then-eq-clause-root_line
returns-then-eq-clause-root_line g c = λ p holds.
    under_watched _ c.self.inside.source c.self.inside.root_line c.args.self.now c.publish_found.new.desk.mirror p c.self.view_is (c.publish_found.ensures.in_force p holds)

pub returns-clause-in_force : goal.returns-clause-in_force
returns-clause-in_force g c = λ p holds. published_under c.self.inside.root_line c.publish_found.new.desk.mirror p (c.publish_found.ensures.in_force p holds)

pub returns-clause-root_line : goal.returns-clause-root_line
returns-clause-root_line g c = λ p holds.
    under_watched _ c.self.inside.source c.self.inside.root_line c.args.self.now c.publish_found.new.desk.mirror p c.self.view_is (c.publish_found.ensures.in_force p holds)
