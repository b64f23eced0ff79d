use Rattle.osm_desk.proofs.EventLemmas.{turn-of}
use Rattle.osm_desk.proofs.desk.Desk+Snapshot.step.Goals as goal

pub returns-clause-turn : goal.returns-clause-turn
returns-clause-turn c =
    turn-of c.args.self.now c.take.new.self c.args.event c.take.result c.take.ensures.steps c.take.ensures.refused c.take.ensures.unchanged
