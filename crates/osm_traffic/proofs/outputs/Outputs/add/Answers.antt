use Rattle.std.proofs.Common.{[], sym}
use Rattle.osm_traffic.proofs.OutputLemmas.{put}
use Rattle.osm_traffic.proofs.outputs.Outputs.add.Goals as goal

pub returns-clause-ok : goal.returns-clause-ok
returns-clause-ok c = put _ c.self.inside.outputs c.self.view_is c.args.number [] c.insert.new.self (rw (sym c.new.ensures) c.in-Ok.ensures.updates)
