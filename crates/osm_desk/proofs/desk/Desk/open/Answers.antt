use Rattle.std.proofs.Common.{sym}
use Rattle.osm_desk.proofs.TableLemmas.{put}
use Rattle.osm_desk.proofs.desk.Desk.open.Goals as goal

pub returns-clause-opened : goal.returns-clause-opened
returns-clause-opened g c = (
  (c.if-is_open.ensures.free, c.if-is_full.ensures.room),
  put _ c.self.inside.mirror c.self.inside.gates c.self.view_is c.args.number _ c.insert.new.self (rw (sym c.in-Ok.ensures) c.in-Ok-insert.ensures.updates),
)
