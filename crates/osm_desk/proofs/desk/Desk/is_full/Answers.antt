use Rattle.std.proofs.Common.{sym, ◌∙◌}
use Rattle.osm_desk.specs.declared.limits.TheConstants.{CONNECTION_LIMIT}
use Rattle.osm_desk.proofs.TableLemmas.{size}
use Rattle.osm_desk.proofs.TestLemmas.{full_from, full_to, on_room}
use Rattle.osm_desk.proofs.desk.Desk.is_full.Goals as goal

pub returns-clause-full : goal.returns-clause-full
returns-clause-full g c =
    let is = size _ c.self.inside.mirror c.self.inside.gates c.self.view_is 0 c.len.ensures.ordered ∙ sym c.len.ensures.len in
    (full_to CONNECTION_LIMIT _ c.len.result is, full_from CONNECTION_LIMIT _ c.len.result is)

pub returns-clause-room : goal.returns-clause-room
returns-clause-room g c =
    on_room CONNECTION_LIMIT _ c.len.result (size _ c.self.inside.mirror c.self.inside.gates c.self.view_is 0 c.len.ensures.ordered ∙ sym c.len.ensures.len)
