-- However many chunks were given, it stands as the deeds so far say.
use Rattle.std.proofs.Common.{◌≡◌, length}
use Rattle.std.specs.FinMap.{get}
use Rattle.osm_gate.specs.Terms.{Terms}
use Rattle.osm_traffic.specs.internal.Standing.{Keeps}
use Rattle.osm_traffic.specs.internal.Texts.{coming}
use Rattle.osm_traffic.proofs.writing.hand.Given as goal

abbrev pub invariant-chunks : goal.invariant-chunks
invariant-chunks g l = record {
  kept : (terms : Terms) → Keeps g.M.Mirror.holds terms (g.T.Traffic.log l.fn.traffic) (g.T.Traffic.log l.traffic) l.fn.outputs l.outputs l.fn.desk l.desk;
  mirror : l.desk.mirror ≡ l.fn.desk.mirror;
}

abbrev pub decreases-chunks : goal.decreases-chunks
decreases-chunks g l = length (coming (get l.outputs l.number))
