-- However many turns were taken, it stands as the deeds so far say.
use Rattle.std.proofs.Common.{◌≡◌, ◌≤◌, List, Some}
use Rattle.osm_desk.specs.Desks.{fresh_desk}
use Rattle.osm_keys.specs.Publications.{Publication}
use Rattle.osm_gate.specs.Terms.{terms_of}
use Rattle.osm_traffic.specs.Deeds.{Deed}
use Rattle.osm_traffic.specs.Entries.{Entry}
use Rattle.osm_desk.specs.Published.{TakesFound}
use Rattle.osm_traffic.specs.internal.Standing.{Stands}
use Rattle.osm_traffic.proofs.serving.serve_many.Given as goal

abbrev pub invariant-loop : goal.invariant-loop
invariant-loop g l = record {
  few : l.taken ≤ l.connections;
  stands : (p : Publication) (base : List Entry) → g.M.Mirror.holds l.fn.desk.mirror p → g.T.Traffic.log l.fn.traffic ≡ Some base
      → (deeds : List Deed) × Stands g.M.Mirror.holds (terms_of l.most g.M.Mirror.may_fail) l.connections (fresh_desk p) base deeds (g.T.Traffic.log l.traffic) l.outputs l.desk l.taken;
  found : TakesFound (g.L.Lookout.found l.fn.lookout) (g.L.Lookout.found l.lookout) (g.M.Mirror.holds l.fn.desk.mirror) (g.M.Mirror.holds l.desk.mirror);
}
