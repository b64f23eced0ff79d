-- So many connections were taken so far, each after one question for a change file.
use Rattle.std.proofs.Common.{◌≡◌, ◌≤◌, ◌+◌, ◌-◌, ◌++◌, List, Some, ℕ, length}
use Rattle.std.specs.FinMap.{empty}
use Rattle.std.specs.Prelude.{IfSome}
use Rattle.osm_keys.specs.Publications.{Publication}
use Rattle.osm_index.specs.Snapshots.{HoldsPublication}
use Rattle.osm_serving.specs.ChangeFiles.{IsReachedBy}
use Rattle.osm_desk.specs.Published.{TakesFound}
use Rattle.osm_serving.proofs.desk_server.serve_desk.Given as goal

abbrev pub invariant-loop-taken : goal.invariant-loop-taken
invariant-loop-taken g l = record {
  few : l.taken ≤ l.connections;
  accepted : IfSome (g.L.Listener.accepted l.initial.listener) (λ n. g.L.Listener.accepted l.listener ≡ Some (n + l.taken));
  reached : (p : Publication) → HoldsPublication l.initial.desk.mirror p → (q : Publication) × HoldsPublication l.desk.mirror q × IsReachedBy l.taken p q;
  asked : IfSome (g.C.ChangeSource.asked l.initial.source) (λ before. (more : List ℕ) × (g.C.ChangeSource.asked l.source ≡ Some (more ++ before)) × (length more ≤ l.taken));
  found : TakesFound (g.C.ChangeSource.found l.initial.source) (g.C.ChangeSource.found l.source) (HoldsPublication l.initial.desk.mirror) (HoldsPublication l.desk.mirror);
  none_open : l.desk.connections ≡ empty;
}

abbrev pub decreases-loop-taken : goal.decreases-loop-taken
decreases-loop-taken g l = l.connections - l.taken
