-- So many connections were taken so far.
use Rattle.std.proofs.Common.{◌≡◌, ◌≤◌, ◌+◌, ◌-◌, Some}
use Rattle.std.specs.Prelude.{IfSome}
use Rattle.osm_serving.proofs.snapshot_server.serve.Given as goal

abbrev pub invariant-loop-taken : goal.invariant-loop-taken
invariant-loop-taken g l = (l.taken ≤ l.connections) × IfSome (g.L.Listener.accepted l.initial.listener) (λ n. g.L.Listener.accepted l.listener ≡ Some (n + l.taken))

abbrev pub decreases-loop-taken : goal.decreases-loop-taken
decreases-loop-taken g l = l.connections - l.taken
