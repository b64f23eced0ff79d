use Rattle.std.proofs.Common.{◌<◌, ◌≤◌, length}
use Rattle.ref_sets.specs.internal.Seeking.{AreAfter}
use Rattle.ref_sets.proofs.search.fall.Given as goal

abbrev pub invariant-loop-step : goal.invariant-loop-step
invariant-loop-step l = record {
  after : AreAfter l.refs l.name l.high;
  within : l.high ≤ length l.refs;
  goes : 0 < l.step;
}

abbrev pub decreases-loop-step : goal.decreases-loop-step
decreases-loop-step l = l.high
