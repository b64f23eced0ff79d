use Rattle.std.proofs.Common.{◌-◌, ◌<◌, ◌≤◌, length}
use Rattle.ref_sets.specs.internal.Seeking.{AreBefore}
use Rattle.ref_sets.proofs.search.rise.Given as goal

abbrev pub invariant-loop-step : goal.invariant-loop-step
invariant-loop-step l = record {
  before : AreBefore l.refs l.name l.low;
  within : l.low ≤ length l.refs;
  goes : 0 < l.step;
}

abbrev pub decreases-loop-step : goal.decreases-loop-step
decreases-loop-step l = length l.refs - l.low
