use Rattle.std.proofs.Common.{◌-◌}
use Rattle.ref_sets.specs.internal.Seeking.{IsAround}
use Rattle.ref_sets.proofs.search.narrow.Given as goal

abbrev pub invariant-loop-low : goal.invariant-loop-low
invariant-loop-low l = IsAround l.refs l.name l.low l.high

abbrev pub decreases-loop-low : goal.decreases-loop-low
decreases-loop-low l = l.high - l.low
