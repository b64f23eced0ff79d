-- Nothing is taken.
use Rattle.std.proofs.Common.{length, ◌-◌, []}
use Rattle.http_ranges.specs.internal.Passing.{Passes}
use Rattle.http_ranges.specs.declared.limits.TheConstants.{HEAD_LIMIT}
use Rattle.http_ranges.proofs.receiving.await_head.Given as goal

abbrev pub invariant-loop-incoming : goal.invariant-loop-incoming
invariant-loop-incoming g l =
    Passes [] (g.W.Wires.heard l.fn.wires l.wire) l.fn.incoming (g.W.Wires.heard l.wires l.wire) l.incoming

abbrev pub decreases-loop-incoming : goal.decreases-loop-incoming
decreases-loop-incoming g l = HEAD_LIMIT - length l.incoming
