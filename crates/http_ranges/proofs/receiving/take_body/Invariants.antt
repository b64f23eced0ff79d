-- What isn't left of the body was taken.
use Rattle.std.proofs.Common.{◌≤◌, ◌-◌}
use Rattle.http_ranges.specs.internal.Passing.{TakesBody}
use Rattle.http_ranges.proofs.receiving.take_body.Given as goal

abbrev pub invariant-loop-left : goal.invariant-loop-left
invariant-loop-left g l =
    record {
      taken : TakesBody (l.len - l.left) (g.W.Wires.heard l.fn.wires l.wire) l.fn.incoming (g.W.Wires.heard l.wires l.wire) l.incoming l.fn.into.items l.into.items;
      few : l.left ≤ l.len;
    }

abbrev pub decreases-loop-left : goal.decreases-loop-left
decreases-loop-left g l = l.left
