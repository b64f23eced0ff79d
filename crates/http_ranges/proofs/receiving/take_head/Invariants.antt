-- Only interim responses were taken.
use Rattle.std.proofs.Common.{List, ℕ}
use Rattle.http_ranges.specs.internal.Passing.{Passes}
use Rattle.http_ranges.proofs.receiving.take_head.Given as goal

abbrev pub invariant-loop : goal.invariant-loop
invariant-loop g l =
    (before : List ℕ) × Passes before (g.W.Wires.heard l.fn.wires l.wire) l.fn.incoming (g.W.Wires.heard l.wires l.wire) l.incoming
