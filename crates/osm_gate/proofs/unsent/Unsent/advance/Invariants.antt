use Rattle.std.proofs.Common.{◌≡◌, ◌≤◌, length, drop}
use Rattle.osm_gate.proofs.unsent.Unsent.advance.Given as goal

abbrev pub invariant-loop-left : goal.invariant-loop-left
invariant-loop-left l = record {
  some : l.left ≤ length l.self;
  same : drop l.left l.self ≡ drop l.count l.initial.self;
}

abbrev pub decreases-loop-left : goal.decreases-loop-left
decreases-loop-left l = l.left
