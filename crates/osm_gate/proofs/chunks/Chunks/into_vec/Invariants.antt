use Rattle.std.proofs.Common.{◌≡◌, ◌++◌, length}
use Rattle.osm_gate.proofs.chunks.Chunks.into_vec.Given as goal

abbrev pub invariant-loop-whole : goal.invariant-loop-whole
invariant-loop-whole l = l.whole.items ++ l.later ≡ l.fn.self

abbrev pub decreases-loop-whole : goal.decreases-loop-whole
decreases-loop-whole l = length l.later
