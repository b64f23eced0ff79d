-- What was taken away is no line feed.
use Rattle.std.proofs.Common.{◌≡◌, ◌++◌, ℕ, List, length}
use Rattle.byte_io.specs.Pieces.{Lacks}
use Rattle.osm_model.specs.Bytes.{line_feed}
use Rattle.osm_changes.proofs.root_line_end.without_last_line.Given as goal

abbrev pub invariant-loop-byte : goal.invariant-loop-byte
invariant-loop-byte l = (line : List ℕ) × (l.text ≡ l.left ++ line) × Lacks line_feed line

abbrev pub decreases-loop-byte : goal.decreases-loop-byte
decreases-loop-byte l = length l.left
