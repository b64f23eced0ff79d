-- What was taken away are line feeds.
use Rattle.std.proofs.Common.{◌≡◌, ◌++◌, ℕ, List, length}
use Rattle.osm_changes.proofs.RootLineLemmas.{AreLineFeeds}
use Rattle.osm_changes.proofs.root_line_end.without_line_feeds.Given as goal

abbrev pub invariant-loop-shorter : goal.invariant-loop-shorter
invariant-loop-shorter l = (after : List ℕ) × (l.text ≡ l.left ++ after) × AreLineFeeds after

abbrev pub decreases-loop-shorter : goal.decreases-loop-shorter
decreases-loop-shorter l = length l.left
