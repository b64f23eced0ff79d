use Rattle.std.proofs.Common.{◌≤◌, ◌-◌, drop, length}
use Rattle.std.specs.List.{All}
use Rattle.osm_index.specs.internal.PrefixedEntries.{IsByFirstBytes}
use Rattle.osm_index.proofs.KeyOrderLemmas.{IsSoFar}
use Rattle.osm_index.proofs.sort_entries.append_runs.Given as goal

abbrev pub invariant-runs : goal.invariant-runs
invariant-runs l = (l.start ≤ length l.prefixed) × (All IsByFirstBytes l.prefixed → IsSoFar l.prefixed (drop l.start l.prefixed) l.fn.entries.items l.entries.items)

abbrev pub decreases-runs : goal.decreases-runs
decreases-runs l = length l.prefixed - l.start
