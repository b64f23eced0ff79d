use Rattle.std.proofs.Common.{◌≡◌, ◌≤◌, ◌<◌, ◌-◌, ℕ, get_or, length}
use Rattle.osm_index.specs.declared.prefixed_entry.PrefixedEntry.{PrefixedEntry}
use Rattle.osm_index.specs.internal.PrefixedEntries.{numbers_of}
use Rattle.osm_index.proofs.sort_entries.run_len.Given as goal

abbrev pub invariant-growing : goal.invariant-growing
invariant-growing l = (1 ≤ l.len) × (l.len ≤ length l.rest) × ((k : ℕ) (d : PrefixedEntry) → k < l.len → numbers_of (get_or l.rest k d) ≡ numbers_of (get_or l.rest 0 d))

abbrev pub decreases-growing : goal.decreases-growing
decreases-growing l = length l.rest - l.len
