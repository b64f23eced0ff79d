use Rattle.std.proofs.Common.{◌≡◌, ◌++◌, take}
use Rattle.osm_index.specs.internal.PrefixedEntries.{items_of}
use Rattle.osm_index.proofs.sort_entries.append_items.Given as goal

abbrev pub invariant-loop-entry : goal.invariant-loop-entry
invariant-loop-entry l = l.entries.items ≡ l.fn.entries.items ++ items_of (take l.entry-index l.prefixed)
