use Rattle.std.proofs.Common.{◌≡◌, take}
use Rattle.std.specs.List.{All}
use Rattle.osm_index.specs.internal.PrefixedEntries.{IsByFirstBytes, items_of}
use Rattle.osm_index.proofs.sort_entries.with_prefixes.Given as goal

abbrev pub invariant-loop-entry : goal.invariant-loop-entry
invariant-loop-entry l = (items_of l.prefixed.items ≡ take l.entry-index l.entries) × All IsByFirstBytes l.prefixed.items
