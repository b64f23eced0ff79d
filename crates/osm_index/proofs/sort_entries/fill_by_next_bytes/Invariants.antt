use Rattle.std.proofs.Common.{◌≡◌, take}
use Rattle.std.specs.List.{All}
use Rattle.osm_index.specs.internal.PrefixedEntries.{IsByNextBytes, items_of}
use Rattle.osm_index.proofs.sort_entries.fill_by_next_bytes.Given as goal

abbrev pub invariant-loop-entry : goal.invariant-loop-entry
invariant-loop-entry l = (items_of l.buffer.items ≡ items_of (take l.entry-index l.run)) × All IsByNextBytes l.buffer.items
