-- The table of the spans so far.
use Rattle.std.proofs.Common.{◌≡◌, take}
use Rattle.osm_query_web.specs.Spans.{table_of}
use Rattle.osm_query_web.proofs.missing.table_of.Given as goal

abbrev pub invariant-loop-span : goal.invariant-loop-span
invariant-loop-span l = l.table.items ≡ table_of (take l.span-index l.spans)
