-- The table is one just if what is left of it is one after what was taken.
use Rattle.std.proofs.Common.{◌≤◌, ◌↔◌, length}
use Rattle.osm_query_web.specs.Pieces.{IsTable}
use Rattle.osm_query_web.proofs.TableLemmas.{IsRest}
use Rattle.osm_query_web.proofs.table.is_table.Given as goal

abbrev pub invariant-loop-span : goal.invariant-loop-span
invariant-loop-span l = record {
  below : l.taken ≤ l.least;
  same : IsRest l.size l.len l.least l.taken l.left ↔ IsTable l.size l.len l.fn.table;
}

abbrev pub decreases-loop-span : goal.decreases-loop-span
decreases-loop-span l = length l.left
