-- The pieces so far, and those that are left.
use Rattle.std.proofs.Common.{length}
use Rattle.osm_query_web.proofs.TableLemmas.{IsListed}
use Rattle.osm_query_web.proofs.table.list_pieces.Given as goal

abbrev pub invariant-loop-span : goal.invariant-loop-span
invariant-loop-span l = IsListed l.fn.table l.pieces.items l.at l.left

abbrev pub decreases-loop-span : goal.decreases-loop-span
decreases-loop-span l = length l.left
