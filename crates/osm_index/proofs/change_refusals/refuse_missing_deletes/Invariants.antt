use Rattle.std.proofs.Common.{take}
use Rattle.osm_index.specs.Applying.{DeleteThere}
use Rattle.osm_index.proofs.change_refusals.refuse_missing_deletes.Given as goal

abbrev pub invariant-loop-change : goal.invariant-loop-change
invariant-loop-change l = DeleteThere l.set (take l.change-index l.changes)
