use Rattle.std.proofs.Common.{All, FitsSigned, take}
use Rattle.std.specs.Int.{w64}
use Rattle.osm_model.proofs.node_list.note_ids.Given as goal

abbrev pub invariant-loop-id : goal.invariant-loop-id
invariant-loop-id l = All (λ id. FitsSigned w64 id) (take l.id-index l.ids)
