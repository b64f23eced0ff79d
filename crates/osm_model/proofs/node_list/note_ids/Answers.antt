use Rattle.std.proofs.Common.{FitsSigned, get_or, pos, rules}
use Rattle.std.specs.Int.{w64}
use Rattle.std.proofs.lemmas.List.{take_all}
use Rattle.std.proofs.lemmas.List.Elements.{All-more}
use Rattle.osm_model.proofs.node_list.note_ids.Goals as goal

pub loop-id-preserved : goal.loop-id-preserved
loop-id-preserved c =
    let fits : FitsSigned w64 (get_or c.args.ids.now c.loop-id.id-index (pos 0)) = search rules in
    All-more (λ id. FitsSigned w64 id) c.args.ids.now c.loop-id.id-index (pos 0) c.loop-id-test.true c.loop-id.invariant fits

pub returns : goal.returns
returns c = rw (take_all c.loop-id.id-index c.args.ids.now c.loop-id-test.false) at c.loop-id.invariant
