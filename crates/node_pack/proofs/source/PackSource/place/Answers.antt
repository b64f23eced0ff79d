use Rattle.std.proofs.Common.{sym}
use Rattle.node_pack.proofs.source.PackSource.place.Goals as goal

pub returns-clause-true_place : goal.returns-clause-true_place
returns-clause-true_place g c = λ place_of root nodes over. over.trues c.args.key.now c.in_ok-place.place.now (sym c.in_ok-place.ensures.value)
