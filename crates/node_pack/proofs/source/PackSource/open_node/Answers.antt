use Rattle.std.proofs.Common.{sym}
use Rattle.node_pack.proofs.source.PackSource.open_node.Goals as goal

pub returns-clause-over : goal.returns-clause-over
returns-clause-over g c = λ place_of root nodes over.
    c.bring.ensures.over place_of root c.args.key.now.0 nodes over (over.trues c.args.key.now c.in-Some.place.now (sym c.in-Some.ensures.value))
