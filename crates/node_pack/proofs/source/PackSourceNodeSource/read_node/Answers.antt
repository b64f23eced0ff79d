use Rattle.std.proofs.Common.{sym}
use Rattle.node_pack.proofs.source.PackSourceNodeSource.read_node.Goals as goal

pub returns-in-Ok-clause-over : goal.returns-in-Ok-clause-over
returns-in-Ok-clause-over g c = λ place_of root nodes over.
    c.give.ensures.over place_of root c.args.key.now.0 nodes (c.bring_announced.ensures.over place_of root nodes over) (over.trues c.args.key.now c.in-Some.place.now (sym c.in-Some.ensures.value))

pub returns-in-Ok-clause-given : goal.returns-in-Ok-clause-given
returns-in-Ok-clause-given g c = λ place_of root nodes over.
    c.in-Ok.ensures.given place_of root c.args.key.now.0 nodes (c.bring_announced.ensures.over place_of root nodes over) (over.trues c.args.key.now c.in-Some.place.now (sym c.in-Some.ensures.value))

pub returns-in-Err-clause-over : goal.returns-in-Err-clause-over
returns-in-Err-clause-over g c = λ place_of root nodes over.
    c.give.ensures.over place_of root c.args.key.now.0 nodes (c.bring_announced.ensures.over place_of root nodes over) (over.trues c.args.key.now c.in-Some.place.now (sym c.in-Some.ensures.value))
