use Rattle.ql_eval.proofs.BoxLemmas.{node_added, node_outside, node_read}
use Rattle.ql_eval.proofs.boxes.add_node.Goals as goal

pub returns-in_ok-push-in-Some-2-clause-added : goal.returns-in_ok-push-in-Some-2-clause-added
returns-in_ok-push-in-Some-2-clause-added c =
    node_added c.args.area.now _ c.in-Some.node.name c.in-Some.node.place _ _ c.in-Some.ensures.some c.in-Some.ensures.fits (c.holds.ensures.holds.0 c.if-holds.true) c.in_ok-push-in-Some-2.ensures.items

pub returns-in_ok-push-in-Some-2-clause-read : goal.returns-in_ok-push-in-Some-2-clause-read
returns-in_ok-push-in-Some-2-clause-read c = node_read _ c.in-Some.node.name c.in-Some.node.place _ _ c.in-Some.ensures.some c.in-Some.ensures.fits c.in_ok-push-in-Some.ensures.items

pub returns-else-holds-clause-added : goal.returns-else-holds-clause-added
returns-else-holds-clause-added c =
    node_outside c.args.area.now _ c.in-Some.node.name c.in-Some.node.place _ c.in-Some.ensures.some c.in-Some.ensures.fits
    (λ held. let yes = c.holds.ensures.holds.1 held in let no = c.if-holds.false in cc)

pub returns-else-holds-clause-read : goal.returns-else-holds-clause-read
returns-else-holds-clause-read c = node_read _ c.in-Some.node.name c.in-Some.node.place _ _ c.in-Some.ensures.some c.in-Some.ensures.fits c.in_ok-push-in-Some.ensures.items
