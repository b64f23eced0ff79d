use Rattle.ref_sets.proofs.shared.Results.{if_ok_as}
use Rattle.ql_plain.proofs.OneLink.{up_is}
use Rattle.ql_plain.proofs.recurse.up.Goals as goal

pub returns : goal.returns
returns c =
    if_ok_as c.union-2.result
    (λ refs are. up_is c.args.set.now c.as_slice.ensures.set c.args.from.now c.in_ok-of_nodes.ensures c.in_ok-of_ways.ensures c.in_ok-outer.ensures c.in_ok-refs.ensures are)
    c.union-2.ensures
