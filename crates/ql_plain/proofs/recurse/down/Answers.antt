use Rattle.ref_sets.proofs.shared.Results.{if_ok_as}
use Rattle.ql_plain.proofs.OneLink.{down_is}
use Rattle.ql_plain.proofs.recurse.down.Goals as goal

pub returns : goal.returns
returns c =
    if_ok_as c.union-2.result
    (λ refs are. down_is c.args.set.now c.as_slice.ensures.set c.args.from.now c.in_ok-nodes.ensures c.in_ok-members.ensures c.in_ok-inner.ensures c.in_ok-relations.ensures c.in_ok-others.ensures c.in_ok-refs.ensures are)
    c.union-2.ensures
