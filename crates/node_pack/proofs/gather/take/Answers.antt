use Rattle.std.proofs.Common.{◌≤◌, suc, arith}
use Rattle.node_pack.proofs.GatherLemmas.{held_on, low_more, seen_now, seen_stays, taken_more, taken_same}
use Rattle.node_pack.specs.Reached.{IsReason}
use Rattle.node_pack.proofs.WrittenLemmas.{told_is}
use Rattle.node_pack.proofs.gather.take.Goals as goal

pub returns-then-not-branch-clause-grows : goal.returns-then-not-branch-clause-grows
returns-then-not-branch-clause-grows g c = λ key. seen_stays c.args.seen.now c.insert.new.self c.args.key.now c.in_ok-insert.ensures.updates key

pub returns-then-not-branch-clause-seen : goal.returns-then-not-branch-clause-seen
returns-then-not-branch-clause-seen g c = seen_now c.args.seen.now c.insert.new.self c.args.key.now c.in_ok-insert.ensures.updates

pub returns-then-not-branch-clause-gathered : goal.returns-then-not-branch-clause-gathered
returns-then-not-branch-clause-gathered g c = λ root before under are.
    taken_same c.args.seen.now c.insert.new.self c.args.key.now c.in_ok-insert.ensures.updates c.in_ok-insert.field-0 c.in_ok-insert.ensures.added (g.S.Shelf.holds c.args.shelf.now) (g.S.Shelf.holds c.fetch_wanted.new.shelf)
    (held_on _ _ _ c.fetch_wanted.ensures.stays) root before c.args.into.now.items c.in_ok-node.node are c.if-not-branch.true

pub returns-in_err-push-clause-grows : goal.returns-in_err-push-clause-grows
returns-in_err-push-clause-grows g c = λ key. seen_stays c.args.seen.now c.insert.new.self c.args.key.now c.in_ok-insert.ensures.updates key

pub returns-clause-grows : goal.returns-clause-grows
returns-clause-grows g c = λ key. seen_stays c.args.seen.now c.insert.new.self c.args.key.now c.in_ok-insert.ensures.updates key

pub returns-clause-seen : goal.returns-clause-seen
returns-clause-seen g c = seen_now c.args.seen.now c.insert.new.self c.args.key.now c.in_ok-insert.ensures.updates

pub returns-clause-gathered : goal.returns-clause-gathered
returns-clause-gathered g c = λ root before under are.
    taken_more c.args.seen.now c.insert.new.self c.args.key.now c.in_ok-insert.ensures.updates c.in_ok-insert.field-0 c.in_ok-insert.ensures.added (g.S.Shelf.holds c.args.shelf.now) (g.S.Shelf.holds c.fetch_wanted.new.shelf)
    (held_on _ _ _ c.fetch_wanted.ensures.stays) root before c.args.into.now.items c.in_ok-node.node are c.if-not-branch.false c.push.new.self.items c.in_ok-push.ensures.items c.in_ok-node.ensures.key
    (c.in_ok-node.ensures.gathered root under)

pub returns-clause-low : goal.returns-clause-low
returns-clause-low g c = λ height le low.
    low_more height c.args.into.now.items c.push.new.self.items c.in_ok-node.node c.in_ok-push.ensures.items low (let l : suc _ ≤ _ = c.in_ok-node.ensures.low in omega (arith, l, le))

pub returns-in_err-node-clause-refused : goal.returns-in_err-node-clause-refused
returns-in_err-node-clause-refused g c = λ root under.
    told_is c.from_residual.result c.in_err-node.field-0.0 (IsReason (g.S.Shelf.holds c.fetch_wanted.new.shelf) root) c.from_residual.ensures.1 (c.in_err-node.ensures.refused root under)
