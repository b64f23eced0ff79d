use Rattle.std.proofs.Common.{ℕ, arith, get_or, subst, sym, ap}
use Rattle.node_pack.specs.Reached.{IsReason}
use Rattle.node_pack.specs.declared.gathered.Gathered.{Gathered}
use Rattle.node_pack.specs.internal.Gathering.{IsClosed, IsGathered, IsSeen, height_of}
use Rattle.node_pack.proofs.GatherLemmas.{at_place_in, closed_later, each_contained, gathered_later, held_on, index_more, stays_on}
use Rattle.node_pack.proofs.WrittenLemmas.{told_is}
use Rattle.node_pack.proofs.gather.take_level.Goals as goal

pub loop-node-preserved : goal.loop-node-preserved
loop-node-preserved g c =
    let first = g.S.Shelf.holds c.args.shelf.now in
    let before = g.S.Shelf.holds c.loop-node.shelf in
    let after = g.S.Shelf.holds c.take_children.new.shelf in
    let seen = c.take_children.new.seen in
    let level = c.args.level.now in
    let i = c.loop-node.node-index in
    let node = c.node-item.result in
    let lt = c.loop-node-test.true in
    let inv = c.loop-node.invariant in
    record {
      stays = stays_on g.S.Shelf.is_fixed first before after inv.stays c.take_children.ensures.stays;
      grows = λ key is. c.take_children.ensures.grows key (inv.grows key is);
      closed = index_more (λ (k : ℕ) (n : Gathered). IsClosed after (IsSeen seen) n) level i node lt
          (λ k d below. closed_later before after (held_on g.S.Shelf.is_fixed before after c.take_children.ensures.stays) (IsSeen c.loop-node.seen) (IsSeen seen) c.take_children.ensures.grows (get_or level k d) (inv.closed k d below))
          (subst (λ (n : Gathered). IsClosed after (IsSeen seen) n) c.node-item.is c.in_ok-take_children.ensures.closed);
      gathered = λ root others all are. c.in_ok-take_children.ensures.gathered root others
          (gathered_later first before (held_on g.S.Shelf.is_fixed first before inv.stays) root node (subst (IsGathered first root) (sym c.node-item.is) (all (get_or level i node) (at_place_in level i node lt)))) (inv.gathered root others all are);
      low = λ root height all low next. c.in_ok-take_children.ensures.low root height
          (gathered_later first before (held_on g.S.Shelf.is_fixed first before inv.stays) root node (subst (IsGathered first root) (sym c.node-item.is) (all (get_or level i node) (at_place_in level i node lt))))
          (let below = low (get_or level i node) (at_place_in level i node lt) in let same = ap (λ (n : Gathered). height_of n.role) c.node-item.is in omega (arith, below, same)) (inv.low root height all low next);
    }

pub returns-in_err-take_children-clause-refused : goal.returns-in_err-take_children-clause-refused
returns-in_err-take_children-clause-refused g c = λ root all.
    let first = g.S.Shelf.holds c.args.shelf.now in
    let before = g.S.Shelf.holds c.loop-node.shelf in
    let level = c.args.level.now in
    let node = c.node-item.result in
    let is = gathered_later first before (held_on g.S.Shelf.is_fixed first before c.loop-node.invariant.stays) root node
    (subst (IsGathered first root) (sym c.node-item.is) (all (get_or level c.loop-node.node-index node) (at_place_in level c.loop-node.node-index node c.loop-node-test.true))) in
    told_is c.from_residual.result c.in_err-take_children.field-0.0 (IsReason (g.S.Shelf.holds c.take_children.new.shelf) root) c.from_residual.ensures.1 (c.in_err-take_children.ensures.refused root is)

pub returns-clause-closed : goal.returns-clause-closed
returns-clause-closed g c =
    each_contained (λ (n : Gathered). IsClosed (g.S.Shelf.holds c.loop-node.shelf) (IsSeen c.loop-node.seen) n) c.args.level.now c.loop-node.node-index c.loop-node-test.false c.loop-node.invariant.closed
