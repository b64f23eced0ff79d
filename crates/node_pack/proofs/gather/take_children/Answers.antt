use Rattle.std.proofs.Common.{ℕ, [], arith, get_or, subst, ◌∙◌, ap}
use Rattle.tree_node.specs.declared.digest.Digest.{Digest}
use Rattle.node_pack.specs.Reached.{IsReason}
use Rattle.node_pack.specs.declared.role.Wanted.{Wanted}
use Rattle.node_pack.specs.internal.Gathering.{IsFound, IsSeen, wanted_below}
use Rattle.node_pack.proofs.GatherLemmas.{child_low, child_under, closed_all, found_later, held_on, index_more, stays_on}
use Rattle.node_pack.proofs.WrittenLemmas.{told_is}
use Rattle.node_pack.proofs.gather.take_children.Goals as goal

pub loop-child-preserved : goal.loop-child-preserved
loop-child-preserved g c =
    let first = g.S.Shelf.holds c.args.shelf.now in
    let before = g.S.Shelf.holds c.loop-child.shelf in
    let after = g.S.Shelf.holds c.take.new.shelf in
    let node = c.args.node.now in
    let children = c.as_slice-children.result.now in
    let i = c.loop-child.child-index in
    let d : Digest = record { 0 = [] } in
    let lt = c.loop-child-test.true in
    let inv = c.loop-child.invariant in
    let grows = held_on g.S.Shelf.is_fixed before after c.take.ensures.stays in
    let wanted_is = c.child-wanted.ensures ∙ ap (wanted_below node.role) inv.place in
    record {
      place = omega (arith, inv.place);
      stays = stays_on g.S.Shelf.is_fixed first before after inv.stays c.take.ensures.stays;
      grows = λ key is. c.take.ensures.grows key (inv.grows key is);
      closed = index_more (λ (k : ℕ) (key : Digest). IsSeen c.take.new.seen key.0 × IsFound after (wanted_below node.role k) key.0) children i d lt
          (λ k e below. (c.take.ensures.grows (get_or children k e).0 (inv.closed k e below).0, found_later before after grows (wanted_below node.role k) (get_or children k e).0 (inv.closed k e below).1))
          (c.in_ok-take.ensures.seen, subst (λ (w : Wanted). IsFound after w (get_or children i d).0) wanted_is c.in_ok-take.ensures.found);
      gathered = λ root others is are. c.in_ok-take.ensures.gathered root others
          (child_under first root node is children c.as_slice-children.ensures.value i c.loop-child.at d inv.place lt c.child-wanted.result c.child-wanted.ensures before (held_on g.S.Shelf.is_fixed first before inv.stays))
          (inv.gathered root others is are);
      low = λ root height is le low. c.in_ok-take.ensures.low height
          (child_low first root node is children c.as_slice-children.ensures.value i c.loop-child.at d inv.place lt c.child-wanted.result c.child-wanted.ensures height le) (inv.low root height is le low);
    }

pub returns-in_err-take-clause-refused : goal.returns-in_err-take-clause-refused
returns-in_err-take-clause-refused g c = λ root is.
    let first = g.S.Shelf.holds c.args.shelf.now in
    let before = g.S.Shelf.holds c.loop-child.shelf in
    let inv = c.loop-child.invariant in
    let under = child_under first root c.args.node.now is c.as_slice-children.result.now c.as_slice-children.ensures.value c.loop-child.child-index c.loop-child.at (record { 0 = [] }) inv.place c.loop-child-test.true
    c.child-wanted.result c.child-wanted.ensures before (held_on g.S.Shelf.is_fixed first before inv.stays) in
    told_is c.from_residual.result c.in_err-take.field-0.0 (IsReason (g.S.Shelf.holds c.take.new.shelf) root) c.from_residual.ensures.1 (c.in_err-take.ensures.refused root under)

pub returns-clause-closed : goal.returns-clause-closed
returns-clause-closed g c =
    closed_all (g.S.Shelf.holds c.loop-child.shelf) (IsSeen c.loop-child.seen) c.args.node.now c.as_slice-children.result.now c.as_slice-children.ensures.value c.loop-child.child-index c.loop-child-test.false c.loop-child.invariant.closed
