use Rattle.std.proofs.Common.{[], List, ◌⊎◌, inl, inr, length, refl, sym, ap, subst, length-append, ◌∷◌, arith}
use Rattle.tree_node.specs.NodeRefs.{node_read, number_of}
use Rattle.tree_node.specs.Trees.{IsNodeOf, Two, ends_by, levels}
use Rattle.tree_build.proofs.DescentLemmas.{level_some_at}
use Rattle.tree_build.proofs.SeekStates.{level_then, stays_then, twin_less}
use Rattle.tree_build.specs.StrangeShelves.{HasNoTwin, IsRefusedFor}
use Rattle.tree_build.specs.internal.ItemChanges.{PutsKnown, changes_meant}
use Rattle.tree_build.specs.internal.Steps.{CanChange, HaveReasons, changed_nodes, keys_changed, nodes_at}
use Rattle.tree_build.specs.internal.Holding.{IsOnWayTo}
use Rattle.tree_build.specs.declared.old_node.OldNode.{OldNode}
use Rattle.tree_build.proofs.MarkLemmas.{all_part, sought_inside}
use Rattle.tree_build.proofs.ReasonLemmas.{first_reasons, last_reasons, next_reasons}
use Rattle.tree_build.proofs.UsedLemmas.{way_more}
use Rattle.tree_build.proofs.StepLoops.{edit_of, end_state, opened_room, opened_some, start_state, turn, went_then, within_rest}
use Rattle.tree_build.proofs.ErrLemmas.{fault_as, if_err, memory_told}
use Rattle.tree_build.proofs.step.change_level.Goals as goal

pub loop-wanted-init : goal.loop-wanted-init
loop-wanted-init g c = record {
  stays = λ x. ((λ _ h. h), (λ h. h));
  grows = λ x h. h;
  used = λ entries held x h. inl h;
  state = λ entries has.
      start_state g.T.NodeItem.meaning g.T.NodeItem.key_in (ends_by Two g.T.NodeItem.marked_in) g.T.NodeItem.items_in (g.T.NodeItem.node_over (number_of c.args.place.tree) c.args.place.level) g.T.NodeItem.Fit (nodes_at c.args.place entries) c.args.changes.now has.can (level_some_at (number_of c.args.place.tree) entries c.args.place.level has.level.within) _ _ _
      c.start-work.ensures.olds c.start-work.ensures.news c.start-work.ensures.pending;
  reasons = λ entries has. first_reasons g.T.NodeItem.meaning g.T.NodeItem.key_in (ends_by Two g.T.NodeItem.marked_in) g.T.NodeItem.items_in (g.T.NodeItem.node_over (number_of c.args.place.tree) c.args.place.level) g.T.NodeItem.Fit (nodes_at c.args.place entries) c.args.changes.now has.can (g.met.T.NodeItem.same_items (number_of c.args.place.tree) c.args.place.level) c.start-work.result.olds.items c.start-work.ensures.olds;
  opened = inr (refl, c.start-work.ensures.pending);
  few = omega (arith, ap length c.start-work.ensures.pending);
  within = omega arith;
}

pub take-requires : goal.take-requires
take-requires g c κs = ((refl, tt), (c.loop-wanted.invariant.few, all_part (PutsKnown g.T.NodeItem.knows_mark) c.args.changes.now _ c.loop-wanted.done c.requires.known))

pub loop-wanted-smaller : goal.loop-wanted-smaller
loop-wanted-smaller g c = omega (arith, c.if-len-ge-ENTRY_LIMIT.false, c.len.ensures, c.loop-wanted.work.olds.ok.0, ap length c.in_ok-take.ensures.olds, length-append c.loop-wanted.work.olds.items (c.in_ok-found.found.old ∷ []))

pub loop-wanted-preserved : goal.loop-wanted-preserved
loop-wanted-preserved g c = record {
  stays = stays_then _ _ _ _ c.loop-wanted.invariant.stays c.seek.ensures.stays;
  grows = λ x h. c.seek.ensures.grows x (c.loop-wanted.invariant.grows x h);
  used = λ entries held x h.
      let was = level_then _ (HasNoTwin (g.S.Shelf.used c.loop-wanted.shelf)) c.args.place.top.0 (number_of c.args.place.tree) c.args.place.level entries (twin_less (g.S.Shelf.used c.loop-wanted.shelf) (g.S.Shelf.used c.seek.new.shelf) c.seek.ensures.grows) held in
      way_more (levels Two (number_of c.args.place.tree) entries) c.args.place.level c.loop-wanted.work.olds.items c.take.new.work.olds.items c.in_ok-found.found.old c.in_ok-take.ensures.olds
      c.in-Some.wanted.now c.in-Some.above (node_read c.in_ok-found.found.node) c.in_ok-found.is_last (c.in_ok-found.ensures.node (number_of c.args.place.tree) entries held) c.in_ok-found.ensures.old x (g.S.Shelf.used c.args.shelf.now x) (g.S.Shelf.used c.loop-wanted.shelf x)
      (c.loop-wanted.invariant.used entries was x) (c.in_ok-found.ensures.used (number_of c.args.place.tree) entries held x h);
  state = λ entries has.
      let alone = has.level in
      let was : CanChange (HasNoTwin (g.S.Shelf.used c.loop-wanted.shelf)) c.args.place g.T.NodeItem.key_in g.T.NodeItem.marked_in g.T.NodeItem.items_in g.T.NodeItem.node_over g.T.NodeItem.Fit entries (changes_meant g.T.NodeItem.meaning c.args.changes.now) =
      record { level = level_then _ (HasNoTwin (g.S.Shelf.used c.loop-wanted.shelf)) c.args.place.top.0 (number_of c.args.place.tree) c.args.place.level entries (twin_less (g.S.Shelf.used c.loop-wanted.shelf) (g.S.Shelf.used c.seek.new.shelf) c.seek.ensures.grows) alone; can = has.can } in
      let t = turn g.T.NodeItem.meaning g.T.NodeItem.key_in (ends_by Two g.T.NodeItem.marked_in) g.T.NodeItem.items_in (g.T.NodeItem.node_over (number_of c.args.place.tree) c.args.place.level) g.T.NodeItem.Fit (nodes_at c.args.place entries) c.args.changes.now has.can g.met.T.NodeItem.parts _ _ c.loop-wanted.work.pending.items c.loop-wanted.done (c.loop-wanted.invariant.state entries was) (c.in-Some.wanted, c.in-Some.above) c.in-Some.ensures
      (levels Two (number_of c.args.place.tree) entries) c.args.place.level refl (node_read c.in_ok-found.found.node) c.in_ok-found.is_last (c.in_ok-found.ensures.node (number_of c.args.place.tree) entries alone)
      c.in_ok-found.found.old c.in_ok-found.ensures.old c.count_up_to.result c.count_up_to.ensures.last c.count_up_to.ensures.up_to c.count_up_to.ensures.above in
      went_then g.T.NodeItem.meaning g.T.NodeItem.key_in (ends_by Two g.T.NodeItem.marked_in) g.T.NodeItem.items_in (g.T.NodeItem.node_over (number_of c.args.place.tree) c.args.place.level) g.T.NodeItem.Fit (nodes_at c.args.place entries) c.args.changes.now has.can _ _ _ _ _ _ _ _ t _ _ c.take.new.work.pending.items c.in_ok-take.ensures.olds (c.in_ok-take.ensures.went_on (sought_inside (number_of c.args.place.tree) entries c.args.place.level has.level.within _ _ (node_read c.in_ok-found.found.node) c.in_ok-found.is_last (c.in_ok-found.ensures.node (number_of c.args.place.tree) entries alone)));
  reasons = λ entries has.
      let alone = has.level in
      let was : CanChange (HasNoTwin (g.S.Shelf.used c.loop-wanted.shelf)) c.args.place g.T.NodeItem.key_in g.T.NodeItem.marked_in g.T.NodeItem.items_in g.T.NodeItem.node_over g.T.NodeItem.Fit entries (changes_meant g.T.NodeItem.meaning c.args.changes.now) =
      record { level = level_then _ (HasNoTwin (g.S.Shelf.used c.loop-wanted.shelf)) c.args.place.top.0 (number_of c.args.place.tree) c.args.place.level entries (twin_less (g.S.Shelf.used c.loop-wanted.shelf) (g.S.Shelf.used c.seek.new.shelf) c.seek.ensures.grows) alone; can = has.can } in
      next_reasons g.T.NodeItem.meaning g.T.NodeItem.key_in (ends_by Two g.T.NodeItem.marked_in) g.T.NodeItem.items_in (g.T.NodeItem.node_over (number_of c.args.place.tree) c.args.place.level) g.T.NodeItem.Fit (nodes_at c.args.place entries) c.args.changes.now has.can (g.met.T.NodeItem.same_items (number_of c.args.place.tree) c.args.place.level) g.met.T.NodeItem.parts _ _ c.loop-wanted.work.pending.items c.loop-wanted.done (c.loop-wanted.invariant.state entries was) (c.in-Some.wanted, c.in-Some.above) c.in-Some.ensures
      (levels Two (number_of c.args.place.tree) entries) c.args.place.level refl (node_read c.in_ok-found.found.node) c.in_ok-found.is_last (c.in_ok-found.ensures.node (number_of c.args.place.tree) entries alone)
      c.in_ok-found.found.old c.in_ok-found.ensures.old c.count_up_to.result c.count_up_to.ensures.last c.count_up_to.ensures.up_to c.count_up_to.ensures.above (c.loop-wanted.invariant.reasons entries was) c.take.new.work.olds.items c.in_ok-take.ensures.olds;
  opened = inl (omega (arith, ap length c.in_ok-take.ensures.olds, length-append c.loop-wanted.work.olds.items (c.in_ok-found.found.old ∷ [])));
  few = c.in_ok-take.ensures.few;
  within = within_rest c.args.changes.now _ _ c.loop-wanted.invariant.within c.count_up_to.ensures.within;
}

pub returns-clause-edited : goal.returns-clause-edited
returns-clause-edited g c = λ entries has.
    let done = end_state g.T.NodeItem.meaning g.T.NodeItem.key_in (ends_by Two g.T.NodeItem.marked_in) g.T.NodeItem.items_in (g.T.NodeItem.node_over (number_of c.args.place.tree) c.args.place.level) g.T.NodeItem.Fit (nodes_at c.args.place entries) c.args.changes.now has.can _ _ c.loop-wanted.work.pending.items c.loop-wanted.done (c.loop-wanted.invariant.state entries has) c.in_default.ensures in
    edit_of g.T.NodeItem.meaning g.T.NodeItem.key_in (ends_by Two g.T.NodeItem.marked_in) g.T.NodeItem.items_in (g.T.NodeItem.node_over (number_of c.args.place.tree) c.args.place.level) g.T.NodeItem.Fit (nodes_at c.args.place entries) c.args.changes.now has.can _ _ done c.finish.result (ap (λ v. v.items) c.finish.ensures.olds) (ap (λ v. v.items) c.finish.ensures.news)

pub returns-clause-some : goal.returns-clause-some
returns-clause-some g c = λ some.
    opened_some c.args.changes.now c.loop-wanted.work.olds.items c.loop-wanted.work.pending.items c.loop-wanted.done some c.loop-wanted.invariant.opened c.in_default.ensures c.finish.result (ap (λ v. v.items) c.finish.ensures.olds)

pub returns-clause-used : goal.returns-clause-used
returns-clause-used g c = λ entries held x h.
    subst (λ (os : List OldNode). g.S.Shelf.used c.args.shelf.now x ⊎ IsOnWayTo (levels Two (number_of c.args.place.tree) entries) c.args.place.level os x) (sym (ap (λ v. v.items) c.finish.ensures.olds))
    (c.loop-wanted.invariant.used entries held x h)

pub returns-clause-reasons : goal.returns-clause-reasons
returns-clause-reasons g c = λ entries has.
    let nodes = nodes_at c.args.place entries in
    let keys = keys_changed (changes_meant g.T.NodeItem.meaning c.args.changes.now) in
    let new = changed_nodes c.args.place g.T.NodeItem.key_in g.T.NodeItem.marked_in g.T.NodeItem.items_in g.T.NodeItem.node_over entries (changes_meant g.T.NodeItem.meaning c.args.changes.now) in
    subst (λ (os : List OldNode). HaveReasons nodes new keys keys os) (sym (ap (λ v. v.items) c.finish.ensures.olds))
    (last_reasons g.T.NodeItem.meaning g.T.NodeItem.key_in (ends_by Two g.T.NodeItem.marked_in) g.T.NodeItem.items_in (g.T.NodeItem.node_over (number_of c.args.place.tree) c.args.place.level) g.T.NodeItem.Fit (nodes_at c.args.place entries) c.args.changes.now has.can (g.met.T.NodeItem.same_items (number_of c.args.place.tree) c.args.place.level) c.loop-wanted.work.olds.items c.loop-wanted.work.news.items c.loop-wanted.work.pending.items c.loop-wanted.done (c.loop-wanted.invariant.state entries has) c.in_default.ensures (c.loop-wanted.invariant.reasons entries has))

pub returns-in_err-found-clause-edited : goal.returns-in_err-found-clause-edited
returns-in_err-found-clause-edited g c = λ entries has. if_err _ c.from_residual.result c.from_residual.ensures.0

pub returns-in_err-found-clause-some : goal.returns-in_err-found-clause-some
returns-in_err-found-clause-some g c = λ some. if_err _ c.from_residual.result c.from_residual.ensures.0

pub returns-in_err-found-clause-used : goal.returns-in_err-found-clause-used
returns-in_err-found-clause-used g c = λ entries held. if_err _ c.from_residual.result c.from_residual.ensures.0

pub returns-in_err-found-clause-reasons : goal.returns-in_err-found-clause-reasons
returns-in_err-found-clause-reasons g c = λ entries has. if_err _ c.from_residual.result c.from_residual.ensures.0

pub returns-in_err-found-clause-stays : goal.returns-in_err-found-clause-stays
returns-in_err-found-clause-stays g c = stays_then _ _ _ _ c.loop-wanted.invariant.stays c.seek.ensures.stays

pub returns-in_err-found-clause-grows : goal.returns-in_err-found-clause-grows
returns-in_err-found-clause-grows g c = λ x h. c.seek.ensures.grows x (c.loop-wanted.invariant.grows x h)

pub returns-in_err-found-clause-told : goal.returns-in_err-found-clause-told
returns-in_err-found-clause-told g c = λ entries has.
    fault_as (IsRefusedFor (levels Two (number_of c.args.place.tree) entries) (g.S.Shelf.holds c.seek.new.shelf)) c.from_residual.result c.in_err-found.field-0.0 c.from_residual.ensures.1 (c.in_err-found.ensures.told (number_of c.args.place.tree) entries has.level)

pub returns-in_err-take-clause-edited : goal.returns-in_err-take-clause-edited
returns-in_err-take-clause-edited g c = λ entries has. if_err _ c.from_residual-in_err-take.result c.from_residual-in_err-take.ensures.0

pub returns-in_err-take-clause-some : goal.returns-in_err-take-clause-some
returns-in_err-take-clause-some g c = λ some. if_err _ c.from_residual-in_err-take.result c.from_residual-in_err-take.ensures.0

pub returns-in_err-take-clause-used : goal.returns-in_err-take-clause-used
returns-in_err-take-clause-used g c = λ entries held. if_err _ c.from_residual-in_err-take.result c.from_residual-in_err-take.ensures.0

pub returns-in_err-take-clause-reasons : goal.returns-in_err-take-clause-reasons
returns-in_err-take-clause-reasons g c = λ entries has. if_err _ c.from_residual-in_err-take.result c.from_residual-in_err-take.ensures.0

pub returns-in_err-take-clause-stays : goal.returns-in_err-take-clause-stays
returns-in_err-take-clause-stays g c = stays_then _ _ _ _ c.loop-wanted.invariant.stays c.seek.ensures.stays

pub returns-in_err-take-clause-grows : goal.returns-in_err-take-clause-grows
returns-in_err-take-clause-grows g c = λ x h. c.seek.ensures.grows x (c.loop-wanted.invariant.grows x h)

pub returns-in_err-take-clause-told : goal.returns-in_err-take-clause-told
returns-in_err-take-clause-told g c = λ entries has.
    let alone = has.level in
    let was : CanChange (HasNoTwin (g.S.Shelf.used c.loop-wanted.shelf)) c.args.place g.T.NodeItem.key_in g.T.NodeItem.marked_in g.T.NodeItem.items_in g.T.NodeItem.node_over g.T.NodeItem.Fit entries (changes_meant g.T.NodeItem.meaning c.args.changes.now) =
    record { level = level_then _ (HasNoTwin (g.S.Shelf.used c.loop-wanted.shelf)) c.args.place.top.0 (number_of c.args.place.tree) c.args.place.level entries (twin_less (g.S.Shelf.used c.loop-wanted.shelf) (g.S.Shelf.used c.seek.new.shelf) c.seek.ensures.grows) alone; can = has.can } in
    let t = turn g.T.NodeItem.meaning g.T.NodeItem.key_in (ends_by Two g.T.NodeItem.marked_in) g.T.NodeItem.items_in (g.T.NodeItem.node_over (number_of c.args.place.tree) c.args.place.level) g.T.NodeItem.Fit (nodes_at c.args.place entries) c.args.changes.now has.can g.met.T.NodeItem.parts _ _ c.loop-wanted.work.pending.items c.loop-wanted.done (c.loop-wanted.invariant.state entries was) (c.in-Some.wanted, c.in-Some.above) c.in-Some.ensures
    (levels Two (number_of c.args.place.tree) entries) c.args.place.level refl (node_read c.in_ok-found.found.node) c.in_ok-found.is_last (c.in_ok-found.ensures.node (number_of c.args.place.tree) entries alone)
    c.in_ok-found.found.old c.in_ok-found.ensures.old c.count_up_to.result c.count_up_to.ensures.last c.count_up_to.ensures.up_to c.count_up_to.ensures.above in
    fault_as (IsRefusedFor (levels Two (number_of c.args.place.tree) entries) (g.S.Shelf.holds c.seek.new.shelf)) c.from_residual-in_err-take.result c.in_err-take.field-0.0 c.from_residual-in_err-take.ensures.1
    (memory_told (IsNodeOf (levels Two (number_of c.args.place.tree) entries)) (g.S.Shelf.holds c.seek.new.shelf) c.in_err-take.field-0.0 (c.in_err-take.ensures.served t.own t.fit))

pub returns-clause-stays : goal.returns-clause-stays
returns-clause-stays g c = c.loop-wanted.invariant.stays

pub returns-clause-grows : goal.returns-clause-grows
returns-clause-grows g c = c.loop-wanted.invariant.grows

pub returns-then-len-ge-ENTRY_LIMIT-clause-told : goal.returns-then-len-ge-ENTRY_LIMIT-clause-told
returns-then-len-ge-ENTRY_LIMIT-clause-told g c = λ entries has.
    let alone = has.level in
    let was : CanChange (HasNoTwin (g.S.Shelf.used c.loop-wanted.shelf)) c.args.place g.T.NodeItem.key_in g.T.NodeItem.marked_in g.T.NodeItem.items_in g.T.NodeItem.node_over g.T.NodeItem.Fit entries (changes_meant g.T.NodeItem.meaning c.args.changes.now) =
    record { level = level_then _ (HasNoTwin (g.S.Shelf.used c.loop-wanted.shelf)) c.args.place.top.0 (number_of c.args.place.tree) c.args.place.level entries (twin_less (g.S.Shelf.used c.loop-wanted.shelf) (g.S.Shelf.used c.seek.new.shelf) c.seek.ensures.grows) alone; can = has.can } in
    let room = opened_room g.T.NodeItem.meaning g.T.NodeItem.key_in (ends_by Two g.T.NodeItem.marked_in) g.T.NodeItem.items_in (g.T.NodeItem.node_over (number_of c.args.place.tree) c.args.place.level) g.T.NodeItem.Fit (nodes_at c.args.place entries) c.args.changes.now has.can g.met.T.NodeItem.parts _ _ c.loop-wanted.work.pending.items c.loop-wanted.done (c.loop-wanted.invariant.state entries was) (c.in-Some.wanted, c.in-Some.above) c.in-Some.ensures
    (levels Two (number_of c.args.place.tree) entries) c.args.place.level refl (node_read c.in_ok-found.found.node) c.in_ok-found.is_last (c.in_ok-found.ensures.node (number_of c.args.place.tree) entries alone) in
    absurd (omega (arith, room, c.if-len-ge-ENTRY_LIMIT.true, c.len.ensures, c.loop-wanted.work.olds.ok.0))
