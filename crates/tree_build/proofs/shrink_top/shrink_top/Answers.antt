use Rattle.std.proofs.Common.{◌≡◌, inl, ◌+◌, ◌-◌, get_or, subst, arith, sym, []}
use Rattle.tree_node.specs.Nodes.{spelling}
use Rattle.tree_node.specs.Trees.{IsNodeOf, Two, levels, no_node}
use Rattle.tree_build.specs.Rebuilding.{changed_entries, digests_of}
use Rattle.tree_build.specs.StrangeShelves.{HasNoTwin, IsRefusedFor, cause_of}
use Rattle.tree_build.specs.internal.Shrinking.{IsOnlyChild}
use Rattle.tree_build.specs.internal.Towers.{tower}
use Rattle.tree_build.proofs.ErrLemmas.{fault_as, refused_more}
use Rattle.tree_build.proofs.SeekStates.{stays_then, twin_less}
use Rattle.tree_build.proofs.ShrinkLemmas.{hand_among, hand_held, hand_is, hand_new, settling_done, settling_low, settling_next, settling_node, settling_start, shrink_then}
use Rattle.tree_build.proofs.UsedLemmas.{read_down}
use Rattle.tree_build.proofs.shrink_top.shrink_top.Goals as goal

pub down-init : goal.down-init
down-init g c = record {
  stays = λ x. ((λ _ h. h), (λ h. h));
  grows = λ x h. h;
  within = omega (arith, c.requires);
  used = λ tree top changes entries can x h. inl h;
  state = λ tree top changes entries can. settling_start tree (changed_entries entries changes) c.args.edits.now _ _ c.requires can.one can.digest_is;
}

pub down-preserved : goal.down-preserved
down-preserved g c = record {
  stays = stays_then _ _ _ _ c.down.invariant.stays c.only_child_at.ensures.stays;
  grows = λ x h. c.only_child_at.ensures.grows x (c.down.invariant.grows x h);
  within = omega (arith, c.down.invariant.within);
  used = λ tree top changes entries can x h.
      let was = shrink_then _ (HasNoTwin (g.S.Shelf.used c.down.shelf)) _ _ _ _ _ _ (twin_less (g.S.Shelf.used c.down.shelf) (g.S.Shelf.used c.only_child_at.new.shelf) c.only_child_at.ensures.grows) can in
      let so = c.down.invariant.state tree top changes entries was in
      read_down (tower Two tree (changed_entries entries changes)) c.args.edits.now c.down.level (c.down.level - 1 + 1) c.index-edits-level.result x (omega (arith, c.if-level-eq0.false)) c.down.invariant.within c.index-edits-level.is (g.S.Shelf.used c.args.shelf.now x) (g.S.Shelf.used c.down.shelf x)
      (c.down.invariant.used tree top changes entries was x)
      (c.only_child_at.ensures.used (settling_node tree (changed_entries entries changes) c.args.edits.now _ _ _ c.down.level so) (hand_held (HasNoTwin (g.S.Shelf.used c.only_child_at.new.shelf)) tree top changes entries c.args.edits.now c.args.digest.now.0 can (digests_of c.args.gone.now.items) (digests_of c.down.gone.items) c.down.top.0 c.down.level c.down.invariant.within so c.index-edits-level.result c.index-edits-level.is) x h);
  state = λ tree top changes entries can.
      let was = shrink_then _ (HasNoTwin (g.S.Shelf.used c.down.shelf)) _ _ _ _ _ _ (twin_less (g.S.Shelf.used c.down.shelf) (g.S.Shelf.used c.only_child_at.new.shelf) c.only_child_at.ensures.grows) can in
      let so = c.down.invariant.state tree top changes entries was in
      let child = c.in_ok-below.ensures.child (settling_node tree (changed_entries entries changes) c.args.edits.now _ _ _ c.down.level so) (hand_is (HasNoTwin (g.S.Shelf.used c.only_child_at.new.shelf)) tree top changes entries c.args.edits.now c.args.digest.now.0 can (digests_of c.args.gone.now.items) (digests_of c.down.gone.items) c.down.top.0 c.down.level c.down.invariant.within so c.index-edits-level.result c.index-edits-level.is)
      (hand_held (HasNoTwin (g.S.Shelf.used c.only_child_at.new.shelf)) tree top changes entries c.args.edits.now c.args.digest.now.0 can (digests_of c.args.gone.now.items) (digests_of c.down.gone.items) c.down.top.0 c.down.level c.down.invariant.within so c.index-edits-level.result c.index-edits-level.is)
      (hand_new (HasNoTwin (g.S.Shelf.used c.only_child_at.new.shelf)) tree top changes entries c.args.edits.now c.args.digest.now.0 can (digests_of c.args.gone.now.items) (digests_of c.down.gone.items) c.down.top.0 c.down.level c.down.invariant.within so c.index-edits-level.result c.index-edits-level.is) in
      settling_next tree (changed_entries entries changes) c.args.edits.now _ _ _ c.down.level so c.index-edits-level-in-Some.result c.index-edits-level-in-Some.is c.in-Some.below
      (subst (λ o. IsOnlyChild (get_or (tower Two tree (changed_entries entries changes) c.down.level) 0 no_node) o) c.in-Some.is child) _ c.in_ok-push_stayed.ensures;
}

pub returns-clause-settled : goal.returns-clause-settled
returns-clause-settled g c = λ tree top changes entries can.
    let was = shrink_then _ (HasNoTwin (g.S.Shelf.used c.down.shelf)) _ _ _ _ _ _ (twin_less (g.S.Shelf.used c.down.shelf) (g.S.Shelf.used c.only_child_at.new.shelf) c.only_child_at.ensures.grows) can in
    let so = c.down.invariant.state tree top changes entries was in
    let child = c.in_ok-below.ensures.child (settling_node tree (changed_entries entries changes) c.args.edits.now _ _ _ c.down.level so) (hand_is (HasNoTwin (g.S.Shelf.used c.only_child_at.new.shelf)) tree top changes entries c.args.edits.now c.args.digest.now.0 can (digests_of c.args.gone.now.items) (digests_of c.down.gone.items) c.down.top.0 c.down.level c.down.invariant.within so c.index-edits-level.result c.index-edits-level.is)
    (hand_held (HasNoTwin (g.S.Shelf.used c.only_child_at.new.shelf)) tree top changes entries c.args.edits.now c.args.digest.now.0 can (digests_of c.args.gone.now.items) (digests_of c.down.gone.items) c.down.top.0 c.down.level c.down.invariant.within so c.index-edits-level.result c.index-edits-level.is)
    (hand_new (HasNoTwin (g.S.Shelf.used c.only_child_at.new.shelf)) tree top changes entries c.args.edits.now c.args.digest.now.0 can (digests_of c.args.gone.now.items) (digests_of c.down.gone.items) c.down.top.0 c.down.level c.down.invariant.within so c.index-edits-level.result c.index-edits-level.is) in
    settling_done tree (changed_entries entries changes) c.args.edits.now _ _ _ c.down.level so
    (subst (λ o. IsOnlyChild (get_or (tower Two tree (changed_entries entries changes) c.down.level) 0 no_node) o) c.in_default.is child)

pub returns-clause-used : goal.returns-clause-used
returns-clause-used g c = λ tree top changes entries can x h.
    let was = shrink_then _ (HasNoTwin (g.S.Shelf.used c.down.shelf)) _ _ _ _ _ _ (twin_less (g.S.Shelf.used c.down.shelf) (g.S.Shelf.used c.only_child_at.new.shelf) c.only_child_at.ensures.grows) can in
    let so = c.down.invariant.state tree top changes entries was in
    read_down (tower Two tree (changed_entries entries changes)) c.args.edits.now c.down.level c.down.level c.index-edits-level.result x (omega arith) c.down.invariant.within c.index-edits-level.is (g.S.Shelf.used c.args.shelf.now x) (g.S.Shelf.used c.down.shelf x)
    (c.down.invariant.used tree top changes entries was x)
    (c.only_child_at.ensures.used (settling_node tree (changed_entries entries changes) c.args.edits.now _ _ _ c.down.level so) (hand_held (HasNoTwin (g.S.Shelf.used c.only_child_at.new.shelf)) tree top changes entries c.args.edits.now c.args.digest.now.0 can (digests_of c.args.gone.now.items) (digests_of c.down.gone.items) c.down.top.0 c.down.level c.down.invariant.within so c.index-edits-level.result c.index-edits-level.is) x h)

pub returns-in_err-below-clause-told : goal.returns-in_err-below-clause-told
returns-in_err-below-clause-told g c = λ tree top changes entries can.
    let was = shrink_then _ (HasNoTwin (g.S.Shelf.used c.down.shelf)) _ _ _ _ _ _ (twin_less (g.S.Shelf.used c.down.shelf) (g.S.Shelf.used c.only_child_at.new.shelf) c.only_child_at.ensures.grows) can in
    let so = c.down.invariant.state tree top changes entries was in
    fault_as (IsRefusedFor (levels Two tree entries) (g.S.Shelf.holds c.only_child_at.new.shelf)) c.from_residual.result c.in_err-below.field-0.0 c.from_residual.ensures.1
    (refused_more (λ bytes. (c.index-edits-level.result.news.items ≡ []) × (bytes ≡ spelling (settling_node tree (changed_entries entries changes) c.args.edits.now _ _ _ c.down.level so))) (IsNodeOf (levels Two tree entries)) (g.S.Shelf.holds c.only_child_at.new.shelf) (cause_of c.in_err-below.field-0.0)
    (λ x (none_new, same). subst (IsNodeOf (levels Two tree entries)) (sym same) (hand_among (HasNoTwin (g.S.Shelf.used c.only_child_at.new.shelf)) tree top changes entries c.args.edits.now c.args.digest.now.0 can (digests_of c.args.gone.now.items) (digests_of c.down.gone.items) c.down.top.0 c.down.level c.down.invariant.within so c.index-edits-level.result c.index-edits-level.is none_new))
    (c.in_err-below.ensures.told (settling_node tree (changed_entries entries changes) c.args.edits.now _ _ _ c.down.level so) (hand_held (HasNoTwin (g.S.Shelf.used c.only_child_at.new.shelf)) tree top changes entries c.args.edits.now c.args.digest.now.0 can (digests_of c.args.gone.now.items) (digests_of c.down.gone.items) c.down.top.0 c.down.level c.down.invariant.within so c.index-edits-level.result c.index-edits-level.is)))

pub returns-then-level-eq0-clause-told : goal.returns-then-level-eq0-clause-told
returns-then-level-eq0-clause-told g c = λ tree top changes entries can.
    let was = shrink_then _ (HasNoTwin (g.S.Shelf.used c.down.shelf)) _ _ _ _ _ _ (twin_less (g.S.Shelf.used c.down.shelf) (g.S.Shelf.used c.only_child_at.new.shelf) c.only_child_at.ensures.grows) can in
    let so = c.down.invariant.state tree top changes entries was in
    let child = c.in_ok-below.ensures.child (settling_node tree (changed_entries entries changes) c.args.edits.now _ _ _ c.down.level so) (hand_is (HasNoTwin (g.S.Shelf.used c.only_child_at.new.shelf)) tree top changes entries c.args.edits.now c.args.digest.now.0 can (digests_of c.args.gone.now.items) (digests_of c.down.gone.items) c.down.top.0 c.down.level c.down.invariant.within so c.index-edits-level.result c.index-edits-level.is)
    (hand_held (HasNoTwin (g.S.Shelf.used c.only_child_at.new.shelf)) tree top changes entries c.args.edits.now c.args.digest.now.0 can (digests_of c.args.gone.now.items) (digests_of c.down.gone.items) c.down.top.0 c.down.level c.down.invariant.within so c.index-edits-level.result c.index-edits-level.is)
    (hand_new (HasNoTwin (g.S.Shelf.used c.only_child_at.new.shelf)) tree top changes entries c.args.edits.now c.args.digest.now.0 can (digests_of c.args.gone.now.items) (digests_of c.down.gone.items) c.down.top.0 c.down.level c.down.invariant.within so c.index-edits-level.result c.index-edits-level.is) in
    let low = settling_low tree (changed_entries entries changes) c.args.edits.now _ _ _ c.down.level so c.in-Some.below (subst (λ o. IsOnlyChild (get_or (tower Two tree (changed_entries entries changes) c.down.level) 0 no_node) o) c.in-Some.is child) in
    absurd (omega (arith, low, c.if-level-eq0.true))
