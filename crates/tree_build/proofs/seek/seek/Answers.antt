use Rattle.std.proofs.Common.{◌≡◌, ◌<◌, sym, subst, arith}
use Rattle.tree_node.specs.NodeRefs.{link_of, node_read}
use Rattle.tree_node.specs.Nodes.{level_of, spelling}
use Rattle.tree_node.specs.Trees.{IsNodeOf, Two, levels}
use Rattle.tree_build.specs.StrangeShelves.{HasNoTwin, IsRefusedFor, cause_of}
use Rattle.tree_build.proofs.ErrLemmas.{fault_as, refused_more}
use Rattle.tree_build.proofs.SeekStates.{seek_child, seek_done, seek_links, seek_next, seek_smaller, seek_start, stays_then, top_node}
use Rattle.tree_build.proofs.seek.seek.Goals as goal

pub loop-found-init : goal.loop-found-init
loop-found-init g c =
    record {
      stays = c.open_old.ensures.stays;
      state = seek_start _ _ _ _ _ _ _ (record { grows = c.open_old.ensures.grows; found_is = c.in_ok-found.ensures.node; only = c.in_ok-found.ensures.used });
      old = c.in_ok-found.ensures.old;
    }

pub loop-found-smaller : goal.loop-found-smaller
loop-found-smaller g c = omega arith

pub loop-found-preserved : goal.loop-found-preserved
loop-found-preserved g c =
    let higher : c.args.level < level_of (node_read c.loop-found.found.node) = omega arith in
    let picked = c.in-Some.ensures.some in
    record {
      stays = stays_then _ _ _ _ c.loop-found.invariant.stays c.open_old-in-loop-found.ensures.stays;
      state = rw c.are_both-last.ensures
          (seek_next _ _ _ _ _ _ _ _ c.loop-found.invariant.state higher _ (link_of c.in-Some.child) _ _ picked.2 picked.3 _ _
          (record { grows = c.open_old-in-loop-found.ensures.grows; found_is = c.in_ok-below.ensures.node; only = c.in_ok-below.ensures.used }));
      old = c.in_ok-below.ensures.old;
    }

pub returns-clause-node : goal.returns-clause-node
returns-clause-node g c = λ tree entries held. seek_done _ _ _ _ _ _ _ _ c.loop-found.invariant.state (omega arith) tree entries held.is held.within

pub returns-clause-used : goal.returns-clause-used
returns-clause-used g c = λ tree entries held. c.loop-found.invariant.state.only tree entries held.is held.within

pub returns-in_err-found-clause-told : goal.returns-in_err-found-clause-told
returns-in_err-found-clause-told g c = λ tree entries held.
    let here = top_node (HasNoTwin (g.S.Shelf.used c.open_old.new.shelf)) c.args.top.now.0 tree entries held.is (omega (arith, held.within)) c.args.wanted.now c.args.above in
    fault_as (IsRefusedFor (levels Two tree entries) (g.S.Shelf.holds c.open_old.new.shelf)) c.from_residual.result c.in_err-found.field-0.0 c.from_residual.ensures.1
    (refused_more (λ bytes. bytes ≡ spelling here.node) (IsNodeOf (levels Two tree entries)) (g.S.Shelf.holds c.open_old.new.shelf) (cause_of c.in_err-found.field-0.0) (λ x same. subst (IsNodeOf (levels Two tree entries)) (sym same) here.among) (c.in_err-found.ensures.told here.node here.is_held))

pub returns-in_default-clause-told : goal.returns-in_default-clause-told
returns-in_default-clause-told g c = λ tree entries held.
    let higher : c.args.level < level_of (node_read c.loop-found.found.node) = omega arith in
    absurd (omega (arith, c.in_default.ensures.none, seek_links _ _ _ _ _ _ _ _ c.loop-found.invariant.state higher tree entries held.is held.within))

pub returns-in_err-below-clause-told : goal.returns-in_err-below-clause-told
returns-in_err-below-clause-told g c = λ tree entries held.
    let higher : c.args.level < level_of (node_read c.loop-found.found.node) = omega arith in
    let picked = c.in-Some.ensures.some in
    let here = seek_child _ _ _ _ _ _ _ _ c.loop-found.invariant.state higher _ (link_of c.in-Some.child) _ _ picked.2 picked.3 (g.S.Shelf.used c.open_old-in-loop-found.new.shelf) c.open_old-in-loop-found.ensures.grows tree entries held.is held.within in
    fault_as (IsRefusedFor (levels Two tree entries) (g.S.Shelf.holds c.open_old-in-loop-found.new.shelf)) c.from_residual-in_err-below.result c.in_err-below.field-0.0 c.from_residual-in_err-below.ensures.1
    (refused_more (λ bytes. bytes ≡ spelling here.node) (IsNodeOf (levels Two tree entries)) (g.S.Shelf.holds c.open_old-in-loop-found.new.shelf) (cause_of c.in_err-below.field-0.0) (λ x same. subst (IsNodeOf (levels Two tree entries)) (sym same) here.among) (c.in_err-below.ensures.told here.node here.is_held))

pub returns-then-level_in-clause-told : goal.returns-then-level_in-clause-told
returns-then-level_in-clause-told g c = λ tree entries held.
    let higher : c.args.level < level_of (node_read c.loop-found.found.node) = omega arith in
    let picked = c.in-Some.ensures.some in
    let lower = seek_smaller _ _ _ _ _ _ _ _ c.loop-found.invariant.state higher _ (link_of c.in-Some.child) _ _ picked.2 picked.3 (g.S.Shelf.used c.open_old-in-loop-found.new.shelf) _
    (record { grows = c.open_old-in-loop-found.ensures.grows; found_is = c.in_ok-below.ensures.node; only = c.in_ok-below.ensures.used }) tree entries held.is held.within in
    absurd (omega (arith, lower))
