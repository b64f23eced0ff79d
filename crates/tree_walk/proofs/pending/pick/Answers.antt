use Rattle.std.proofs.Common.{◌≡◌, ◌++◌, ◌∷◌, List, ℕ, [], Option, Some, sym, ap, subst, ◌∙◌}
use Rattle.std.proofs.lemmas.List.{append-nil}
use Rattle.smallvec.specs.SmallVec.{SmallVec}
use Rattle.std.specs.List.{AllByRecursion}
use Rattle.std.specs.Option.{option_copied}
use Rattle.tree_node.specs.NodeRefs.{link_of}
use Rattle.tree_node.specs.Nodes.{AreRisingFrom, Link, greatests_of}
use Rattle.tree_node.specs.Skips.{key_before}
use Rattle.tree_walk.specs.internal.Accounts.{Gains}
use Rattle.tree_walk.specs.internal.Openings.{IsClosedChild, IsOpenChild}
use Rattle.tree_walk.specs.Spans.{children_placed}
use Rattle.tree_walk.specs.internal.Pendings.{spot_of, spots_of}
use Rattle.tree_walk.specs.Ranges.{IsAtMost, range_of}
use Rattle.tree_walk.specs.Given.{GoesOnAbove, IsEntered}
use Rattle.tree_walk.proofs.ChoiceLemmas.{ArePicked, fails_not, one_after, picked_all, picked_one, picked_other, picked_stop}
use Rattle.tree_walk.proofs.AccountLemmas.{gains_none, gains_then}
use Rattle.tree_walk.proofs.EndLemmas.{closed_low, none_closed, none_entered, none_open}
use Rattle.tree_walk.proofs.MeetLemmas.{low_from_meets, meets_from_both}
use Rattle.tree_walk.proofs.SkipLemmas.{bound_is, children_skipped, found_from, found_rises}
use Rattle.tree_walk.proofs.pending.pick.Goals.{then-not-closes+in_ok-push, else-not-closes}
use Rattle.tree_walk.proofs.pending.pick.Goals as goal

pub loop-child-init : goal.loop-child-init
loop-child-init g c =
    let same = c.into_iter-child-iterator.ensures.into_iter_gives in
    let range = range_of c.args.range.now in
    let key_of = λ (link : Link). link.greatest in
    let left = option_copied c.args.left in
    let links = c.args.children in
    let bound : option_copied c.or-bound.result ≡ key_before key_of range.lo left links =
    bound_is range.lo c.skip_below-children.result.0 c.args.left c.or-bound.result links c.or-bound.ensures c.skip_below-children.ensures.before in
    record {
      rising = rw (same, bound, c.skip_below-children.ensures.children) (found_rises key_of range.lo left links c.requires.rising);
      from = rw (same, c.skip_below-children.ensures.children) (found_from key_of range.lo left links c.requires.rising);
      so_far = (
        [],
        [],
        sym (append-nil (spots_of c.args.pending.now.items)),
        rw (same, bound, c.skip_below-children.ensures.children) (children_skipped range.lo (IsOpenChild g.G.Gather.closing range) (λ low link is. low_from_meets range low link.greatest is.0) left links),
        rw (same, bound, c.skip_below-children.ensures.children) (children_skipped range.lo (IsClosedChild g.G.Gather.closing range) (λ low link is. closed_low g.G.Gather.closing range low link.greatest is) left links),
        gains_none g.G.Gather.gathers c.args.gathered.now,
        rw (same, bound, c.skip_below-children.ensures.children) (children_skipped range.lo (IsEntered (IsClosedChild g.G.Gather.closing range) range) (λ low link is. is.low) left links),
      );
    }

pub loop-child-preserved : goal.loop-child-preserved
loop-child-preserved g c =
    let range = range_of c.args.range.now in
    let opens = IsOpenChild g.G.Gather.closing range in
    let closes = IsClosedChild g.G.Gather.closing range in
    let enters = IsEntered closes range in
    let all = children_placed (option_copied c.args.left) c.args.children in
    let rest = children_placed (Some c.in-Some.child.greatest.now) c.next.new.self in
    let spot : Option (List ℕ) × Link = (option_copied c.loop-child.bound, link_of c.in-Some.child) in
    let before = c.loop-child.invariant.so_far in
    let rising = subst (λ (links : List Link). AreRisingFrom (option_copied c.loop-child.bound) (greatests_of links)) c.in-Some.ensures.steps c.loop-child.invariant.rising in
    let from = subst (λ (links : List Link). AllByRecursion (IsAtMost range.lo) (greatests_of links)) c.in-Some.ensures.steps c.loop-child.invariant.from in
    let picking = subst (λ (links : List Link). ArePicked opens all (children_placed (option_copied c.loop-child.bound) links) before.0) c.in-Some.ensures.steps before.3 in
    let closing = subst (λ (links : List Link). ArePicked closes all (children_placed (option_copied c.loop-child.bound) links) before.1) c.in-Some.ensures.steps before.4 in
    let entering = subst (λ (links : List Link). ArePicked enters all (children_placed (option_copied c.loop-child.bound) links) before.0) c.in-Some.ensures.steps before.6 in
    let pending = c.if-not-closes.pending.items in
    let so_far : (picked closed : List (Option (List ℕ) × Link)) × (spots_of pending ≡ spots_of c.args.pending.now.items ++ picked) × ArePicked opens all rest picked × ArePicked closes all rest closed
    × Gains g.G.Gather.gathers c.args.gathered.now c.closes.new.self closed [] × ArePicked enters all rest picked = elim c.if-not-closes.branch [
      | then-not-closes+in_ok-push w ↦
          let shut = fails_not (closes spot) c.closes.result c.closes.ensures.told w.if-not-closes.true in
          let goes = c.goes_on_above.ensures.told.0 c.if-not-goes_on_above.false in
          let meets = meets_from_both range spot.0 spot.1.greatest c.skip_below-children.ensures.bytes c.requires.some c.goes_on_above.ensures.bytes rising.0 from.0 goes in (
            before.0 ++ spot ∷ [],
            before.1,
            one_after spot_of (spots_of c.args.pending.now.items) before.0 c.loop-child.pending.items pending (record { left = c.loop-child.bound; child = c.in-Some.child }) (ap (λ (v : SmallVec _). v.items) w.pending-is ∙ w.in_ok-push.ensures.ok) before.2,
            picked_one opens all rest before.0 spot (meets, shut) picking,
            picked_other closes all rest before.1 spot shut closing,
            subst (λ (cs : List (Option (List ℕ) × Link)). Gains g.G.Gather.gathers c.args.gathered.now c.closes.new.self cs []) (append-nil before.1)
                (gains_then g.G.Gather.gathers c.args.gathered.now c.loop-child.gathered c.closes.new.self before.1 [] [] [] before.5 (c.closes.ensures.opened w.if-not-closes.true)),
            picked_one enters all rest before.0 spot (record { low = from.0; high = goes; opened = shut }) entering,
          )
      | else-not-closes w ↦ (
        before.0,
        before.1 ++ spot ∷ [],
        ap (λ (v : SmallVec _). spots_of v.items) w.pending-is ∙ before.2,
        picked_other opens all rest before.0 spot (λ is. is.1 (c.closes.ensures.told.0 w.if-not-closes.false)) picking,
        picked_one closes all rest before.1 spot (c.closes.ensures.told.0 w.if-not-closes.false) closing,
        gains_then g.G.Gather.gathers c.args.gathered.now c.loop-child.gathered c.closes.new.self before.1 (spot ∷ []) [] [] before.5 (c.closes.ensures.closed w.if-not-closes.false),
        picked_other enters all rest before.0 spot (λ is. is.opened (c.closes.ensures.told.0 w.if-not-closes.false)) entering,
      )
    ] in
    record { rising = rising.1; from = from.1; so_far = so_far }

pub returns-then-not-goes_on_above : goal.returns-then-not-goes_on_above
returns-then-not-goes_on_above g c =
    let range = range_of c.args.range.now in
    let all = children_placed (option_copied c.args.left) c.args.children in
    let bound = option_copied c.loop-child.bound in
    let rest = children_placed bound c.loop-child.child-iterator in
    let before = c.loop-child.invariant.so_far in
    let ended = fails_not (GoesOnAbove range bound) c.goes_on_above.result c.goes_on_above.ensures.told c.if-not-goes_on_above.true in
    let none = none_open g.G.Gather.closing range bound c.loop-child.child-iterator ended c.loop-child.invariant.rising in
    let enters = IsEntered (IsClosedChild g.G.Gather.closing range) range in
    let none_entering = none_entered (IsClosedChild g.G.Gather.closing range) range bound c.loop-child.child-iterator ended c.loop-child.invariant.rising in
    let none_too = none_closed g.G.Gather.closing range bound c.loop-child.child-iterator ended c.loop-child.invariant.rising in
    (before.0, before.1, before.2, picked_stop (IsOpenChild g.G.Gather.closing range) all rest before.0 none before.3, picked_stop (IsClosedChild g.G.Gather.closing range) all rest before.1 none_too before.4, before.5, picked_stop enters all rest before.0 none_entering before.6)

pub returns : goal.returns
returns g c =
    let opens = IsOpenChild g.G.Gather.closing (range_of c.args.range.now) in
    let closes = IsClosedChild g.G.Gather.closing (range_of c.args.range.now) in
    let all = children_placed (option_copied c.args.left) c.args.children in
    let before = c.loop-child.invariant.so_far in
    let picking = subst (λ (links : List Link). ArePicked opens all (children_placed (option_copied c.loop-child.bound) links) before.0) c.in-None.ensures.steps.0 before.3 in
    let closing = subst (λ (links : List Link). ArePicked closes all (children_placed (option_copied c.loop-child.bound) links) before.1) c.in-None.ensures.steps.0 before.4 in
    let enters = IsEntered closes (range_of c.args.range.now) in
    let entering = subst (λ (links : List Link). ArePicked enters all (children_placed (option_copied c.loop-child.bound) links) before.0) c.in-None.ensures.steps.0 before.6 in
    (before.0, before.1, before.2, picked_all opens all before.0 picking, picked_all closes all before.1 closing, before.5, picked_all enters all before.0 entering)
