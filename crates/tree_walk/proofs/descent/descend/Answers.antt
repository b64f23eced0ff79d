use Rattle.std.proofs.Common.{◌≡◌, ℕ, suc, ◌-◌, List, Option, map, Result, refl, sym, subst, ◌∙◌, arith}
use Rattle.smallvec.specs.SmallVec.{SmallVec}
use Rattle.tree_node.specs.NodeRefs.{number_of}
use Rattle.tree_node.specs.Nodes.{Binding, Link}
use Rattle.tree_node.specs.Trees.{levels}
use Rattle.tree_node.proofs.shared.OutcomeLaws.{uses}
use Rattle.tree_walk.specs.internal.Accounts.{Account, AreBelowLevel, Gains}
use Rattle.tree_walk.specs.internal.Openings.{IsClosedChild, IsOpenedIn}
use Rattle.tree_walk.specs.internal.Gatherings.{GathersFrom}
use Rattle.tree_walk.specs.Given.{wanted_of}
use Rattle.tree_walk.proofs.GivenDown.{GatheringDown, gathering_end, gathering_start, gathering_step, on_ok}
use Rattle.tree_walk.specs.Fetches.{cause_of}
use Rattle.tree_node.specs.Outcomes.{Outcome}
use Rattle.tree_walk.specs.internal.Pendings.{AreWanted, FetchesBelow, IsBetweenLevels, IsOfLevel, spots_of}
use Rattle.tree_walk.specs.Ranges.{range_of}
use Rattle.tree_walk.specs.Uses.{nodes_around}
use Rattle.tree_walk.specs.declared.fault.WalkFault.{WalkFault}
use Rattle.tree_walk.specs.declared.pending.Pending.{Pending}
use Rattle.tree_walk.proofs.DescentFetches.{FetchingDown, down_last, down_start, down_step, down_stop}
use Rattle.tree_walk.proofs.DescentLemmas.{HonestDown, honest_down_end, honest_down_start, honest_down_step, honest_down_stop}
use Rattle.tree_walk.proofs.FetchLemmas.{stays_then}
use Rattle.tree_node.proofs.shared.Results.{err_is}
use Rattle.tree_walk.proofs.ReasonLemmas.{refused_as}
use Rattle.tree_walk.proofs.descent.descend.Goals as goal

pub returns-in_err-pending-clause-fetches : goal.returns-in_err-pending-clause-fetches
returns-in_err-pending-clause-fetches g c =
    subst (λ (r : Result (Unit {0}) WalkFault). FetchesBelow (suc c.args.level) r (nodes_around g.S.Shelf.holds g.S.Shelf.used c.args.shelf.now c.open_level.new.shelf) c.args.tally.now.fetches c.open_level.new.tally.fetches)
    (sym (err_is c.from_residual.result c.in_err-pending.field-0.0 c.from_residual.ensures.1))
    (down_stop (suc c.args.level) (g.S.Shelf.used c.args.shelf.now) c.args.tally.now.fetches (SmallVec Pending) (Unit {0}) c.in_err-pending.field-0.0 c.loop-level.level (g.S.Shelf.holds c.loop-level.shelf) (g.S.Shelf.holds c.open_level.new.shelf)
    (g.S.Shelf.used c.loop-level.shelf) (g.S.Shelf.used c.open_level.new.shelf) c.loop-level.tally.fetches c.open_level.new.tally.fetches (omega (arith, c.loop-level.invariant.within))
    c.loop-level.invariant.fetches c.open_level.ensures.stays c.in_err-pending.ensures.fetches)

pub returns-in_err-pending-clause-answer : goal.returns-in_err-pending-clause-answer
returns-in_err-pending-clause-answer g c = λ shape entries reached.
    subst (λ (r : Result (Unit {0}) WalkFault). Outcome cause_of (λ (_ : Unit {0}). (closed : List (Option (List ℕ) × Link)) × (found all : List Binding) × Gains g.G.Gather.gathers c.args.gathered.now c.open_level.new.gathered closed found
    × Account g.G.Gather.closing closed found all × AreBelowLevel g.G.Gather.closing (range_of c.args.way.now.range.now) (levels shape (number_of c.args.way.now.tree) entries) c.args.level all) (IsOpenedIn g.G.Gather.closing (range_of c.args.way.now.range.now) (levels shape (number_of c.args.way.now.tree) entries) 0 c.args.level)
    (nodes_around g.S.Shelf.holds g.S.Shelf.used c.args.shelf.now c.open_level.new.shelf) r)
    (sym (err_is c.from_residual.result c.in_err-pending.field-0.0 c.from_residual.ensures.1))
    (record {
      ends = honest_down_stop g.G.Gather.gathers g.G.Gather.closing (number_of c.args.way.now.tree) (range_of c.args.way.now.range.now) c.args.level (spots_of c.args.pending.items) c.args.gathered.now (cause_of c.in_err-pending.field-0.0) c.loop-level.level (spots_of c.loop-level.pending.items) c.loop-level.gathered
          (g.S.Shelf.holds c.open_level.new.shelf) (g.S.Shelf.used c.args.shelf.now) (g.S.Shelf.used c.loop-level.shelf) (g.S.Shelf.used c.open_level.new.shelf) c.loop-level.invariant.within c.loop-level.invariant.honest c.open_level.ensures.grows
          (λ nodes stated. ((rw c.as_slice.ensures at c.in_err-pending.ensures.answer) nodes stated).ends) shape entries reached;
    })

pub loop-level-preserved : goal.loop-level-preserved
loop-level-preserved g c =
    let same : suc (c.loop-level.level - 1) ≡ c.loop-level.level = omega (arith, c.loop-level-test.true) in
    let fetched = down_step (suc c.args.level) (g.S.Shelf.used c.args.shelf.now) c.args.tally.now.fetches c.in_ok-pending.pending c.loop-level.level (g.S.Shelf.holds c.loop-level.shelf) (g.S.Shelf.holds c.open_level.new.shelf)
    (g.S.Shelf.used c.loop-level.shelf) (g.S.Shelf.used c.open_level.new.shelf) c.loop-level.tally.fetches c.open_level.new.tally.fetches (omega (arith, c.loop-level.invariant.within))
    c.loop-level.invariant.fetches c.open_level.ensures.stays c.in_ok-pending.ensures.fetches in
    record {
      within = omega (arith, c.loop-level.invariant.within);
      calls = c.open_level.ensures.calls ∙ c.loop-level.invariant.calls;
      stays = stays_then _ _ _ _ c.loop-level.invariant.stays c.open_level.ensures.stays;
      grows = λ bytes was. c.open_level.ensures.grows bytes (c.loop-level.invariant.grows bytes was);
      order = c.in_ok-pending.ensures.order;
      wanted = λ top all. c.in_ok-pending.ensures.wanted top (subst (λ (ps : List Pending). AreWanted (g.S.Shelf.used c.loop-level.shelf) (number_of c.args.way.now.tree) top c.loop-level.level (spots_of ps)) (sym c.as_slice.ensures) (c.loop-level.invariant.wanted top all));
      fetches = subst (λ (n : ℕ). FetchingDown n (suc c.args.level) (nodes_around g.S.Shelf.holds g.S.Shelf.used c.args.shelf.now c.open_level.new.shelf) c.args.tally.now.fetches c.open_level.new.tally.fetches) (sym same) fetched;
      honest = honest_down_step g.G.Gather.gathers g.G.Gather.closing (number_of c.args.way.now.tree) (range_of c.args.way.now.range.now) c.args.level (spots_of c.args.pending.items) c.args.gathered.now (λ (pending : SmallVec Pending). spots_of pending.items) cause_of c.in_ok-pending.pending (c.loop-level.level - 1)
          (spots_of c.loop-level.pending.items) c.loop-level.gathered c.open_level.new.gathered (g.S.Shelf.holds c.open_level.new.shelf) (g.S.Shelf.used c.args.shelf.now) (g.S.Shelf.used c.loop-level.shelf) (g.S.Shelf.used c.open_level.new.shelf) (omega (arith, same, c.loop-level.invariant.within))
          (rw same c.loop-level.invariant.honest) c.open_level.ensures.grows (rw (same, sym c.as_slice.ensures) c.in_ok-pending.ensures.answer);
      gives = gathering_step g.G.Gather.gathers (IsClosedChild g.G.Gather.closing (range_of c.args.way.now.range.now)) (number_of c.args.way.now.tree) (range_of c.args.way.now.range.now) c.args.level (spots_of c.args.pending.items) c.args.gathered.now (g.S.Shelf.used c.args.shelf.now) c.args.tally.now.fetches
          (c.loop-level.level - 1) (g.S.Shelf.holds c.loop-level.shelf) (g.S.Shelf.holds c.open_level.new.shelf) (g.S.Shelf.used c.loop-level.shelf) (g.S.Shelf.used c.open_level.new.shelf) c.loop-level.tally.fetches c.open_level.new.tally.fetches (spots_of c.loop-level.pending.items) (spots_of c.in_ok-pending.pending.items)
          c.loop-level.gathered c.open_level.new.gathered (omega (arith, same, c.loop-level.invariant.within)) (rw same c.loop-level.invariant.gives) c.open_level.ensures.stays (rw (same, sym c.as_slice.ensures) c.in_ok-pending.ensures.gives);
    }

pub returns-clause-fetches : goal.returns-clause-fetches
returns-clause-fetches g c =
    let last : c.loop-level.level ≡ 0 = omega (arith, c.loop-level-test.false) in
    down_last (suc c.args.level) (g.S.Shelf.used c.args.shelf.now) c.args.tally.now.fetches c.take_leaves.result (g.S.Shelf.holds c.loop-level.shelf) (g.S.Shelf.holds c.take_leaves.new.shelf)
    (g.S.Shelf.used c.loop-level.shelf) (g.S.Shelf.used c.take_leaves.new.shelf) c.loop-level.tally.fetches c.take_leaves.new.tally.fetches (omega arith)
    (subst (λ (n : ℕ). FetchingDown (suc n) (suc c.args.level) (nodes_around g.S.Shelf.holds g.S.Shelf.used c.args.shelf.now c.loop-level.shelf) c.args.tally.now.fetches c.loop-level.tally.fetches) last c.loop-level.invariant.fetches)
    c.take_leaves.ensures.stays c.take_leaves.ensures.fetches

pub returns-clause-answer : goal.returns-clause-answer
returns-clause-answer g c =
    let last : c.loop-level.level ≡ 0 = omega (arith, c.loop-level-test.false) in
    honest_down_end g.G.Gather.gathers g.G.Gather.closing (number_of c.args.way.now.tree) (range_of c.args.way.now.range.now) c.args.level (spots_of c.args.pending.items) c.args.gathered.now cause_of c.take_leaves.result (spots_of c.loop-level.pending.items) c.loop-level.gathered c.take_leaves.new.gathered
    (g.S.Shelf.holds c.take_leaves.new.shelf) (g.S.Shelf.used c.args.shelf.now) (g.S.Shelf.used c.loop-level.shelf) (g.S.Shelf.used c.take_leaves.new.shelf)
    (subst (λ (n : ℕ). HonestDown g.G.Gather.gathers g.G.Gather.closing (number_of c.args.way.now.tree) (range_of c.args.way.now.range.now) c.args.level (spots_of c.args.pending.items) c.args.gathered.now n (spots_of c.loop-level.pending.items) c.loop-level.gathered (g.S.Shelf.used c.args.shelf.now) (g.S.Shelf.used c.loop-level.shelf)) last c.loop-level.invariant.honest)
    c.take_leaves.ensures.grows (rw (sym c.as_slice-2.ensures) c.take_leaves.ensures.answer)

pub loop-level-init : goal.loop-level-init
loop-level-init g c = record {
  within = omega arith;
  calls = refl;
  stays = λ bytes. ((λ _ is. is), (λ is. is));
  grows = λ bytes was. was;
  order = c.requires.order;
  wanted = λ top all. all;
  fetches = down_start (suc c.args.level) (g.S.Shelf.used c.args.shelf.now) c.args.tally.now.fetches (g.S.Shelf.holds c.args.shelf.now);
  honest = honest_down_start g.G.Gather.gathers g.G.Gather.closing (number_of c.args.way.now.tree) (range_of c.args.way.now.range.now) c.args.level (spots_of c.args.pending.items) c.args.gathered.now (g.S.Shelf.used c.args.shelf.now);
  gives = gathering_start g.G.Gather.gathers (IsClosedChild g.G.Gather.closing (range_of c.args.way.now.range.now)) (number_of c.args.way.now.tree) (range_of c.args.way.now.range.now) c.args.level (spots_of c.args.pending.items) c.args.gathered.now (g.S.Shelf.used c.args.shelf.now) c.args.tally.now.fetches (g.S.Shelf.holds c.args.shelf.now);
}

pub returns-in_err-pending-clause-told : goal.returns-in_err-pending-clause-told
returns-in_err-pending-clause-told g c = λ top all.
    refused_as _ _ _ _ c.in_err-pending.field-0.0 c.from_residual.result (err_is c.from_residual.result c.in_err-pending.field-0.0 c.from_residual.ensures.1)
    (c.in_err-pending.ensures.told top (subst (λ (ps : List Pending). AreWanted (g.S.Shelf.used c.loop-level.shelf) (number_of c.args.way.now.tree) top c.loop-level.level (spots_of ps)) (sym c.as_slice.ensures) (c.loop-level.invariant.wanted top all)))

pub returns-clause-told : goal.returns-clause-told
returns-clause-told g c = λ top all.
    let last : c.loop-level.level ≡ 0 = omega (arith, c.loop-level-test.false) in
    c.take_leaves.ensures.told top (subst (λ (ps : List Pending). AreWanted (g.S.Shelf.used c.loop-level.shelf) (number_of c.args.way.now.tree) top 0 (spots_of ps)) (sym c.as_slice-2.ensures)
    (subst (λ (n : ℕ). AreWanted (g.S.Shelf.used c.loop-level.shelf) (number_of c.args.way.now.tree) top n (spots_of c.loop-level.pending.items)) last (c.loop-level.invariant.wanted top all)))

pub returns-clause-gives : goal.returns-clause-gives
returns-clause-gives g c =
    let gathers = g.G.Gather.gathers in
    let range = range_of c.args.way.now.range.now in
    let closes = IsClosedChild g.G.Gather.closing range in
    let tree = number_of c.args.way.now.tree in
    let old = g.S.Shelf.used c.args.shelf.now in
    let from = c.args.tally.now.fetches in
    let mid = g.S.Shelf.used c.loop-level.shelf in
    let new = g.S.Shelf.used c.take_leaves.new.shelf in
    let after = g.S.Shelf.holds c.take_leaves.new.shelf in
    let pending = spots_of c.loop-level.pending.items in
    let last : c.loop-level.level ≡ 0 = omega (arith, c.loop-level-test.false) in
    let so = subst (λ (n : ℕ). GatheringDown gathers closes tree range c.args.level (spots_of c.args.pending.items) c.args.gathered.now old from n (g.S.Shelf.holds c.loop-level.shelf) mid c.loop-level.tally.fetches pending c.loop-level.gathered) last c.loop-level.invariant.gives in
    on_ok c.take_leaves.result
    (GathersFrom gathers closes (IsOfLevel 0) (uses after mid new) c.loop-level.tally.fetches c.take_leaves.new.tally.fetches tree range (map (wanted_of 0) pending) c.loop-level.gathered c.take_leaves.new.gathered)
    (GathersFrom gathers closes (IsBetweenLevels 0 (suc c.args.level)) (uses after old new) from c.take_leaves.new.tally.fetches tree range (map (wanted_of c.args.level) (spots_of c.args.pending.items)) c.args.gathered.now c.take_leaves.new.gathered)
    (λ leaves. gathering_end gathers closes tree range c.args.level (spots_of c.args.pending.items) c.args.gathered.now old from (g.S.Shelf.holds c.loop-level.shelf) after mid new c.loop-level.tally.fetches c.take_leaves.new.tally.fetches pending c.loop-level.gathered c.take_leaves.new.gathered
    so c.take_leaves.ensures.stays leaves)
    (rw (sym c.as_slice-2.ensures) c.take_leaves.ensures.gives)
