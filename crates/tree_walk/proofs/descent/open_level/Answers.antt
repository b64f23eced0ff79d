use Rattle.std.proofs.Common.{◌≡◌, ◌++◌, ◌∷◌, ℕ, ◌+◌, ◌-◌, List, [], Option, None, Some, drop, Result, inl, inr, refl, sym, ap, subst, ◌∙◌}
use Rattle.smallvec.specs.SmallVec.{SmallVec}
use Rattle.std.proofs.Math.ListN.{drop_of_length-le}
use Rattle.tree_node.specs.NodeRefs.{number_of}
use Rattle.tree_node.specs.Nodes.{Inner, Link, Node}
use Rattle.tree_node.specs.Trees.{links_in}
use Rattle.tree_node.proofs.shared.OutcomeLaws.{uses}
use Rattle.tree_walk.specs.Choices.{AreThose}
use Rattle.tree_walk.specs.internal.Accounts.{Gains}
use Rattle.tree_walk.specs.internal.Openings.{IsClosedChild, IsOpenChild}
use Rattle.tree_walk.specs.Fetches.{cause_of}
use Rattle.tree_node.specs.Outcomes.{Outcome}
use Rattle.tree_walk.specs.internal.Pendings.{AreWanted, IsOneOf, spots_of}
use Rattle.tree_walk.specs.Spans.{children_of_all, children_placed}
use Rattle.tree_walk.specs.Ranges.{range_of}
use Rattle.tree_walk.specs.declared.fault.WalkFault.{WalkFault}
use Rattle.tree_walk.specs.declared.fault.WalkFault.TheVariants.{Memory}
use Rattle.tree_walk.specs.declared.pending.Pending.{Pending}
use Rattle.tree_walk.proofs.AccountLemmas.{gains_none, gains_then}
use Rattle.tree_walk.proofs.FetchLemmas.{stays_then}
use Rattle.tree_walk.specs.Given.{IsEntered}
use Rattle.tree_walk.specs.Uses.{nodes_around}
use Rattle.tree_walk.proofs.GivenLevels.{ReadingLevel, reading_end, reading_start, reading_step, reading_texts, those_of_next}
use Rattle.tree_walk.proofs.HonestLemmas.{HonestSoFar, honest_end, honest_start, honest_step, honest_stop}
use Rattle.tree_walk.proofs.LevelFetches.{FetchingLevel, level_end, level_refused, level_start, level_step, level_stopped}
use Rattle.tree_node.proofs.shared.Results.{err_is}
use Rattle.tree_walk.proofs.Pendings.{fetched_rises, rest_is}
use Rattle.tree_walk.proofs.ReasonLemmas.{all_wanted_append, all_wanted_more, picked_wanted, refused_for, refused_memory, wanted_at}
use Rattle.tree_walk.proofs.SpotOrder.{order_step}
use Rattle.tree_walk.proofs.descent.open_level.Goals as goal

pub returns-in_err-children-clause-fetches : goal.returns-in_err-children-clause-fetches
returns-in_err-children-clause-fetches g c =
    let so = c.loop-node.invariant.level in
    level_stopped c.args.level (g.S.Shelf.used c.args.shelf.now) c.args.tally.now.fetches c.from_residual.result c.in_err-children.field-0.0 so.0 (g.S.Shelf.holds c.loop-node.shelf) (g.S.Shelf.holds c.open_inner.new.shelf)
    (g.S.Shelf.used c.loop-node.shelf) (g.S.Shelf.used c.open_inner.new.shelf) c.loop-node.tally.fetches c.open_inner.new.tally.fetches (spots_of (drop c.loop-node.node-index c.args.nodes.now))
    (err_is c.from_residual.result c.in_err-children.field-0.0 c.from_residual.ensures.1) so.1 c.open_inner.ensures.stays c.in_err-children.ensures.opens

pub returns-in_err-children-clause-answer : goal.returns-in_err-children-clause-answer
returns-in_err-children-clause-answer g c = λ all stated.
    let items = λ (spot : Option (List ℕ) × Node). children_placed spot.0 (links_in spot.1) in
    let has = IsOpenChild g.G.Gather.closing (range_of c.args.way.now.range.now) in
    let spots = spots_of c.args.nodes.now in
    let found = spots_of c.loop-node.pending.items in
    let used = g.S.Shelf.used c.open_inner.new.shelf in
    let before = subst (λ (rest : List (Option (List ℕ) × Link)). HonestSoFar items has (number_of c.args.way.now.tree) c.args.level spots rest found (g.S.Shelf.used c.args.shelf.now) (g.S.Shelf.used c.loop-node.shelf))
    (rest_is c.args.nodes.now c.loop-node.node-index _ c.loop-node-test.true) c.loop-node.invariant.honest in
    subst (λ (r : Result (SmallVec Pending) WalkFault). Outcome cause_of (λ (pending : SmallVec Pending). AreThose has (children_of_all all) (spots_of pending.items)
    × ((closed : List (Option (List ℕ) × Link)) × AreThose (IsClosedChild g.G.Gather.closing (range_of c.args.way.now.range.now)) (children_of_all all) closed × Gains g.G.Gather.gathers c.args.gathered.now c.loop-node.gathered closed [])) (IsOneOf all) (uses (g.S.Shelf.holds c.open_inner.new.shelf) (g.S.Shelf.used c.args.shelf.now) used) r)
    (sym (err_is c.from_residual.result c.in_err-children.field-0.0 c.from_residual.ensures.1))
    (record {
      ends = honest_stop items has (number_of c.args.way.now.tree) c.args.level (cause_of c.in_err-children.field-0.0) (g.S.Shelf.holds c.open_inner.new.shelf) spots (spots_of (drop (c.loop-node.node-index + 1) c.args.nodes.now)) _ found
          (g.S.Shelf.used c.args.shelf.now) (g.S.Shelf.used c.loop-node.shelf) used before c.open_inner.ensures.grows (λ node is. (c.in_err-children.ensures.answer node is).ends) all stated;
    })

pub returns-in_err-pick-clause-fetches : goal.returns-in_err-pick-clause-fetches
returns-in_err-pick-clause-fetches g c =
    let so = c.loop-node.invariant.level in
    let before = subst (λ (rest : List (Option (List ℕ) × Link)). FetchingLevel c.args.level so.0 (nodes_around g.S.Shelf.holds g.S.Shelf.used c.args.shelf.now c.loop-node.shelf) c.args.tally.now.fetches c.loop-node.tally.fetches rest)
    (rest_is c.args.nodes.now c.loop-node.node-index _ c.loop-node-test.true) so.1 in
    let next = level_step c.args.level (g.S.Shelf.used c.args.shelf.now) c.args.tally.now.fetches so.0 (g.S.Shelf.holds c.loop-node.shelf) (g.S.Shelf.holds c.open_inner.new.shelf) (g.S.Shelf.used c.loop-node.shelf) (g.S.Shelf.used c.open_inner.new.shelf)
    c.loop-node.tally.fetches c.open_inner.new.tally.fetches _ (spots_of (drop (c.loop-node.node-index + 1) c.args.nodes.now)) (Inner (number_of c.args.way.now.tree) c.args.level c.in_ok-children.children)
    before c.open_inner.ensures.stays c.in_ok-children.ensures.opens refl c.in_ok-children.ensures.agrees.1.0 in
    level_refused c.args.level (g.S.Shelf.used c.args.shelf.now) c.args.tally.now.fetches c.from_residual-in_err-pick.result Memory (Some _) (g.S.Shelf.holds c.open_inner.new.shelf) (g.S.Shelf.used c.open_inner.new.shelf) c.open_inner.new.tally.fetches
    (spots_of (drop (c.loop-node.node-index + 1) c.args.nodes.now)) (err_is c.from_residual-in_err-pick.result Memory c.from_residual-in_err-pick.ensures.1) next

pub loop-node-preserved : goal.loop-node-preserved
loop-node-preserved g c =
    let items = λ (spot : Option (List ℕ) × Node). children_placed spot.0 (links_in spot.1) in
    let has = IsOpenChild g.G.Gather.closing (range_of c.args.way.now.range.now) in
    let spots = spots_of c.args.nodes.now in
    let rest = spots_of (drop (c.loop-node.node-index + 1) c.args.nodes.now) in
    let found = spots_of c.loop-node.pending.items in
    let so = c.loop-node.invariant.level in
    let node = Inner (number_of c.args.way.now.tree) c.args.level c.in_ok-children.children in
    let before = subst (λ (rest : List (Option (List ℕ) × Link)). FetchingLevel c.args.level so.0 (nodes_around g.S.Shelf.holds g.S.Shelf.used c.args.shelf.now c.loop-node.shelf) c.args.tally.now.fetches c.loop-node.tally.fetches rest)
    (rest_is c.args.nodes.now c.loop-node.node-index _ c.loop-node-test.true) so.1 in
    let next = level_step c.args.level (g.S.Shelf.used c.args.shelf.now) c.args.tally.now.fetches so.0 (g.S.Shelf.holds c.loop-node.shelf) (g.S.Shelf.holds c.open_inner.new.shelf) (g.S.Shelf.used c.loop-node.shelf) (g.S.Shelf.used c.open_inner.new.shelf)
    c.loop-node.tally.fetches c.open_inner.new.tally.fetches _ rest node before c.open_inner.ensures.stays c.in_ok-children.ensures.opens refl c.in_ok-children.ensures.agrees.1.0 in
    let picked = c.in_ok-pick.ensures in
    let ordered = order_step has so.0 _ _ c.in_ok-children.children found picked.0 before.order.0 before.order.1 so.2 (fetched_rises _ _ _ _ _ _ _ _ _ c.in_ok-children.ensures.opens c.in_ok-children.ensures.agrees.0) c.in_ok-children.ensures.agrees.1.0 picked.3 in
    let honest_before = subst (λ (rest : List (Option (List ℕ) × Link)). HonestSoFar items has (number_of c.args.way.now.tree) c.args.level spots rest found (g.S.Shelf.used c.args.shelf.now) (g.S.Shelf.used c.loop-node.shelf))
    (rest_is c.args.nodes.now c.loop-node.node-index _ c.loop-node-test.true) c.loop-node.invariant.honest in
    let honest = honest_step items has (number_of c.args.way.now.tree) c.args.level (Inner (number_of c.args.way.now.tree) c.args.level) c.in_ok-children.children spots rest _ found picked.0
    (g.S.Shelf.used c.args.shelf.now) (g.S.Shelf.used c.loop-node.shelf) (g.S.Shelf.used c.open_inner.new.shelf) honest_before c.open_inner.ensures.grows (λ node is. (c.in_ok-children.ensures.answer node is).ends) picked.3 in
    let closes = IsClosedChild g.G.Gather.closing (range_of c.args.way.now.range.now) in
    let closed = c.loop-node.invariant.closed in
    let closed_before = subst (λ (rest : List (Option (List ℕ) × Link)). HonestSoFar items closes (number_of c.args.way.now.tree) c.args.level spots rest closed.0 (g.S.Shelf.used c.args.shelf.now) (g.S.Shelf.used c.loop-node.shelf))
    (rest_is c.args.nodes.now c.loop-node.node-index _ c.loop-node-test.true) closed.2 in
    let closed_more = honest_step items closes (number_of c.args.way.now.tree) c.args.level (Inner (number_of c.args.way.now.tree) c.args.level) c.in_ok-children.children spots rest _ closed.0 picked.1
    (g.S.Shelf.used c.args.shelf.now) (g.S.Shelf.used c.loop-node.shelf) (g.S.Shelf.used c.open_inner.new.shelf) closed_before c.open_inner.ensures.grows (λ node is. (c.in_ok-children.ensures.answer node is).ends) picked.4 in
    let enters = IsEntered closes (range_of c.args.way.now.range.now) in
    let so_given = c.loop-node.invariant.gives in
    let spot : Option (List ℕ) × Node = (_, node) in
    let reading = subst (λ (rest : List (Option (List ℕ) × Link)). ReadingLevel (number_of c.args.way.now.tree) c.args.level spots (g.S.Shelf.used c.args.shelf.now) c.args.tally.now.fetches so_given.0 (g.S.Shelf.holds c.loop-node.shelf) (g.S.Shelf.used c.loop-node.shelf) c.loop-node.tally.fetches rest so_given.1)
    (rest_is c.args.nodes.now c.loop-node.node-index _ c.loop-node-test.true) so_given.2 in
    record {
      calls = c.open_inner.ensures.calls ∙ c.loop-node.invariant.calls;
      stays = stays_then _ _ _ _ c.loop-node.invariant.stays c.open_inner.ensures.stays;
      grows = λ bytes was. c.open_inner.ensures.grows bytes (c.loop-node.invariant.grows bytes was);
      level = (Some _, next, rw picked.2 ordered);
      wanted = λ top all.
          let tree = number_of c.args.way.now.tree in
          let used = g.S.Shelf.used c.open_inner.new.shelf in
          let grows = λ (x : List ℕ) (was : g.S.Shelf.used c.args.shelf.now x). c.open_inner.ensures.grows x (c.loop-node.invariant.grows x was) in
          let is = wanted_at used tree top c.args.level c.args.nodes.now c.loop-node.node-index _ c.loop-node-test.true (all_wanted_more (g.S.Shelf.used c.args.shelf.now) used tree top c.args.level spots grows all) in
          let those = picked_wanted used tree top c.args.level _ has c.in_ok-children.children picked.0 c.requires.inner is c.in_ok-children.ensures.accepted picked.3 in
          subst (λ (ss : List (Option (List ℕ) × Link)). AreWanted used tree top (c.args.level - 1) ss) (sym picked.2)
          (all_wanted_append used tree top (c.args.level - 1) found picked.0 (all_wanted_more (g.S.Shelf.used c.loop-node.shelf) used tree top (c.args.level - 1) found c.open_inner.ensures.grows (c.loop-node.invariant.wanted top all)) those);
      honest = subst (λ (ss : List (Option (List ℕ) × Link)). HonestSoFar items has (number_of c.args.way.now.tree) c.args.level spots rest ss (g.S.Shelf.used c.args.shelf.now) (g.S.Shelf.used c.open_inner.new.shelf)) (sym picked.2) honest;
      closed = (closed.0 ++ picked.1, gains_then g.G.Gather.gathers c.args.gathered.now c.loop-node.gathered c.pick.new.gathered closed.0 picked.1 [] [] closed.1 picked.5, closed_more);
      gives = (
        Some _,
        so_given.1 ++ spot ∷ [],
        reading_step (number_of c.args.way.now.tree) c.args.level spots (g.S.Shelf.used c.args.shelf.now) c.args.tally.now.fetches so_given.0 (g.S.Shelf.holds c.loop-node.shelf) (g.S.Shelf.holds c.open_inner.new.shelf) (g.S.Shelf.used c.loop-node.shelf) (g.S.Shelf.used c.open_inner.new.shelf)
            c.loop-node.tally.fetches c.open_inner.new.tally.fetches _ rest so_given.1 node reading c.open_inner.ensures.stays c.in_ok-children.ensures.opens refl c.in_ok-children.ensures.agrees.1.0 c.in_ok-children.ensures.accepted,
        subst (λ (ss : List (Option (List ℕ) × Link)). AreThose enters (children_of_all (so_given.1 ++ spot ∷ [])) ss) (sym picked.2) (those_of_next items enters so_given.1 spot found picked.0 so_given.3 picked.6),
        so_given.4 ++ picked.1,
        those_of_next items closes so_given.1 spot so_given.4 picked.1 so_given.5 picked.4,
        gains_then g.G.Gather.gathers c.args.gathered.now c.loop-node.gathered c.pick.new.gathered so_given.4 picked.1 [] [] so_given.6 picked.5,
      );
    }

pub returns-clause-fetches : goal.returns-clause-fetches
returns-clause-fetches g c =
    let so = c.loop-node.invariant.level in
    level_end c.args.level (g.S.Shelf.used c.args.shelf.now) c.args.tally.now.fetches c.loop-node.pending so.0 (g.S.Shelf.holds c.loop-node.shelf) (g.S.Shelf.used c.loop-node.shelf) c.loop-node.tally.fetches
    (spots_of (drop c.loop-node.node-index c.args.nodes.now)) so.1

pub returns-clause-answer : goal.returns-clause-answer
returns-clause-answer g c = λ all stated.
    let items = λ (spot : Option (List ℕ) × Node). children_placed spot.0 (links_in spot.1) in
    let has = IsOpenChild g.G.Gather.closing (range_of c.args.way.now.range.now) in
    let spots = spots_of c.args.nodes.now in
    let found = spots_of c.loop-node.pending.items in
    let so = subst (λ (rest : List Pending). HonestSoFar items has (number_of c.args.way.now.tree) c.args.level spots (spots_of rest) found (g.S.Shelf.used c.args.shelf.now) (g.S.Shelf.used c.loop-node.shelf))
    (drop_of_length-le c.args.nodes.now c.loop-node-test.false) c.loop-node.invariant.honest in
    let closes = IsClosedChild g.G.Gather.closing (range_of c.args.way.now.range.now) in
    let closed = c.loop-node.invariant.closed in
    let so_closed = subst (λ (rest : List Pending). HonestSoFar items closes (number_of c.args.way.now.tree) c.args.level spots (spots_of rest) closed.0 (g.S.Shelf.used c.args.shelf.now) (g.S.Shelf.used c.loop-node.shelf))
    (drop_of_length-le c.args.nodes.now c.loop-node-test.false) closed.2 in
    record {
      ends = elim (honest_end items has (number_of c.args.way.now.tree) c.args.level spots found (g.S.Shelf.used c.args.shelf.now) (g.S.Shelf.used c.loop-node.shelf) so all stated) [
        | inl clash ↦ inl clash
        | inr ends ↦ elim (honest_end items closes (number_of c.args.way.now.tree) c.args.level spots closed.0 (g.S.Shelf.used c.args.shelf.now) (g.S.Shelf.used c.loop-node.shelf) so_closed all stated) [
          | inl clash ↦ inl clash
          | inr shut ↦ inr ((ends.0, (closed.0, shut.0, closed.1)), ends.1)
        ]
      ];
    }

pub loop-node-init : goal.loop-node-init
loop-node-init g c =
    let items = λ (spot : Option (List ℕ) × Node). children_placed spot.0 (links_in spot.1) in
    let opens = IsOpenChild g.G.Gather.closing (range_of c.args.way.now.range.now) in
    let closes = IsClosedChild g.G.Gather.closing (range_of c.args.way.now.range.now) in
    let spots = spots_of c.args.nodes.now in
    let used = g.S.Shelf.used c.args.shelf.now in
    let none : spots_of c.new-pending.result.items ≡ [] = ap spots_of c.new-pending.ensures.items in
    record {
      calls = refl;
      stays = λ bytes. ((λ _ is. is), (λ is. is));
      grows = λ bytes was. was;
      level = (None, level_start c.args.level used c.args.tally.now.fetches (g.S.Shelf.holds c.args.shelf.now) spots c.requires.order, none);
      wanted = λ top all. subst (λ (found : List (Option (List ℕ) × Link)). AreWanted used (number_of c.args.way.now.tree) top (c.args.level - 1) found) (sym none) tt;
      honest = subst (λ (found : List (Option (List ℕ) × Link)). HonestSoFar items opens (number_of c.args.way.now.tree) c.args.level spots spots found used used) (sym none)
          (honest_start items opens (number_of c.args.way.now.tree) c.args.level spots used);
      closed = ([], gains_none g.G.Gather.gathers c.args.gathered.now, honest_start items closes (number_of c.args.way.now.tree) c.args.level spots used);
      gives = (None, [], reading_start (number_of c.args.way.now.tree) c.args.level spots used c.args.tally.now.fetches (g.S.Shelf.holds c.args.shelf.now) c.requires.order, none, [], refl, gains_none g.G.Gather.gathers c.args.gathered.now);
    }

pub returns-in_err-children-clause-told : goal.returns-in_err-children-clause-told
returns-in_err-children-clause-told g c = λ top all.
    let tree = number_of c.args.way.now.tree in
    let used = g.S.Shelf.used c.open_inner.new.shelf in
    let grows = λ (x : List ℕ) (was : g.S.Shelf.used c.args.shelf.now x). c.open_inner.ensures.grows x (c.loop-node.invariant.grows x was) in
    let is = wanted_at used tree top c.args.level c.args.nodes.now c.loop-node.node-index _ c.loop-node-test.true (all_wanted_more (g.S.Shelf.used c.args.shelf.now) used tree top c.args.level (spots_of c.args.nodes.now) grows all) in
    refused_for tree top _ used _ c.in_err-children.field-0.0 c.from_residual.result (err_is c.from_residual.result c.in_err-children.field-0.0 c.from_residual.ensures.1) is c.in_err-children.ensures.told

pub returns-in_err-pick-clause-told : goal.returns-in_err-pick-clause-told
returns-in_err-pick-clause-told g c = λ top all.
    refused_memory _ _ _ _ c.from_residual-in_err-pick.result (err_is c.from_residual-in_err-pick.result Memory c.from_residual-in_err-pick.ensures.1)

pub returns-clause-gives : goal.returns-clause-gives
returns-clause-gives g c =
    let tree = number_of c.args.way.now.tree in
    let spots = spots_of c.args.nodes.now in
    let old = g.S.Shelf.used c.args.shelf.now in
    let held = g.S.Shelf.holds c.loop-node.shelf in
    let used = g.S.Shelf.used c.loop-node.shelf in
    let so = c.loop-node.invariant.gives in
    let reading = subst (λ (rest : List Pending). ReadingLevel tree c.args.level spots old c.args.tally.now.fetches so.0 held used c.loop-node.tally.fetches (spots_of rest) so.1) (drop_of_length-le c.args.nodes.now c.loop-node-test.false) so.2 in
    record {
      nodes = reading.so_far.done;
      fetched = reading.so_far.fetched;
      differ = reading.so_far.differ;
      texts = reading_texts tree c.args.level spots old c.args.tally.now.fetches so.0 held used c.loop-node.tally.fetches [] so.1 reading;
      read = so.1;
      accepted = reading_end tree c.args.level spots old c.args.tally.now.fetches so.0 held used c.loop-node.tally.fetches so.1 reading;
      enters = so.3;
      closed = so.4;
      closes = so.5;
      gains = so.6;
    }
