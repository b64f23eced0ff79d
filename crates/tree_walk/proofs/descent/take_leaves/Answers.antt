use Rattle.std.proofs.Common.{◌++◌, ◌∷◌, map, ℕ, ◌+◌, List, [], None, Option, Some, drop, Result, inl, inr, refl, sym, subst, ◌∙◌}
use Rattle.std.proofs.Math.ListN.{drop_of_length-le}
use Rattle.tree_node.specs.NodeRefs.{number_of}
use Rattle.tree_node.specs.Nodes.{Binding, Leaf, Link, Node}
use Rattle.tree_node.specs.Trees.{entries_in}
use Rattle.tree_node.proofs.shared.OutcomeLaws.{uses}
use Rattle.tree_walk.specs.Choices.{AreThose}
use Rattle.tree_walk.specs.internal.Accounts.{Gains}
use Rattle.tree_walk.specs.Fetches.{cause_of}
use Rattle.tree_node.specs.Outcomes.{Outcome}
use Rattle.tree_walk.specs.internal.Pendings.{IsOneOf, spots_of}
use Rattle.tree_walk.specs.Given.{entries_of_all}
use Rattle.tree_walk.specs.Ranges.{range_of}
use Rattle.tree_walk.specs.Walks.{IsEntryIn}
use Rattle.tree_walk.specs.declared.fault.WalkFault.{WalkFault}
use Rattle.tree_walk.specs.declared.fault.WalkFault.TheVariants.{Memory}
use Rattle.tree_walk.specs.declared.pending.Pending.{Pending}
use Rattle.tree_walk.proofs.AccountLemmas.{gains_none, gains_then}
use Rattle.tree_walk.proofs.FetchLemmas.{stays_then}
use Rattle.tree_walk.specs.Given.{FromLeaves, wanted_of}
use Rattle.tree_walk.specs.Uses.{nodes_around}
use Rattle.tree_walk.proofs.GivenLevels.{ReadingLevel, reading_end, reading_start, reading_step, reading_texts, those_of_next}
use Rattle.tree_walk.proofs.HonestLemmas.{HonestSoFar, honest_end, honest_start, honest_step, honest_stop}
use Rattle.tree_walk.proofs.LevelFetches.{FetchingLevel, level_end, level_refused, level_start, level_step, level_stopped}
use Rattle.tree_node.proofs.shared.Results.{err_is}
use Rattle.tree_walk.proofs.Pendings.{rest_is}
use Rattle.tree_walk.proofs.ReasonLemmas.{all_wanted_more, refused_for, refused_memory, wanted_at}
use Rattle.tree_walk.proofs.descent.take_leaves.Goals as goal

pub take-requires : goal.take-requires
take-requires g c κs = ((refl, tt), c.in_ok-entries.ensures.opens.spells.0.3)

pub returns-in_err-entries-clause-fetches : goal.returns-in_err-entries-clause-fetches
returns-in_err-entries-clause-fetches g c =
    let so = c.loop-node.invariant.level in
    level_stopped 0 (g.S.Shelf.used c.args.shelf.now) c.args.tally.now.fetches c.from_residual.result c.in_err-entries.field-0.0 so.0 (g.S.Shelf.holds c.loop-node.shelf) (g.S.Shelf.holds c.open_leaf.new.shelf)
    (g.S.Shelf.used c.loop-node.shelf) (g.S.Shelf.used c.open_leaf.new.shelf) c.loop-node.tally.fetches c.open_leaf.new.tally.fetches (spots_of (drop c.loop-node.node-index c.args.nodes.now))
    (err_is c.from_residual.result c.in_err-entries.field-0.0 c.from_residual.ensures.1) so.1 c.open_leaf.ensures.stays c.in_err-entries.ensures.opens

pub returns-in_err-entries-clause-answer : goal.returns-in_err-entries-clause-answer
returns-in_err-entries-clause-answer g c = λ all stated.
    let items = λ (spot : Option (List ℕ) × Node). entries_in spot.1 in
    let has = IsEntryIn (range_of c.args.way.now.range.now) in
    let spots = spots_of c.args.nodes.now in
    let found = c.loop-node.invariant.honest.0 in
    let used = g.S.Shelf.used c.open_leaf.new.shelf in
    let before = subst (λ (rest : List (Option (List ℕ) × Link)). HonestSoFar items has (number_of c.args.way.now.tree) 0 spots rest found (g.S.Shelf.used c.args.shelf.now) (g.S.Shelf.used c.loop-node.shelf))
    (rest_is c.args.nodes.now c.loop-node.node-index _ c.loop-node-test.true) c.loop-node.invariant.honest.2 in
    subst (λ (r : Result (Unit {0}) WalkFault). Outcome cause_of (λ (_ : Unit {0}). (those : List Binding) × AreThose has (entries_of_all all) those × Gains g.G.Gather.gathers c.args.gathered.now c.loop-node.gathered [] those) (IsOneOf all) (uses (g.S.Shelf.holds c.open_leaf.new.shelf) (g.S.Shelf.used c.args.shelf.now) used) r)
    (sym (err_is c.from_residual.result c.in_err-entries.field-0.0 c.from_residual.ensures.1))
    (record {
      ends = honest_stop items has (number_of c.args.way.now.tree) 0 (cause_of c.in_err-entries.field-0.0) (g.S.Shelf.holds c.open_leaf.new.shelf) spots (spots_of (drop (c.loop-node.node-index + 1) c.args.nodes.now)) _ found
          (g.S.Shelf.used c.args.shelf.now) (g.S.Shelf.used c.loop-node.shelf) used before c.open_leaf.ensures.grows (λ node is. (c.in_err-entries.ensures.answer node is).ends) all stated;
    })

pub returns-in_err-take-clause-fetches : goal.returns-in_err-take-clause-fetches
returns-in_err-take-clause-fetches g c =
    let so = c.loop-node.invariant.level in
    let before = subst (λ (rest : List (Option (List ℕ) × Link)). FetchingLevel 0 so.0 (nodes_around g.S.Shelf.holds g.S.Shelf.used c.args.shelf.now c.loop-node.shelf) c.args.tally.now.fetches c.loop-node.tally.fetches rest)
    (rest_is c.args.nodes.now c.loop-node.node-index _ c.loop-node-test.true) so.1 in
    let next = level_step 0 (g.S.Shelf.used c.args.shelf.now) c.args.tally.now.fetches so.0 (g.S.Shelf.holds c.loop-node.shelf) (g.S.Shelf.holds c.open_leaf.new.shelf) (g.S.Shelf.used c.loop-node.shelf) (g.S.Shelf.used c.open_leaf.new.shelf)
    c.loop-node.tally.fetches c.open_leaf.new.tally.fetches _ (spots_of (drop (c.loop-node.node-index + 1) c.args.nodes.now)) (Leaf (number_of c.args.way.now.tree) c.in_ok-entries.entries)
    before c.open_leaf.ensures.stays c.in_ok-entries.ensures.opens refl c.in_ok-entries.ensures.agrees.1.0 in
    level_refused 0 (g.S.Shelf.used c.args.shelf.now) c.args.tally.now.fetches c.from_residual-in_err-take.result Memory (Some _) (g.S.Shelf.holds c.open_leaf.new.shelf) (g.S.Shelf.used c.open_leaf.new.shelf) c.open_leaf.new.tally.fetches
    (spots_of (drop (c.loop-node.node-index + 1) c.args.nodes.now)) (err_is c.from_residual-in_err-take.result Memory c.from_residual-in_err-take.ensures.1) next

pub loop-node-init : goal.loop-node-init
loop-node-init g c =
    let items = λ (spot : Option (List ℕ) × Node). entries_in spot.1 in
    let has = IsEntryIn (range_of c.args.way.now.range.now) in
    let spots = spots_of c.args.nodes.now in
    let used = g.S.Shelf.used c.args.shelf.now in
    record {
      calls = refl;
      stays = λ bytes. ((λ _ is. is), (λ is. is));
      grows = λ bytes was. was;
      level = (None, level_start 0 used c.args.tally.now.fetches (g.S.Shelf.holds c.args.shelf.now) spots c.requires.order);
      honest = ([], gains_none g.G.Gather.gathers c.args.gathered.now, honest_start items has (number_of c.args.way.now.tree) 0 spots used);
      gives = (None, [], reading_start (number_of c.args.way.now.tree) 0 spots used c.args.tally.now.fetches (g.S.Shelf.holds c.args.shelf.now) c.requires.order, [], refl, gains_none g.G.Gather.gathers c.args.gathered.now);
    }

pub loop-node-preserved : goal.loop-node-preserved
loop-node-preserved g c =
    let items = λ (spot : Option (List ℕ) × Node). entries_in spot.1 in
    let has = IsEntryIn (range_of c.args.way.now.range.now) in
    let spots = spots_of c.args.nodes.now in
    let rest = spots_of (drop (c.loop-node.node-index + 1) c.args.nodes.now) in
    let found = c.loop-node.invariant.honest.0 in
    let so = c.loop-node.invariant.level in
    let node = Leaf (number_of c.args.way.now.tree) c.in_ok-entries.entries in
    let before = subst (λ (rest : List (Option (List ℕ) × Link)). FetchingLevel 0 so.0 (nodes_around g.S.Shelf.holds g.S.Shelf.used c.args.shelf.now c.loop-node.shelf) c.args.tally.now.fetches c.loop-node.tally.fetches rest)
    (rest_is c.args.nodes.now c.loop-node.node-index _ c.loop-node-test.true) so.1 in
    let next = level_step 0 (g.S.Shelf.used c.args.shelf.now) c.args.tally.now.fetches so.0 (g.S.Shelf.holds c.loop-node.shelf) (g.S.Shelf.holds c.open_leaf.new.shelf) (g.S.Shelf.used c.loop-node.shelf) (g.S.Shelf.used c.open_leaf.new.shelf)
    c.loop-node.tally.fetches c.open_leaf.new.tally.fetches _ rest node before c.open_leaf.ensures.stays c.in_ok-entries.ensures.opens refl c.in_ok-entries.ensures.agrees.1.0 in
    let picked = c.in_ok-take.ensures in
    let honest_before = subst (λ (rest : List (Option (List ℕ) × Link)). HonestSoFar items has (number_of c.args.way.now.tree) 0 spots rest found (g.S.Shelf.used c.args.shelf.now) (g.S.Shelf.used c.loop-node.shelf))
    (rest_is c.args.nodes.now c.loop-node.node-index _ c.loop-node-test.true) c.loop-node.invariant.honest.2 in
    let honest = honest_step items has (number_of c.args.way.now.tree) 0 (Leaf (number_of c.args.way.now.tree)) c.in_ok-entries.entries spots rest _ found picked.0
    (g.S.Shelf.used c.args.shelf.now) (g.S.Shelf.used c.loop-node.shelf) (g.S.Shelf.used c.open_leaf.new.shelf) honest_before c.open_leaf.ensures.grows (λ node is. (c.in_ok-entries.ensures.answer node is).ends) picked.1 in
    let so_given = c.loop-node.invariant.gives in
    let spot : Option (List ℕ) × Node = (_, node) in
    let reading = subst (λ (rest : List (Option (List ℕ) × Link)). ReadingLevel (number_of c.args.way.now.tree) 0 spots (g.S.Shelf.used c.args.shelf.now) c.args.tally.now.fetches so_given.0 (g.S.Shelf.holds c.loop-node.shelf) (g.S.Shelf.used c.loop-node.shelf) c.loop-node.tally.fetches rest so_given.1)
    (rest_is c.args.nodes.now c.loop-node.node-index _ c.loop-node-test.true) so_given.2 in
    record {
      calls = c.open_leaf.ensures.calls ∙ c.loop-node.invariant.calls;
      stays = stays_then _ _ _ _ c.loop-node.invariant.stays c.open_leaf.ensures.stays;
      grows = λ bytes was. c.open_leaf.ensures.grows bytes (c.loop-node.invariant.grows bytes was);
      level = (Some _, next);
      honest = (found ++ picked.0, gains_then g.G.Gather.gathers c.args.gathered.now c.loop-node.gathered c.take.new.gathered [] [] found picked.0 c.loop-node.invariant.honest.1 picked.2, honest);
      gives = (
        Some _,
        so_given.1 ++ spot ∷ [],
        reading_step (number_of c.args.way.now.tree) 0 spots (g.S.Shelf.used c.args.shelf.now) c.args.tally.now.fetches so_given.0 (g.S.Shelf.holds c.loop-node.shelf) (g.S.Shelf.holds c.open_leaf.new.shelf) (g.S.Shelf.used c.loop-node.shelf) (g.S.Shelf.used c.open_leaf.new.shelf)
            c.loop-node.tally.fetches c.open_leaf.new.tally.fetches _ rest so_given.1 node reading c.open_leaf.ensures.stays c.in_ok-entries.ensures.opens refl c.in_ok-entries.ensures.agrees.1.0 c.in_ok-entries.ensures.accepted,
        so_given.3 ++ picked.0,
        those_of_next items has so_given.1 spot so_given.3 picked.0 so_given.4 picked.1,
        gains_then g.G.Gather.gathers c.args.gathered.now c.loop-node.gathered c.take.new.gathered [] [] so_given.3 picked.0 so_given.5 picked.2,
      );
    }

pub returns-clause-fetches : goal.returns-clause-fetches
returns-clause-fetches g c =
    let so = c.loop-node.invariant.level in
    let value : Unit {0} = tt in
    level_end 0 (g.S.Shelf.used c.args.shelf.now) c.args.tally.now.fetches value so.0 (g.S.Shelf.holds c.loop-node.shelf) (g.S.Shelf.used c.loop-node.shelf) c.loop-node.tally.fetches
    (spots_of (drop c.loop-node.node-index c.args.nodes.now)) so.1

pub returns-clause-answer : goal.returns-clause-answer
returns-clause-answer g c = λ all stated.
    let items = λ (spot : Option (List ℕ) × Node). entries_in spot.1 in
    let has = IsEntryIn (range_of c.args.way.now.range.now) in
    let spots = spots_of c.args.nodes.now in
    let found = c.loop-node.invariant.honest.0 in
    let so = subst (λ (rest : List Pending). HonestSoFar items has (number_of c.args.way.now.tree) 0 spots (spots_of rest) found (g.S.Shelf.used c.args.shelf.now) (g.S.Shelf.used c.loop-node.shelf))
    (drop_of_length-le c.args.nodes.now c.loop-node-test.false) c.loop-node.invariant.honest.2 in
    record {
      ends = elim (honest_end items has (number_of c.args.way.now.tree) 0 spots found (g.S.Shelf.used c.args.shelf.now) (g.S.Shelf.used c.loop-node.shelf) so all stated) [
        | inl clash ↦ inl clash
        | inr ends ↦ inr ((found, ends.0, c.loop-node.invariant.honest.1), ends.1)
      ];
    }

pub returns-in_err-entries-clause-told : goal.returns-in_err-entries-clause-told
returns-in_err-entries-clause-told g c = λ top all.
    let tree = number_of c.args.way.now.tree in
    let used = g.S.Shelf.used c.open_leaf.new.shelf in
    let grows = λ (x : List ℕ) (was : g.S.Shelf.used c.args.shelf.now x). c.open_leaf.ensures.grows x (c.loop-node.invariant.grows x was) in
    let is = wanted_at used tree top 0 c.args.nodes.now c.loop-node.node-index _ c.loop-node-test.true (all_wanted_more (g.S.Shelf.used c.args.shelf.now) used tree top 0 (spots_of c.args.nodes.now) grows all) in
    refused_for tree top _ used _ c.in_err-entries.field-0.0 c.from_residual.result (err_is c.from_residual.result c.in_err-entries.field-0.0 c.from_residual.ensures.1) is c.in_err-entries.ensures.told

pub returns-in_err-take-clause-told : goal.returns-in_err-take-clause-told
returns-in_err-take-clause-told g c = λ top all.
    refused_memory _ _ _ _ c.from_residual-in_err-take.result (err_is c.from_residual-in_err-take.result Memory c.from_residual-in_err-take.ensures.1)

pub returns-clause-gives : goal.returns-clause-gives
returns-clause-gives g c =
    let tree = number_of c.args.way.now.tree in
    let spots = spots_of c.args.nodes.now in
    let old = g.S.Shelf.used c.args.shelf.now in
    let held = g.S.Shelf.holds c.loop-node.shelf in
    let used = g.S.Shelf.used c.loop-node.shelf in
    let so = c.loop-node.invariant.gives in
    let reading = subst (λ (rest : List Pending). ReadingLevel tree 0 spots old c.args.tally.now.fetches so.0 held used c.loop-node.tally.fetches (spots_of rest) so.1) (drop_of_length-le c.args.nodes.now c.loop-node-test.false) so.2 in
    record {
      nodes = reading.so_far.done;
      fetched = reading.so_far.fetched;
      differ = reading.so_far.differ;
      texts = reading_texts tree 0 spots old c.args.tally.now.fetches so.0 held used c.loop-node.tally.fetches [] so.1 reading;
      closed = [];
      found = so.3;
      gives = FromLeaves (map (wanted_of 0) spots) so.1 so.3 (reading_end tree 0 spots old c.args.tally.now.fetches so.0 held used c.loop-node.tally.fetches so.1 reading) so.4;
      gains = so.5;
    }
