use Rattle.std.proofs.Common.{◌++◌, ◌∷◌, List, [], None, Some, subst}
use Rattle.std.specs.List.{AllByRecursion}
use Rattle.tree_node.specs.NodeRefs.{binding_of}
use Rattle.tree_node.specs.Nodes.{AreRisingFrom, Binding, keys_of}
use Rattle.tree_node.specs.Skips.{from_key, key_before}
use Rattle.tree_walk.specs.Ranges.{IsAtMost, range_of}
use Rattle.tree_walk.specs.internal.Reaching.{Reaches}
use Rattle.tree_walk.specs.Walks.{IsEntryIn}
use Rattle.tree_walk.proofs.AccountLemmas.{gains_none, gains_then}
use Rattle.tree_walk.proofs.ChoiceLemmas.{ArePicked, fails_not, picked_all, picked_one, picked_stop}
use Rattle.tree_walk.proofs.EndLemmas.{none_from, rises_unbounded}
use Rattle.tree_walk.proofs.SkipLemmas.{entries_skipped, found_from, found_rises}
use Rattle.tree_walk.proofs.descent.take.Goals as goal

pub loop-item-init : goal.loop-item-init
loop-item-init g c =
    let same = c.into_iter-item-iterator.ensures.into_iter_gives in
    let range = range_of c.args.range.now in
    let key_of = λ (entry : Binding). entry.key in
    record {
      rising = rw (same, c.skip_below-item-items.ensures) (rises_unbounded (key_before key_of range.lo None c.args.entries) (keys_of (from_key key_of range.lo c.args.entries)) (found_rises key_of range.lo None c.args.entries c.requires));
      from = rw (same, c.skip_below-item-items.ensures) (found_from key_of range.lo None c.args.entries c.requires);
      so_far = ([], rw (same, c.skip_below-item-items.ensures) (entries_skipped range c.args.entries), gains_none g.G.Gather.gathers c.args.gathered.now);
    }

pub returns-then-not-reaches : goal.returns-then-not-reaches
returns-then-not-reaches g c =
    let has = IsEntryIn (range_of c.args.range.now) in
    let before = c.loop-item.invariant.so_far in
    let rising = subst (λ (entries : List Binding). AreRisingFrom None (keys_of entries)) c.in-Some.ensures.steps c.loop-item.invariant.rising in
    let picking = subst (λ (entries : List Binding). ArePicked has c.args.entries entries before.0) c.in-Some.ensures.steps before.1 in
    let beyond = fails_not (Reaches (range_of c.args.range.now) c.in-Some.item.key.now) c.reaches.result c.reaches.ensures c.if-not-reaches.true in
    let none = none_from (range_of c.args.range.now) None (binding_of c.in-Some.item) c.next.new.self beyond rising in
    (before.0, picked_stop has c.args.entries (binding_of c.in-Some.item ∷ c.next.new.self) before.0 none picking, before.2)

pub loop-item-preserved : goal.loop-item-preserved
loop-item-preserved g c =
    let has = IsEntryIn (range_of c.args.range.now) in
    let before = c.loop-item.invariant.so_far in
    let rising = subst (λ (entries : List Binding). AreRisingFrom None (keys_of entries)) c.in-Some.ensures.steps c.loop-item.invariant.rising in
    let picking = subst (λ (entries : List Binding). ArePicked has c.args.entries entries before.0) c.in-Some.ensures.steps before.1 in
    let from = subst (λ (entries : List Binding). AllByRecursion (IsAtMost c.args.range.now.lo.now) (keys_of entries)) c.in-Some.ensures.steps c.loop-item.invariant.from in
    record {
      from = from.1;
      rising = rises_unbounded (Some c.in-Some.item.key.now) (keys_of c.next.new.self) rising.1;
      so_far = (
        before.0 ++ binding_of c.in-Some.item ∷ [],
        picked_one has c.args.entries c.next.new.self before.0 (binding_of c.in-Some.item) (from.0, c.reaches.ensures.0 c.if-not-reaches.false) picking,
        gains_then g.G.Gather.gathers c.args.gathered.now c.loop-item.gathered c.take.new.self [] [] before.0 (binding_of c.in-Some.item ∷ []) before.2 c.in_ok-take.ensures,
      );
    }

pub returns : goal.returns
returns g c =
    let has = IsEntryIn (range_of c.args.range.now) in
    let before = c.loop-item.invariant.so_far in
    let picking = subst (λ (entries : List Binding). ArePicked has c.args.entries entries before.0) c.in-None.ensures.steps.0 before.1 in
    (before.0, picked_all has c.args.entries before.0 picking, before.2)
