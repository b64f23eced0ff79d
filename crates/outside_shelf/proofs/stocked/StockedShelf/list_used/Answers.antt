use Rattle.std.proofs.Common.{◌≡◌, ◌++◌, List, rules, subst, sym}
use Rattle.std.proofs.lemmas.List.Sorted.{answers_always}
use Rattle.tree_node.specs.Parts.{HaveNode}
use Rattle.tree_node.specs.Recorders.{RecorderUsed}
use Rattle.tree_node.specs.Shelves.{SameNodes}
use Rattle.tree_node.specs.declared.part.Part.{Part}
use Rattle.tree_node.specs.internal.Pairs.{HaveDistinctDigests, part_key}
use Rattle.tree_node.proofs.RecorderLemmas.{parts_rise, same_given}
use Rattle.tree_node.proofs.shared.StockLaws.{recorder_used}
use Rattle.outside_shelf.specs.Shelves.{HasBrought}
use Rattle.outside_shelf.specs.StockedShelves.{HasStocked, StockedUsed, outside_of}
use Rattle.outside_shelf.proofs.TogetherLemmas.{distinct_together, held_of_both}
use Rattle.outside_shelf.proofs.stocked.StockedShelf.list_used.Goals as goal

pub returns-clause-rising : goal.returns-clause-rising
returns-clause-rising g c =
    let shelf = c.args.self.now in
    let brought = c.in_ok-parts.parts.items in
    let given = c.in_ok-given.given.items in
    let all : c.extend_from_slice.new.self.items ≡ brought ++ given = search rules in
    let once = subst (λ (ps : List Part). HaveDistinctDigests ps) (sym all)
    (distinct_together brought given (HasStocked shelf) (RecorderUsed shelf.recorder) (HasBrought (outside_of shelf))
    c.in_ok-parts.ensures.brought c.in_ok-given.ensures.used (recorder_used shelf.recorder) shelf.apart
    c.in_ok-parts.ensures.rising c.in_ok-given.ensures.rising) in
    parts_rise c.extend_from_slice.new.self.items c.sort_unstable_by_key.new.self.items c.sort_unstable_by_key.ensures.permutation once
    (c.sort_unstable_by_key.ensures.sorted part_key (answers_always _ _ _ (λ f a r g h. search rules)))

pub returns-clause-used : goal.returns-clause-used
returns-clause-used g c =
    let shelf = c.args.self.now in
    let brought = c.in_ok-parts.parts.items in
    let given = c.in_ok-given.given.items in
    let all : c.extend_from_slice.new.self.items ≡ brought ++ given = search rules in
    let has = subst (λ (ps : List Part). SameNodes (StockedUsed shelf) (HaveNode ps)) (sym all)
    (held_of_both brought given (HasStocked shelf) (RecorderUsed shelf.recorder) (HasBrought (outside_of shelf))
    c.in_ok-parts.ensures.brought c.in_ok-given.ensures.used (recorder_used shelf.recorder) shelf.apart) in
    same_given c.extend_from_slice.new.self.items c.sort_unstable_by_key.new.self.items c.sort_unstable_by_key.ensures.permutation (StockedUsed shelf) has
