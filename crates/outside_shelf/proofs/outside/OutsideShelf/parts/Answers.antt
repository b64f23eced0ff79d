use Rattle.std.proofs.Common.{◌≡◌, List, rules, subst, sym}
use Rattle.std.specs.HashMap.{values}
use Rattle.std.proofs.lemmas.List.Sorted.{answers_always}
use Rattle.tree_node.specs.Parts.{HaveNode}
use Rattle.tree_node.specs.Shelves.{SameNodes}
use Rattle.tree_node.specs.declared.part.Part.{Part}
use Rattle.tree_node.specs.internal.Pairs.{HaveDistinctDigests, part_key}
use Rattle.tree_node.proofs.RecorderLemmas.{parts_rise, same_given}
use Rattle.outside_shelf.specs.Shelves.{HasBrought}
use Rattle.outside_shelf.proofs.PartLemmas.{parts_brought, parts_distinct}
use Rattle.outside_shelf.proofs.outside.OutsideShelf.parts.Goals as goal

pub returns-clause-rising : goal.returns-clause-rising
returns-clause-rising g c =
    let all : c.in_ok-parts.parts.items ≡ values c.args.self.now.brought = search rules in
    let once = subst (λ (ps : List Part). HaveDistinctDigests ps) (sym all) (parts_distinct c.args.self.now.brought c.values.ensures.unique c.args.self.now.own) in
    parts_rise c.in_ok-parts.parts.items c.sort_unstable_by_key.new.self.items c.sort_unstable_by_key.ensures.permutation once
    (c.sort_unstable_by_key.ensures.sorted part_key (answers_always _ _ _ (λ f a r g h. search rules)))

pub returns-clause-brought : goal.returns-clause-brought
returns-clause-brought g c =
    let all : c.in_ok-parts.parts.items ≡ values c.args.self.now.brought = search rules in
    let has = subst (λ (ps : List Part). SameNodes (HasBrought c.args.self.now) (HaveNode ps)) (sym all) (parts_brought c.args.self.now.brought c.values.ensures.unique c.args.self.now.own) in
    same_given c.in_ok-parts.parts.items c.sort_unstable_by_key.new.self.items c.sort_unstable_by_key.ensures.permutation (HasBrought c.args.self.now) has
