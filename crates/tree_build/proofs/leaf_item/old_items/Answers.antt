use Rattle.std.proofs.Common.{◌≡◌, ◌∷◌, [], ◌++◌, List, length, map, append_assoc, ap, sym, subst, ◌∙◌, arith}
use Rattle.std.specs.List.{AllByRecursion}
use Rattle.std.proofs.lemmas.List.{length-map, map-append}
use Rattle.tree_node.specs.NodeRefs.{binding_of}
use Rattle.tree_node.specs.Nodes.{Binding}
use Rattle.tree_node.specs.Trees.{is_marked_entry}
use Rattle.tree_build.specs.internal.LeafItems.{KnowsItsMark, entry_of}
use Rattle.tree_build.specs.declared.leaf_item.LeafItem.{LeafItem}
use Rattle.tree_build.proofs.ChangeLemmas.{all_append}
use Rattle.tree_build.proofs.MarkLemmas.{unmarked_between}
use Rattle.tree_build.proofs.leaf_item.old_items.Goals as goal

pub loop-entry-preserved : goal.loop-entry-preserved
loop-entry-preserved c =
    let done = map entry_of c.loop-entry.items.items in
    let item : LeafItem = record { entry = c.in-Some.entry; known_unmarked = c.is_between-known_unmarked.result } in
    let whole : done ++ binding_of c.in-Some.entry ∷ c.next.new.self ≡ c.args.entries = ap (λ (es : List Binding). done ++ es) (sym c.in-Some.ensures.steps) ∙ c.loop-entry.invariant.whole in
    record {
      whole = ap (λ (xs : List LeafItem). map entry_of xs ++ c.next.new.self) c.in_ok-push.ensures.items
          ∙ ap (λ (ys : List Binding). ys ++ c.next.new.self) (map-append entry_of c.loop-entry.items.items (item ∷ []))
          ∙ append_assoc done (binding_of c.in-Some.entry ∷ []) c.next.new.self
          ∙ whole;
      known = λ inside. subst (λ (xs : List LeafItem). AllByRecursion KnowsItsMark xs) (sym c.in_ok-push.ensures.items)
          (all_append KnowsItsMark c.loop-entry.items.items (item ∷ []) (c.loop-entry.invariant.known inside) (
            (λ yes.
                let between = c.is_between-known_unmarked.ensures.0 yes in
                let at : length done ≡ c.len.result = length-map c.loop-entry.items.items entry_of ∙ sym c.loop-entry.items.ok.0 ∙ sym c.len.ensures in
                unmarked_between is_marked_entry done (binding_of c.in-Some.entry) c.next.new.self c.args.entries inside whole (omega (arith, at, between.0)) (omega (arith, at, between.1, c.number-number.ensures))),
            tt,
          ));
    }

pub returns-clause-known : goal.returns-clause-known
returns-clause-known c = c.loop-entry.invariant.known
