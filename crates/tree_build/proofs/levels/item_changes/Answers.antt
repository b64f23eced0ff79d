use Rattle.std.proofs.Common.{◌∷◌, [], List, ap, sym, subst, ◌∙◌}
use Rattle.std.specs.List.{AllByRecursion}
use Rattle.std.proofs.lemmas.List.{map-append}
use Rattle.tree_build.specs.Rebuilding.{change_of}
use Rattle.tree_build.specs.internal.ItemChanges.{PutsKnown, change_meant, changes_meant}
use Rattle.tree_build.specs.internal.LeafItems.{KnowsItsMark, entry_of}
use Rattle.tree_build.specs.declared.leaf_item.LeafItem.{LeafItem}
use Rattle.tree_build.specs.declared.level_item.ItemChange.{ItemChange}
use Rattle.tree_build.proofs.ChangeLemmas.{all_append}
use Rattle.tree_build.proofs.PendingLemmas.{next_taken}
use Rattle.tree_build.proofs.levels.item_changes.Goals as goal

pub loop-change-preserved : goal.loop-change-preserved
loop-change-preserved c = record {
  meant = ap (changes_meant entry_of) c.in_ok-push.ensures.items
      ∙ map-append (change_meant entry_of) c.loop-change.items.items (c.item_change.result ∷ [])
      ∙ next_taken change_of c.args.changes.now c.loop-change.change-index c.change-item.result (changes_meant entry_of c.loop-change.items.items) (change_meant entry_of c.item_change.result)
      c.loop-change-test.true c.change-item.is c.loop-change.invariant.meant c.item_change.ensures.change;
  known = subst (λ (xs : List (ItemChange LeafItem)). AllByRecursion (PutsKnown KnowsItsMark) xs) (sym c.in_ok-push.ensures.items)
      (all_append (PutsKnown KnowsItsMark) c.loop-change.items.items (c.item_change.result ∷ []) c.loop-change.invariant.known (c.item_change.ensures.known, tt));
}

pub returns-clause-known : goal.returns-clause-known
returns-clause-known c = c.loop-change.invariant.known
