-- A changed list has a tree where the list has one, the changes rise and fit, and there are few enough.
use Rattle.std.proofs.Common.{ℕ, ◌+◌, ◌≤◌, List, [], ◌∷◌, ◌++◌, length, length-append, Option, None, Some, arith}
use Rattle.std.proofs.lemmas.List.{length-map}
use Rattle.std.specs.Prelude.{IfSome}
use Rattle.std.specs.List.{AllByRecursion}
use Rattle.std.specs.declared.cmp.Ordering.{Ordering}
use Rattle.std.specs.declared.cmp.Ordering.TheVariants.{Less, Equal, Greater}
use Rattle.tree_node.specs.Nodes.{AreRisingFrom, Binding}
use Rattle.tree_node.specs.Order.{order}
use Rattle.tree_node.specs.Trees.{FitsTree, HasTree}
use Rattle.tree_build.specs.Changing.{Change, by_order, changed, changed_once, one_or_none}
use Rattle.tree_build.specs.Rebuilding.{change_of, changed_entries, changes_of, keys_of_changes}
use Rattle.tree_build.specs.declared.change.EntryChange.{EntryChange}
use Rattle.tree_build.proofs.DifferChanges.{changed_rises}
use Rattle.tree_build.proofs.OldLevels.{own_changes}
use Rattle.tree_build.proofs.ChangeLemmas.{once_all}

module _ {X : Type 0} (key : X → List ℕ) where
  few_put : (put : Option X) → length (one_or_none put) ≤ 1
  few_put None = omega arith
  few_put (Some x) = omega arith

  few_once : (xs : List X) (c : Change X) → length (changed_once key xs c) ≤ length xs + 1
  few_once [] c = few_put c.put
  few_once (x ∷ xs) c = by (order c.key (key x)) (few_once xs c)
    where
      by : (o : Ordering) → length (changed_once key xs c) ≤ length xs + 1 → length (by_order o (one_or_none c.put ++ x ∷ xs) (one_or_none c.put ++ xs) (x ∷ changed_once key xs c)) ≤ length (x ∷ xs) + 1
      by Less rest = omega (arith, few_put c.put, length-append (one_or_none c.put) (x ∷ xs))
      by Equal rest = omega (arith, few_put c.put, length-append (one_or_none c.put) xs)
      by Greater rest = omega (arith, rest)

  few_changed : (xs : List X) (cs : List (Change X)) → length (changed key xs cs) ≤ length xs + length cs
  few_changed xs [] = omega arith
  few_changed xs (c ∷ cs) = omega (arith, few_once xs c, few_changed (changed_once key xs c) cs)

  module _ (P : X → Type 0) where
    all_put : (put : Option X) → IfSome put P → AllByRecursion P (one_or_none put)
    all_put None is = tt
    all_put (Some x) is = (is, tt)

    all_changed : (xs : List X) (cs : List (Change X)) → AllByRecursion P xs → AllByRecursion (λ (c : Change X). IfSome c.put P) cs → AllByRecursion P (changed key xs cs)
    all_changed xs [] all puts = all
    all_changed xs (c ∷ cs) all puts = all_changed (changed_once key xs c) cs (once_all key P xs c all (all_put c.put puts.0)) puts.1

pub changed_tree : (entries : List Binding) (changes : List EntryChange) → HasTree entries → AreRisingFrom None (keys_of_changes (changes_of changes)) → AllByRecursion (λ (c : Change Binding). IfSome c.put FitsTree) (changes_of changes)
    → length entries + length changes ≤ 536870912 → HasTree (changed_entries entries (changes_of changes))
changed_tree entries changes has rising fit few = record {
  rising = changed_rises (λ (e : Binding). e.key) entries (changes_of changes) has.rising (own_changes changes rising);
  fit = all_changed (λ (e : Binding). e.key) FitsTree entries (changes_of changes) has.fit fit;
  few = omega (arith, few, few_changed (λ (e : Binding). e.key) entries (changes_of changes), length-map changes change_of);
}
