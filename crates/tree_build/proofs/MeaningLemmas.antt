-- Changes of items, and of what the items are.
use Rattle.std.proofs.Common.{◌≡◌, ℕ, List, [], ◌∷◌, ◌++◌, map, Option, None, Some, refl, ap, ◌∙◌}
use Rattle.std.specs.Prelude.{IfSome}
use Rattle.std.specs.Option.{option_map}
use Rattle.std.specs.List.{AllByRecursion}
use Rattle.std.specs.declared.cmp.Ordering.{Ordering}
use Rattle.std.specs.declared.cmp.Ordering.TheVariants.{Less, Equal, Greater}
use Rattle.std.proofs.lemmas.List.{map-append}
use Rattle.tree_node.specs.Order.{order, IsBelow}
use Rattle.tree_build.specs.Changing.{Change, by_order, changed, changed_once, one_or_none}
use Rattle.tree_build.specs.internal.ItemChanges.{change_in, change_meant, changes_in, changes_meant}
use Rattle.tree_build.specs.internal.RisingChanges.{AreOwnAndRising}
use Rattle.tree_build.specs.declared.level_item.ItemChange.{ItemChange}

module _ {T M : Type 0} (meaning : T → M) (own : T → List ℕ) (key : M → List ℕ) (keys : (x : T) → own x ≡ key (meaning x)) where
  put_meant : (put : Option T) → map meaning (one_or_none put) ≡ one_or_none (option_map meaning put)
  put_meant None = refl
  put_meant (Some x) = refl

  once_meant : (xs : List T) (change : ItemChange T) → map meaning (changed_once own xs (change_in change)) ≡ changed_once key (map meaning xs) (change_meant meaning change)
  once_meant [] change = put_meant change.put
  once_meant (x ∷ xs) change =
      step (order change.key.now (own x)) (once_meant xs change)
      ∙ ap (λ (k : List ℕ). by_order (order change.key.now k) (one_or_none (option_map meaning change.put) ++ meaning x ∷ map meaning xs) (one_or_none (option_map meaning change.put) ++ map meaning xs)
      (meaning x ∷ changed_once key (map meaning xs) (change_meant meaning change))) (keys x)
    where
      step : (o : Ordering) → map meaning (changed_once own xs (change_in change)) ≡ changed_once key (map meaning xs) (change_meant meaning change)
          → map meaning (by_order o (one_or_none change.put ++ x ∷ xs) (one_or_none change.put ++ xs) (x ∷ changed_once own xs (change_in change)))
          ≡ by_order o (one_or_none (option_map meaning change.put) ++ meaning x ∷ map meaning xs) (one_or_none (option_map meaning change.put) ++ map meaning xs) (meaning x ∷ changed_once key (map meaning xs) (change_meant meaning change))
      step Less e = map-append meaning (one_or_none change.put) (x ∷ xs) ∙ ap (λ (ys : List M). ys ++ meaning x ∷ map meaning xs) (put_meant change.put)
      step Equal e = map-append meaning (one_or_none change.put) xs ∙ ap (λ (ys : List M). ys ++ map meaning xs) (put_meant change.put)
      step Greater e = ap (λ (ys : List M). meaning x ∷ ys) e

  -- what changed items are
  pub changed_meant : (xs : List T) (changes : List (ItemChange T)) → map meaning (changed own xs (changes_in changes)) ≡ changed key (map meaning xs) (changes_meant meaning changes)
  changed_meant xs [] = refl
  changed_meant xs (c ∷ cs) = changed_meant (changed_once own xs (change_in c)) cs ∙ ap (λ (ys : List M). changed key ys (changes_meant meaning cs)) (once_meant xs c)

  own_meant : (put : Option T) (k : List ℕ) → IfSome (option_map meaning put) (λ m. key m ≡ k) → IfSome put (λ x. own x ≡ k)
  own_meant None k is = tt
  own_meant (Some x) k is = keys x ∙ is

  above_meant : (k : List ℕ) (changes : List (ItemChange T)) → AllByRecursion (λ (c : Change M). IsBelow k c.key) (changes_meant meaning changes) → AllByRecursion (λ (c : Change T). IsBelow k c.key) (changes_in changes)
  above_meant k [] all = tt
  above_meant k (c ∷ cs) all = (all.0, above_meant k cs all.1)

  -- where the changes of what they are rise, the changes do
  pub rising_meant : (changes : List (ItemChange T)) → AreOwnAndRising key (changes_meant meaning changes) → AreOwnAndRising own (changes_in changes)
  rising_meant [] are = tt
  rising_meant (c ∷ cs) are = (own_meant c.put c.key.now are.0, above_meant c.key.now cs are.1, rising_meant cs are.2)
