-- Where a change falls among items, as a loop over them finds it.
use Rattle.std.proofs.Common.{◌≡◌, ◌↔◌, IsTrue, ℕ, suc, ◌+◌, ◌-◌, ◌<◌, List, [], ◌∷◌, ◌++◌, length, get_or, take, drop, Bool, true, false, refl, sym, ap, ◌∙◌, add-one}
use Rattle.std.specs.List.{AllByRecursion}
use Rattle.std.specs.declared.cmp.Ordering.{Ordering}
use Rattle.std.specs.declared.cmp.Ordering.TheVariants.{Less, Equal, Greater}
use Rattle.std.proofs.lemmas.List.{append-nil, length-drop, take-append-drop}
use Rattle.std.proofs.Math.Seq.{drop-cons, take-length}
use Rattle.tree_node.specs.Order.{order, IsBelow}
use Rattle.tree_node.specs.internal.OrderLemmas.{order_above, order_same}
use Rattle.tree_build.specs.Changing.{Change, changed_once, one_or_none}
use Rattle.tree_build.proofs.ChangeLemmas.{merge_below, merge_same, once_behind}

-- neither is below the other
pub neither : (a b : List ℕ) (s t : Bool) → IsTrue s ↔ IsBelow a b → IsTrue t ↔ IsBelow b a → s ≡ false → t ≡ false → a ≡ b
neither a b s t one two no_one no_two = by (order a b) refl
  where
    by : (o : Ordering) → order a b ≡ o → a ≡ b
    by Less e = let p : s ≡ true = one.1 e in absurd cc
    by Equal e = order_same a b e
    by Greater e = let p : t ≡ true = two.1 (order_above a b e) in absurd cc

module _ {X : Type 0} (key : X → List ℕ) (items : List X) (at : ℕ) (change : Change X) where
  rest_taken : take (length items - at) (drop at items) ≡ drop at items
  rest_taken = ap (λ n. take n (drop at items)) (sym (length-drop at items)) ∙ take-length (drop at items)

  module _ (x : X) (lt : at < length items) (is : x ≡ get_or items at x) (low : AllByRecursion (λ (y : X). IsBelow (key y) change.key) (take at items)) where
    next : drop at items ≡ x ∷ drop (at + 1) items
    next = drop-cons items at x lt ∙ ap (λ (y : X). y ∷ drop (suc at) items) (sym is) ∙ ap (λ n. x ∷ drop n items) (sym (add-one at))

    parts : items ≡ take at items ++ x ∷ drop (at + 1) items
    parts = sym (take-append-drop at items) ∙ ap (λ (ys : List X). take at items ++ ys) next

    -- the change is below this item
    pub split_below : IsBelow change.key (key x) → changed_once key items change ≡ take at items ++ (one_or_none change.put ++ take (length items - at) (drop at items))
    split_below below =
        ap (λ (ys : List X). changed_once key ys change) parts
        ∙ once_behind key (take at items) (x ∷ drop (at + 1) items) change low
        ∙ ap (λ (ys : List X). take at items ++ ys) (merge_below key x (drop (at + 1) items) change below ∙ ap (λ (ys : List X). one_or_none change.put ++ ys) (sym next ∙ sym rest_taken))

  module _ (x : X) (lt : at < length items) (is : x ≡ get_or items at x) (low : AllByRecursion (λ (y : X). IsBelow (key y) change.key) (take at items)) where
    -- the change is of this item
    pub split_same : change.key ≡ key x → changed_once key items change ≡ take at items ++ (one_or_none change.put ++ take (length items - (at + 1)) (drop (at + 1) items))
    split_same same =
        let whole : take (length items - (at + 1)) (drop (at + 1) items) ≡ drop (at + 1) items =
        ap (λ n. take n (drop (at + 1) items)) (sym (length-drop (at + 1) items)) ∙ take-length (drop (at + 1) items) in
        ap (λ (ys : List X). changed_once key ys change) (parts x lt is low)
        ∙ once_behind key (take at items) (x ∷ drop (at + 1) items) change low
        ∙ ap (λ (ys : List X). take at items ++ ys) (merge_same key x (drop (at + 1) items) change same ∙ ap (λ (ys : List X). one_or_none change.put ++ ys) (sym whole))

-- the change is above all items
pub split_end : {X : Type 0} (key : X → List ℕ) (items : List X) (change : Change X) → AllByRecursion (λ (y : X). IsBelow (key y) change.key) items → changed_once key items change ≡ items ++ (one_or_none change.put ++ [])
split_end {X} key items change low =
    ap (λ (ys : List X). changed_once key ys change) (sym (append-nil items))
    ∙ once_behind key items [] change low ∙ ap (λ (ys : List X). items ++ ys) (sym (append-nil (one_or_none change.put)))
