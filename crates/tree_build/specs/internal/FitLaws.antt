-- Proofs of the laws of a level's items. They stand among the definitions since the implementations of the items, which
-- cite them, can cite definitions alone.
use Rattle.std.proofs.Common.{◌≡◌, ◌≤◌, List, [], ◌∷◌, ◌++◌, length, Bool, true, false, cond, refl, sym, arith}
use Rattle.std.specs.List.{AllByRecursion}
use Rattle.std.proofs.lemmas.List.Sums.{sum_by-append}
use Rattle.tree_node.specs.Nodes.{Binding, Link}
use Rattle.tree_node.specs.Trees.{FitsTree, is_marked_entry}
use Rattle.tree_build.specs.internal.Building.{AreWithin}
use Rattle.tree_build.specs.internal.LeafItems.{KnowsItsMark, entry_of, mark_told}
use Rattle.tree_build.specs.declared.leaf_item.LeafItem.{LeafItem}

all_parts : {X : Type 0} (P : X → Type 0) (xs ys : List X) → AllByRecursion P (xs ++ ys) → AllByRecursion P xs × AllByRecursion P ys
all_parts P [] ys all = (tt, all)
all_parts P (x ∷ xs) ys all = let rest = all_parts P xs ys all.1 in ((all.0, rest.0), rest.1)

pub entries_parts : (entries others : List Binding) → AllByRecursion FitsTree (entries ++ others) → AllByRecursion FitsTree entries × AllByRecursion FitsTree others
entries_parts = all_parts FitsTree

pub links_parts : (links others : List Link) → AreWithin (links ++ others) → AreWithin links × AreWithin others
links_parts links others within =
    let keys = all_parts (λ (link : Link). length link.greatest ≤ 8203) links others within.greatest in
    let sum = sum_by-append (λ (link : Link). link.number) links others in
    (record { greatest = keys.0; few = omega (arith, within.few) }, record { greatest = keys.1; few = omega (arith, within.few) })

-- an item that knows its mark tells it
pub mark_law : (item : LeafItem) → KnowsItsMark item → mark_told item ≡ is_marked_entry (entry_of item)
mark_law item knows = by item.known_unmarked knows
  where
    by : (b : Bool) → (b ≡ true → is_marked_entry (entry_of item) ≡ false) → cond b false (is_marked_entry (entry_of item)) ≡ is_marked_entry (entry_of item)
    by true it = sym (it refl)
    by false it = refl
