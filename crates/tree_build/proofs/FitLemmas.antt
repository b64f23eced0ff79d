-- What each entry or link keeps, through loops over them.
use Rattle.std.proofs.Common.{◌≡◌, ℕ, suc, ◌+◌, ◌-◌, ◌<◌, ◌≤◌, List, [], ◌∷◌, length, get_or, take, drop, map, All, sym, ap, ◌∙◌, subst, ◌^◌, arith}
use Rattle.std.specs.List.{AllByRecursion}
use Rattle.std.proofs.lemmas.List.{map-append, take_more, take-append-drop}
use Rattle.std.proofs.lemmas.List.Elements.{All-from_recursion}
use Rattle.std.proofs.lemmas.List.Sums.{sum_by-append}
use Rattle.tree_node.specs.Nodes.{Link, FitsEntry}
use Rattle.tree_node.specs.NodeRefs.{binding_of, bindings_of, link_of, links_of}
use Rattle.tree_node.specs.Trees.{FitsTree, last_key}
use Rattle.tree_node.specs.declared.item.Item.{Item}
use Rattle.tree_node.specs.declared.child.Child.{Child}
use Rattle.tree_node.proofs.shared.TreeLemmas.{numbers_of}
use Rattle.tree_build.specs.internal.Building.{AreWithin}

-- what holds of each image, by recursion
pub images : {X Y : Type 0} (P : Y → Type 0) (f : X → Y) (xs : List X) → AllByRecursion P (map f xs) → AllByRecursion (λ x. P (f x)) xs
images P f [] all = tt
images P f (x ∷ xs) all = (all.0, images P f xs all.1)

-- what holds of each image holds of that of the element that was read
pub of_read : {X Y : Type 0} (P : Y → Type 0) (f : X → Y) (xs : List X) (i : ℕ) (x : X) → AllByRecursion P (map f xs) → i < length xs → x ≡ get_or xs i x → P (f x)
of_read {X} P f xs i x all lt is = subst (λ (y : X). P (f y)) (sym is) (All-from_recursion (λ y. P (f y)) xs (images P f xs all) i x lt)

-- the limits of each entry's key and value
pub key_fits : (entries : List Item) → AllByRecursion FitsTree (bindings_of entries) → (k : ℕ) (d : Item) → k < length entries → length (get_or entries k d).key.now ≤ 8203
key_fits entries all k d lt = (All-from_recursion (λ e. FitsTree (binding_of e)) entries (images FitsTree binding_of entries all) k d lt).key

pub value_fits : (entries : List Item) → AllByRecursion FitsTree (bindings_of entries) → (k : ℕ) (d : Item) → k < length entries → length (get_or entries k d).value.now ≤ 2 ^ 24
value_fits entries all k d lt = (All-from_recursion (λ e. FitsTree (binding_of e)) entries (images FitsTree binding_of entries all) k d lt).value

-- an entry of a tree is an entry of a leaf
pub entry_fits : (entries : List Item) → AllByRecursion FitsTree (bindings_of entries) → All (λ e. FitsEntry (binding_of e)) entries
entry_fits entries all k d lt = record {
  key = let fit = key_fits entries all k d lt in omega arith;
  value = let fit = value_fits entries all k d lt in omega arith;
}

-- the limit of each greatest key
pub greatest_fits : (children : List Child) → AreWithin (links_of children) → (k : ℕ) (d : Child) → k < length children → length (get_or children k d).greatest.now ≤ 8203
greatest_fits children within k d lt =
    All-from_recursion (λ (c : Child). length c.greatest.now ≤ 8203) children (images (λ (l : Link). length l.greatest ≤ 8203) link_of children within.greatest) k d lt

-- the sum of the numbers up to a child, and with it
pub sum_more : (children : List Child) (i : ℕ) (d : Child) → i < length children → numbers_of (links_of (take (i + 1) children)) ≡ numbers_of (links_of (take i children)) + (get_or children i d).number
sum_more children i d lt =
    ap (λ (cs : List Child). numbers_of (links_of cs)) (take_more children i d lt)
    ∙ ap numbers_of (map-append link_of (take i children) (get_or children i d ∷ []))
    ∙ sum_by-append (λ (l : Link). l.number) (links_of (take i children)) (link_of (get_or children i d) ∷ [])
    ∙ omega arith

-- a sum is that of a part in front and of the rest
sum_parts : (children : List Child) (i : ℕ) → numbers_of (links_of children) ≡ numbers_of (links_of (take i children)) + numbers_of (links_of (drop i children))
sum_parts children i =
    ap (λ (cs : List Child). numbers_of (links_of cs)) (sym (take-append-drop i children))
    ∙ ap numbers_of (map-append link_of (take i children) (drop i children))
    ∙ sum_by-append (λ (l : Link). l.number) (links_of (take i children)) (links_of (drop i children))

-- no part of a sum is above the whole
pub sum_part : (children : List Child) (i : ℕ) → numbers_of (links_of (take i children)) ≤ numbers_of (links_of children)
sum_part children i = omega (arith, sum_parts children i)

pub sum_rest : (children : List Child) (i : ℕ) → numbers_of (links_of (drop i children)) ≤ numbers_of (links_of children)
sum_rest children i = omega (arith, sum_parts children i)

-- the sum with one more child is within the limit
pub sum_fits : (children : List Child) → AreWithin (links_of children) → (i : ℕ) (d : Child) → i < length children → numbers_of (links_of (take i children)) + (get_or children i d).number ≤ 536870912
sum_fits children within i d lt = omega (arith, sum_more children i d lt, sum_part children (i + 1), within.few)

-- the last key, where the last element was read
pub last_is : {X Y : Type 0} (g : Y → List ℕ) (f : X → Y) (xs : List X) (x : X) → 0 < length xs → ((d : X) → x ≡ get_or xs (length xs - 1) d) → g (f x) ≡ last_key (map g (map f xs))
last_is g f [] x lt at = absurd (omega arith)
last_is g f (y ∷ []) x lt at = ap (λ z. g (f z)) (at y)
last_is {X} g f (y ∷ z ∷ zs) x lt at =
    let short : suc (suc (length zs)) - 1 ≡ suc (length zs) = omega arith in
    let shorter : suc (length zs) - 1 ≡ length zs = omega arith in
    last_is g f (z ∷ zs) x (omega arith) (λ d. at d ∙ ap (λ n. get_or (y ∷ z ∷ zs) n d) short ∙ ap (λ n. get_or (z ∷ zs) n d) (sym shorter))
