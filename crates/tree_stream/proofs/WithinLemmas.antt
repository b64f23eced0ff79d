-- What is within the limits.
use Rattle.std.proofs.Common.{◌≡◌, ℕ, ◌+◌, ◌<◌, ◌≤◌, List, [], ◌∷◌, ◌++◌, length, get_or, take, drop, map, All, refl, sym, ap, subst, ◌∙◌, arith}
use Rattle.std.specs.List.{AllByRecursion}
use Rattle.std.proofs.lemmas.List.{map-append, take_more, take-append-drop}
use Rattle.std.proofs.lemmas.List.Elements.{All-from_recursion}
use Rattle.std.proofs.lemmas.List.Sums.{sum_by-append}
use Rattle.tree_node.specs.NodeRefs.{binding_of, bindings_of, link_of, links_of}
use Rattle.tree_node.specs.declared.child.Child.{Child}
use Rattle.tree_node.specs.declared.item.Item.{Item}
use Rattle.tree_node.specs.Nodes.{Binding, FitsEntry, Link, Node, Leaf, Inner, greatests_of, keys_of}
use Rattle.tree_node.specs.Trees.{FitsTree, link_to}
use Rattle.tree_node.proofs.shared.PieceLemmas.{join, join_all}
use Rattle.tree_node.proofs.shared.TreeLemmas.{HasShort, IsShort, keys_short, last_short, numbers_leaves, numbers_of, numbers_over}
use Rattle.tree_build.specs.internal.Building.{AreWithin}

pub all_parts : {X : Type 0} (P : X → Type 0) (xs ys : List X) → AllByRecursion P (xs ++ ys) → AllByRecursion P xs × AllByRecursion P ys
all_parts P [] ys all = (tt, all)
all_parts P (x ∷ xs) ys all = let rest = all_parts P xs ys all.1 in ((all.0, rest.0), rest.1)

pub all_both : {X : Type 0} (P : X → Type 0) (xs ys : List X) → AllByRecursion P xs → AllByRecursion P ys → AllByRecursion P (xs ++ ys)
all_both P [] ys one two = two
all_both P (x ∷ xs) ys one two = (one.0, all_both P xs ys one.1 two)

-- items after others
pub within_after : (links others : List Link) → AreWithin (links ++ others) → AreWithin others
within_after links others within =
    let sum = sum_by-append (λ (link : Link). link.number) links others in
    record { greatest = (all_parts (λ (link : Link). length link.greatest ≤ 8203) links others within.greatest).1; few = omega (arith, within.few, sum) }

greatests_short : (links : List Link) → AllByRecursion HasShort links → AllByRecursion IsShort (greatests_of links)
greatests_short [] all = tt
greatests_short (l ∷ ls) all = (all.0, greatests_short ls all.1)

inner_short : (tree level : ℕ) (ps : List (List Link)) → AllByRecursion (AllByRecursion HasShort) ps → AllByRecursion HasShort (map link_to (map (Inner tree level) ps))
inner_short tree level [] all = tt
inner_short tree level (p ∷ ps) all = (last_short (greatests_of p) (greatests_short p all.0), inner_short tree level ps all.1)

-- the items that stand for the nodes of some pieces
pub within_over : (tree level : ℕ) (ps : List (List Link)) → AreWithin (join ps) → AreWithin (map link_to (map (Inner tree level) ps))
within_over tree level ps within = record {
  greatest = inner_short tree level ps (join_all HasShort ps within.greatest);
  few = omega (arith, within.few, numbers_over tree level ps);
}

leaves_short : (tree : ℕ) (ps : List (List Binding)) → AllByRecursion (AllByRecursion FitsTree) ps → AllByRecursion HasShort (map link_to (map (Leaf tree) ps))
leaves_short tree [] all = tt
leaves_short tree (p ∷ ps) all = (last_short (keys_of p) (keys_short p all.0), leaves_short tree ps all.1)

-- and for leaves
pub within_leaves : (tree : ℕ) (ps : List (List Binding)) → AllByRecursion FitsTree (join ps) → length (join ps) ≤ 536870912 → AreWithin (map link_to (map (Leaf tree) ps))
within_leaves tree ps fit few = record {
  greatest = leaves_short tree ps (join_all FitsTree ps fit);
  few = omega (arith, few, numbers_leaves tree ps);
}

-- ---- what each item of a list keeps

images : {X Y : Type 0} (P : Y → Type 0) (f : X → Y) (xs : List X) → AllByRecursion P (map f xs) → AllByRecursion (λ x. P (f x)) xs
images P f [] all = tt
images P f (x ∷ xs) all = (all.0, images P f xs all.1)

-- an entry of a tree is an entry of a leaf
pub entry_fits : (entries : List Item) → AllByRecursion FitsTree (bindings_of entries) → All (λ e. FitsEntry (binding_of e)) entries
entry_fits entries all k d lt =
    let fits = All-from_recursion (λ e. FitsTree (binding_of e)) entries (images FitsTree binding_of entries all) k d lt in
    let key = fits.key in
    let value = fits.value in
    record { key = omega (arith, key); value = omega (arith, value) }

-- the limit of each greatest key
pub greatest_fits : (children : List Child) → AreWithin (links_of children) → (k : ℕ) (d : Child) → k < length children → length (get_or children k d).greatest.now ≤ 8203
greatest_fits children within k d lt =
    All-from_recursion (λ (c : Child). length c.greatest.now ≤ 8203) children (images (λ (l : Link). length l.greatest ≤ 8203) link_of children within.greatest) k d lt

-- the sum of the numbers up to a child, and with it
sum_more : (children : List Child) (i : ℕ) (d : Child) → i < length children → numbers_of (links_of (take (i + 1) children)) ≡ numbers_of (links_of (take i children)) + (get_or children i d).number
sum_more children i d lt =
    ap (λ (cs : List Child). numbers_of (links_of cs)) (take_more children i d lt)
    ∙ ap numbers_of (map-append link_of (take i children) (get_or children i d ∷ []))
    ∙ sum_by-append (λ (l : Link). l.number) (links_of (take i children)) (link_of (get_or children i d) ∷ [])
    ∙ omega arith

sum_parts : (children : List Child) (i : ℕ) → numbers_of (links_of children) ≡ numbers_of (links_of (take i children)) + numbers_of (links_of (drop i children))
sum_parts children i =
    ap (λ (cs : List Child). numbers_of (links_of cs)) (sym (take-append-drop i children))
    ∙ ap numbers_of (map-append link_of (take i children) (drop i children))
    ∙ sum_by-append (λ (l : Link). l.number) (links_of (take i children)) (links_of (drop i children))

-- the sum with one more child is within the limit
pub sum_fits : (children : List Child) → AreWithin (links_of children) → (i : ℕ) (d : Child) → i < length children → numbers_of (links_of (take i children)) + (get_or children i d).number ≤ 536870912
sum_fits children within i d lt = omega (arith, sum_more children i d lt, sum_parts children (i + 1), within.few)
