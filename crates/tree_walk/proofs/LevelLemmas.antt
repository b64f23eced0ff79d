-- The nodes of the levels of a tree that meet a range, and its top.
use Rattle.std.proofs.Common.{◌≡◌, ℕ, zero, suc, ◌+◌, ◌-◌, ◌<◌, ◌≤◌, List, [], ◌∷◌, length, get_or, map, None, ◌↔◌, inl, refl, sym, ap, subst, ◌∙◌, arith}
use Rattle.std.specs.List.{flat_map}
use Rattle.std.proofs.lemmas.List.{append-nil}
use Rattle.std.proofs.lemmas.List.Elements.{All-from_recursion}
use Rattle.tree_node.specs.Nodes.{AreRisingFrom, Binding, IsNode, IsTree, Leaf, Link, Node, greatests_of, keys_of, level_of, spelling, tree_of}
use Rattle.tree_node.specs.Trees.{HasTree, Shape, Stands, ends_by, entries_in, is_marked_entry, is_marked_link, leaves, level_at, levels, link_to, links_in, no_node, node_in, pieces, top_of}
use Rattle.tree_node.proofs.shared.PieceLaws.{pieces_sized}
use Rattle.tree_node.proofs.shared.PieceLemmas.{join, pieces_join, some_pieces}
use Rattle.tree_node.proofs.shared.TreeLemmas.{tree_levels}
use Rattle.tree_node.proofs.shared.TreeLaws.{above, entries_some, last_has_one, leaves_joined, links_at, nodes_at, over_joined, pair_at, whole, whole_few}
use Rattle.tree_node.proofs.shared.TreeParts.{kind_at}
use Rattle.tree_walk.specs.Ranges.{Range}
use Rattle.tree_walk.specs.Walks.{MeetsAt}
use Rattle.tree_walk.proofs.BoundLemmas.{StartEachAbove, inner_start, leaves_start}

-- ---- what each level is made of

-- the leaves are made of these pieces, where there are two levels
leaf_cut : (shape : Shape) (tree : ℕ) (entries : List Binding) → 1 ≤ length entries → level_at (whole shape tree entries) 0 ≡ map (Leaf tree) (pieces (ends_by shape is_marked_entry) entries)
leaf_cut shape tree entries some = ap (map (Leaf tree)) (some_pieces (ends_by shape is_marked_entry) entries some)

-- the keys of the entries rise over all leaves
leaf_rising : (shape : Shape) (entries : List Binding) → HasTree entries → AreRisingFrom None (keys_of (join (pieces (ends_by shape is_marked_entry) entries)))
leaf_rising shape entries has = subst (λ (es : List Binding). AreRisingFrom None (keys_of es)) (sym (pieces_join (ends_by shape is_marked_entry) [] entries)) has.rising

-- the greatest keys of the nodes of a level rise over all nodes of the level above it
pub inner_rising : (shape : Shape) (tree : ℕ) (entries : List Binding) (level : ℕ) → HasTree entries → suc level < length (whole shape tree entries)
    → AreRisingFrom None (greatests_of (join (pieces (ends_by shape is_marked_link) (map link_to (level_at (whole shape tree entries) level)))))
inner_rising shape tree entries level has lt =
    subst (λ (ls : List Link). AreRisingFrom None (greatests_of ls)) (sym (pieces_join (ends_by shape is_marked_link) [] (map link_to (level_at (whole shape tree entries) level))))
    (links_at shape tree entries has (entries_some shape tree entries level lt) level (omega arith)).rising

-- the keys of each node of a level start above the greatest key of the node before it
pub start_at : (shape : Shape) (tree : ℕ) (entries : List Binding) (level : ℕ) → HasTree entries → suc level < length (whole shape tree entries) → StartEachAbove None (level_at (whole shape tree entries) level)
start_at shape tree entries zero has lt =
    subst (λ (ns : List Node). StartEachAbove None ns) (sym (leaf_cut shape tree entries (entries_some shape tree entries 0 lt)))
    (leaves_start tree None (pieces (ends_by shape is_marked_entry) entries) (pieces_sized shape is_marked_entry entries) (leaf_rising shape entries has))
start_at shape tree entries (suc level) has lt =
    let below : suc level < length (whole shape tree entries) = omega arith in
    let links = map link_to (level_at (whole shape tree entries) level) in
    subst (λ (ns : List Node). StartEachAbove None ns) (sym (pair_at shape tree entries level below).1)
    (inner_start tree (suc level) None (pieces (ends_by shape is_marked_link) links) (pieces_sized shape is_marked_link links) (inner_rising shape tree entries level has below))

-- ---- the top

-- a level has one node at the top
top_one : (shape : Shape) (tree : ℕ) (entries : List Binding) → length (level_at (whole shape tree entries) (length (whole shape tree entries) - 1)) ≡ 1
top_one shape tree entries = last_has_one shape tree 1 (leaves shape tree entries) (above shape tree entries) (tree_levels shape tree entries)

-- a list of one
one_is : (nodes : List Node) → length nodes ≡ 1 → nodes ≡ get_or nodes 0 no_node ∷ []
one_is [] e = absurd (omega arith)
one_is (n ∷ []) e = refl
one_is (n ∷ m ∷ ns) e = absurd (omega arith)

-- There is a level, and there are at most 30.
pub few_levels_here : (shape : Shape) (tree : ℕ) (entries : List Binding) → HasTree entries → (1 ≤ length (levels shape tree entries)) × (length (levels shape tree entries) ≤ 30)
unfolding levels
few_levels_here shape tree entries has = ((omega arith), whole_few shape tree entries has)

-- The top is a node of the tree's number and of the last level's.
pub top_is : (shape : Shape) (tree : ℕ) (entries : List Binding) → IsTree tree → HasTree entries
    → IsNode (node_in (levels shape tree entries) (length (levels shape tree entries) - 1) 0)
    × (tree_of (node_in (levels shape tree entries) (length (levels shape tree entries) - 1) 0) ≡ tree)
    × (level_of (node_in (levels shape tree entries) (length (levels shape tree entries) - 1) 0) ≡ length (levels shape tree entries) - 1)
unfolding levels
top_is shape tree entries is has =
    let T = whole shape tree entries in
    let last = length T - 1 in
    let lt : last < length T = omega arith in
    let one = top_one shape tree entries in
    let some : 0 < length (level_at T last) = omega (arith, one) in
    let kind = All-from_recursion (λ (n : Node). (level_of n ≡ last) × (tree_of n ≡ tree)) (level_at T last) (kind_at shape tree entries last lt) 0 no_node some in
    (All-from_recursion IsNode (level_at T last) (nodes_at shape tree entries has is last lt) 0 no_node some, kind.1, kind.0)

-- The top is the one node of its level that meets a range, which it does by definition.
pub top_met : (shape : Shape) (tree : ℕ) (entries : List Binding) (range : Range) (bytes : List ℕ)
    → (bytes ≡ top_of (levels shape tree entries))
    ↔ ((place : ℕ) × Stands (levels shape tree entries) (length (levels shape tree entries) - 1) place bytes × MeetsAt range (levels shape tree entries) (length (levels shape tree entries) - 1) place)
unfolding levels
top_met shape tree entries range bytes =
    let T = whole shape tree entries in
    let last = length T - 1 in
    let lt : last < length T = omega arith in
    let one = top_one shape tree entries in
    let some : 0 < length (level_at T last) = omega (arith, one) in
    let same : last + 1 ≡ length T = omega arith in (
      (λ is. (0, (lt, some, is), inl same)),
      (λ at.
          let first : at.0 ≡ 0 = omega (arith, at.1.1, one) in
          at.1.2 ∙ ap (λ place. spelling (node_in T last place)) first),
    )

-- The items of a top over other levels stand for all nodes of the level below it.
pub top_children : (shape : Shape) (tree : ℕ) (entries : List Binding) (level : ℕ) → length (levels shape tree entries) ≡ suc (suc level)
    → links_in (node_in (levels shape tree entries) (suc level) 0) ≡ map link_to (level_at (levels shape tree entries) level)
unfolding levels
top_children shape tree entries level many =
    let T = whole shape tree entries in
    let lt : suc level < length T = omega (arith, many) in
    let here : length T - 1 ≡ suc level = omega (arith, many) in
    let one : length (level_at T (suc level)) ≡ 1 = ap (λ n. length (level_at T n)) (sym here) ∙ top_one shape tree entries in
    sym (append-nil (links_in (node_in T (suc level) 0)))
    ∙ sym (ap (flat_map links_in) (one_is (level_at T (suc level)) one))
    ∙ ap (flat_map links_in) (pair_at shape tree entries level lt).1
    ∙ over_joined shape tree (suc level) (level_at T level)

-- The entries of a top that is a leaf are the list.
pub top_entries : (shape : Shape) (tree : ℕ) (entries : List Binding) → length (levels shape tree entries) ≡ 1 → entries_in (node_in (levels shape tree entries) 0 0) ≡ entries
unfolding levels
top_entries shape tree entries one_level =
    let T = whole shape tree entries in
    let here : length T - 1 ≡ 0 = omega (arith, one_level) in
    let one : length (level_at T 0) ≡ 1 = ap (λ n. length (level_at T n)) (sym here) ∙ top_one shape tree entries in
    sym (append-nil (entries_in (node_in T 0 0)))
    ∙ sym (ap (flat_map entries_in) (one_is (level_at T 0) one))
    ∙ leaves_joined shape tree entries
