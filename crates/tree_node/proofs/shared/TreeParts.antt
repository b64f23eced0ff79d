-- The entries below the nodes of a tree, and how many items a node has.
use Rattle.std.proofs.Common.{◌≡◌, ℕ, zero, suc, ◌<◌, ◌≤◌, List, [], ◌∷◌, ◌++◌, length, get_or, map, take, drop, sum_by, refl, sym, ap, subst, ◌∙◌, arith, length-append}
use Rattle.std.specs.Prelude.{sum}
use Rattle.std.specs.List.{flat_map, AllByRecursion}
use Rattle.std.proofs.lemmas.List.{drop-map, drop_at, get_or-map, length-drop, length-map, map-append, take-append-drop, take-map, take_at}
use Rattle.std.proofs.lemmas.List.Concat.{length-flat_map}
use Rattle.std.proofs.lemmas.List.Folds.{flat_map-map}
use Rattle.std.proofs.lemmas.List.Sums.{sum-map}
use Rattle.std.proofs.lemmas.Grind.{flat_map-append}
use Rattle.tree_node.specs.Nodes.{Binding, Link, Node, Leaf, Inner, level_of, tree_of}
use Rattle.tree_node.specs.Trees.{Shape, pieces, one_at_least, ends_by, is_marked_entry, is_marked_link, entry_count, link_to, leaves, level_at, node_in, no_node, links_in, entries_in, item_count, below_each, entries_at, entries_below}
use Rattle.tree_node.proofs.shared.PieceLemmas.{join, pieces_join, some_pieces}
use Rattle.tree_node.proofs.shared.PieceLaws.{IsSized, pieces_sized}
use Rattle.tree_node.proofs.shared.TreeLaws.{leaves_joined, over_joined, pair_at, entries_some, whole}

-- ---- how many entries stand below each node

-- the numbers that links state
abbrev pub number_in : Link → ℕ
number_in link = link.number

-- the number of entries below a node is that of the entries below its children, together
below_lengths : (tree level : ℕ) (ps : List (List Link)) (parts : List (List Binding)) → map (length {A = Binding}) parts ≡ map number_in (join ps)
    → map (length {A = Binding}) (below_each (map (Inner tree level) ps) parts) ≡ map entry_count (map (Inner tree level) ps)
below_lengths tree level [] parts e = refl
below_lengths tree level (p ∷ ps) parts e =
    let whole : map (length {A = Binding}) parts ≡ map number_in p ++ map number_in (join ps) = e ∙ map-append number_in p (join ps) in
    let size : length (map number_in p) ≡ length p = length-map p number_in in
    let front : map (length {A = Binding}) (take (length p) parts) ≡ map number_in p =
    sym (take-map (length {A = Binding}) (length p) parts) ∙ ap (λ (ns : List ℕ). take (length p) ns) whole ∙ take_at (map number_in p) (map number_in (join ps)) (length p) size in
    let back : map (length {A = Binding}) (drop (length p) parts) ≡ map number_in (join ps) =
    sym (drop-map (length {A = Binding}) (length p) parts) ∙ ap (λ (ns : List ℕ). drop (length p) ns) whole ∙ drop_at (map number_in p) (map number_in (join ps)) (length p) size in
    let first : length (join (take (length p) parts)) ≡ sum_by number_in p =
    length-flat_map (λ (part : List Binding). part) (take (length p) parts) ∙ sym (sum-map (length {A = Binding}) (take (length p) parts)) ∙ ap sum front ∙ sum-map number_in p in
    ap (λ n. n ∷ map (length {A = Binding}) (below_each (map (Inner tree level) ps) (drop (length p) parts))) first
    ∙ ap (λ (ns : List ℕ). sum_by number_in p ∷ ns) (below_lengths tree level ps (drop (length p) parts) back)

-- and they are those entries
below_joined : (tree level : ℕ) (ps : List (List Link)) (parts : List (List Binding)) → length parts ≡ length (join ps) → join (below_each (map (Inner tree level) ps) parts) ≡ join parts
below_joined tree level [] [] e = refl
below_joined tree level [] (part ∷ parts) e = absurd (omega arith)
below_joined tree level (p ∷ ps) parts e =
    let rest : length (drop (length p) parts) ≡ length (join ps) = omega (arith, length-drop (length p) parts, length-append p (join ps)) in
    ap (λ (es : List Binding). join (take (length p) parts) ++ es) (below_joined tree level ps (drop (length p) parts) rest)
    ∙ sym (flat_map-append (λ (part : List Binding). part) (take (length p) parts) (drop (length p) parts))
    ∙ ap join (take-append-drop (length p) parts)

leaf_lengths : (tree : ℕ) (ps : List (List Binding)) → map (length {A = Binding}) (map entries_in (map (Leaf tree) ps)) ≡ map entry_count (map (Leaf tree) ps)
leaf_lengths tree [] = refl
leaf_lengths tree (p ∷ ps) = ap (λ (ns : List ℕ). length p ∷ ns) (leaf_lengths tree ps)

pub numbers_linked : (nodes : List Node) → map entry_count nodes ≡ map number_in (map link_to nodes)
numbers_linked [] = refl
numbers_linked (n ∷ ns) = ap (λ (ks : List ℕ). entry_count n ∷ ks) (numbers_linked ns)

module _ (shape : Shape) (tree : ℕ) (entries : List Binding) where
  abbrev ls : List (List Node)
  ls = whole shape tree entries

  -- the pieces that a level is made of
  abbrev cut_at : ℕ → List (List Link)
  cut_at level = pieces (ends_by shape is_marked_link) (map link_to (level_at ls level))

  -- each node states as many entries as stand below it
  pub counts_at : (level : ℕ) → level < length ls → map (length {A = Binding}) (entries_at ls level) ≡ map entry_count (level_at ls level)
  unfolding entries_at
  counts_at zero lt = leaf_lengths tree (one_at_least (pieces (ends_by shape is_marked_entry) entries))
  counts_at (suc level) lt =
      let over = (pair_at shape tree entries level lt).1 in
      let below = counts_at level (omega arith) ∙ numbers_linked (level_at ls level) ∙ ap (map number_in) (sym (pieces_join (ends_by shape is_marked_link) [] (map link_to (level_at ls level)))) in
      ap (λ (ns : List Node). map (length {A = Binding}) (below_each ns (entries_at ls level))) over
      ∙ below_lengths tree (suc level) (cut_at level) (entries_at ls level) below
      ∙ ap (map entry_count) (sym over)

  -- as many lists of entries as nodes
  pub parts_at : (level : ℕ) → level < length ls → length (entries_at ls level) ≡ length (level_at ls level)
  parts_at level lt = sym (length-map (entries_at ls level) (length {A = Binding})) ∙ ap (length {A = ℕ}) (counts_at level lt) ∙ length-map (level_at ls level) entry_count

  -- the entries below the nodes of a level, one after the other, are the list
  pub joined_at : (level : ℕ) → level < length ls → join (entries_at ls level) ≡ entries
  unfolding entries_at
  joined_at zero lt = flat_map-map (λ (part : List Binding). part) entries_in (leaves shape tree entries) ∙ leaves_joined shape tree entries
  joined_at (suc level) lt =
      let over = (pair_at shape tree entries level lt).1 in
      let same : length (entries_at ls level) ≡ length (join (cut_at level)) =
      parts_at level (omega arith) ∙ sym (length-map (level_at ls level) link_to) ∙ ap (length {A = Link}) (sym (pieces_join (ends_by shape is_marked_link) [] (map link_to (level_at ls level)))) in
      ap (λ (ns : List Node). join (below_each ns (entries_at ls level))) over
      ∙ below_joined tree (suc level) (cut_at level) (entries_at ls level) same
      ∙ joined_at level (omega arith)

  pub count_below : (level place : ℕ) → level < length ls → place < length (level_at ls level) → entry_count (node_in ls level place) ≡ length (entries_below ls level place)
  count_below level place lt lp =
      sym (get_or-map entry_count (level_at ls level) place no_node 0 lp)
      ∙ ap (λ (ns : List ℕ). get_or ns place 0) (sym (counts_at level lt))
      ∙ get_or-map (length {A = Binding}) (entries_at ls level) place [] 0 (omega (arith, parts_at level lt))

-- ---- what kind of nodes a level has

inner_kind : (tree level : ℕ) (ps : List (List Link)) → AllByRecursion (λ (n : Node). (level_of n ≡ level) × (tree_of n ≡ tree)) (map (Inner tree level) ps)
inner_kind tree level [] = tt
inner_kind tree level (p ∷ ps) = ((refl, refl), inner_kind tree level ps)

leaf_kind : (tree : ℕ) (ps : List (List Binding)) → AllByRecursion (λ (n : Node). (level_of n ≡ 0) × (tree_of n ≡ tree)) (map (Leaf tree) ps)
leaf_kind tree [] = tt
leaf_kind tree (p ∷ ps) = ((refl, refl), leaf_kind tree ps)

-- the nodes of a level have its number, and that of the tree
pub kind_at : (shape : Shape) (tree : ℕ) (entries : List Binding) (level : ℕ) → level < length (whole shape tree entries)
    → AllByRecursion (λ (n : Node). (level_of n ≡ level) × (tree_of n ≡ tree)) (level_at (whole shape tree entries) level)
kind_at shape tree entries zero lt = leaf_kind tree (one_at_least (pieces (ends_by shape is_marked_entry) entries))
kind_at shape tree entries (suc level) lt =
    subst (λ (ns : List Node). AllByRecursion (λ (n : Node). (level_of n ≡ suc level) × (tree_of n ≡ tree)) ns) (sym (pair_at shape tree entries level lt).1)
    (inner_kind tree (suc level) (pieces (ends_by shape is_marked_link) (map link_to (level_at (whole shape tree entries) level))))

-- ---- how many items a node has

-- it has 1 to 64 items
abbrev pub HasItems : Node → Type 0
HasItems node = (1 ≤ item_count node) × (item_count node ≤ 64)

inner_items : (tree level : ℕ) (ps : List (List Link)) → AllByRecursion IsSized ps → AllByRecursion HasItems (map (Inner tree level) ps)
inner_items tree level [] sized = tt
inner_items tree level (p ∷ ps) sized = (sized.0, inner_items tree level ps sized.1)

leaf_items : (tree : ℕ) (ps : List (List Binding)) → AllByRecursion IsSized ps → AllByRecursion HasItems (map (Leaf tree) ps)
leaf_items tree [] sized = tt
leaf_items tree (p ∷ ps) sized = (sized.0, leaf_items tree ps sized.1)

-- where there are entries, each node has items
pub items_at : (shape : Shape) (tree : ℕ) (entries : List Binding) → 1 ≤ length entries → (level : ℕ) → level < length (whole shape tree entries) → AllByRecursion HasItems (level_at (whole shape tree entries) level)
items_at shape tree entries some zero lt =
    subst (λ (ps : List (List Binding)). AllByRecursion HasItems (map (Leaf tree) ps)) (sym (some_pieces (ends_by shape is_marked_entry) entries some))
    (leaf_items tree (pieces (ends_by shape is_marked_entry) entries) (pieces_sized shape is_marked_entry entries))
items_at shape tree entries some (suc level) lt =
    subst (λ (ns : List Node). AllByRecursion HasItems ns) (sym (pair_at shape tree entries level lt).1)
    (inner_items tree (suc level) (pieces (ends_by shape is_marked_link) (map link_to (level_at (whole shape tree entries) level))) (pieces_sized shape is_marked_link (map link_to (level_at (whole shape tree entries) level))))

-- no node has more items
pub items_most : (shape : Shape) (tree : ℕ) (entries : List Binding) (level : ℕ) → level < length (whole shape tree entries) → AllByRecursion (λ (n : Node). item_count n ≤ 64) (level_at (whole shape tree entries) level)
items_most shape tree [] zero lt = (omega arith, tt)
items_most shape tree [] (suc level) lt = absurd (omega (arith, entries_some shape tree [] level lt))
items_most shape tree (e ∷ es) level lt = fewer (level_at (whole shape tree (e ∷ es)) level) (items_at shape tree (e ∷ es) (omega arith) level lt)
  where
    fewer : (ns : List Node) → AllByRecursion HasItems ns → AllByRecursion (λ (n : Node). item_count n ≤ 64) ns
    fewer [] all = tt
    fewer (n ∷ ns) all = (all.0.1, fewer ns all.1)

-- the items of a level state how many entries stand below the nodes under it
pub stated_at : (shape : Shape) (tree : ℕ) (entries : List Binding) (level : ℕ) → suc level < length (whole shape tree entries)
    → map number_in (flat_map links_in (level_at (whole shape tree entries) (suc level))) ≡ map (length {A = Binding}) (entries_at (whole shape tree entries) level)
stated_at shape tree entries level lt =
    let nodes = level_at (whole shape tree entries) level in
    ap (map number_in) (ap (flat_map links_in) (pair_at shape tree entries level lt).1 ∙ over_joined shape tree (suc level) nodes)
    ∙ sym (numbers_linked nodes)
    ∙ sym (counts_at shape tree entries level (omega arith))
