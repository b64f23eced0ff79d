-- What is below the nodes of the tree of a list.
use Rattle.std.proofs.Common.{◌≡◌, ◌≢◌, ◌∙◌, ℕ, zero, suc, ◌-◌, ◌<◌, ◌≤◌, List, [], ◌∷◌, ◌++◌, length, map, get_or, refl, sym, ap, subst, arith, append-nil, append_assoc}
use Rattle.std.specs.List.{AllByRecursion, flat_map}
use Rattle.std.proofs.lemmas.List.{length-map}
use Rattle.tree_node.specs.Nodes.{Binding, Inner, IsNode, IsTree, Leaf, Link, Node, level_of, spelling, tree_of}
use Rattle.tree_node.specs.Trees.{HasTree, IsNodeOf, Shape, entries_in, item_count, leaves, level_at, levels, levels_over, link_to, links_in, no_node, node_in, top_of}
use Rattle.tree_node.proofs.shared.TreeLaws.{last_has_one, leaves_joined, nodes_at, over_joined, pair_at, whole, whole_few}
use Rattle.tree_node.proofs.shared.TreeLemmas.{tree_is, tree_levels}
use Rattle.tree_node.proofs.shared.TreeParts.{HasItems, items_at, kind_at}
use Rattle.pack_compact.specs.internal.Trees.{BelowEach, IsOver}

-- ---- lists

-- a list of images that is cut in two
map_cut : {A B : Type 0} (f : A → B) (xs ys : List B) (zs : List A) → xs ++ ys ≡ map f zs → (front : List A) × (back : List A) × (zs ≡ front ++ back) × (xs ≡ map f front) × (ys ≡ map f back)
map_cut f [] ys zs e = ([], zs, refl, refl, e)
map_cut f (x ∷ xs) ys [] e = absurd (cc)
map_cut f (x ∷ xs) ys (z ∷ zs) e =
    let head : x ≡ f z = cc in
    let tail : xs ++ ys ≡ map f zs = cc in
    let (front, back, is, first, rest) = map_cut f xs ys zs tail in
    (z ∷ front, back, ap (λ (l : List _). z ∷ l) is, cc, rest)

no_front : {A : Type 0} (xs ys : List A) → xs ++ ys ≡ [] → xs ≡ []
no_front [] ys e = refl
no_front (x ∷ xs) ys e = absurd (cc)

each_cut : (Has : Node → List Binding → Type 0) (front back : List Node) (entries : List Binding) → BelowEach Has (front ++ back) entries
    → (first : List Binding) × (others : List Binding) × (entries ≡ first ++ others) × BelowEach Has front first × BelowEach Has back others
each_cut Has [] back entries each = ([], entries, refl, refl, each)
each_cut Has (node ∷ front) back entries (first, others, is, some, has, rest) =
    let (more, left, are, mine, theirs) = each_cut Has front back others rest in (
      first ++ more,
      left,
      is ∙ ap (λ (l : List Binding). first ++ l) are ∙ sym (append_assoc first more left),
      (first, more, refl, some, has, mine),
      theirs,
    )

each_some : (Has : Node → List Binding → Type 0) (nodes : List Node) (entries : List Binding) → 1 ≤ length nodes → BelowEach Has nodes entries → entries ≢ []
each_some Has [] entries some each = absurd (omega arith)
each_some Has (node ∷ nodes) entries some (first, others, is, is_some, has, rest) = λ none. is_some (no_front first others (sym is ∙ none))

-- ---- levels

module _ (own : List ℕ → Type 0) where
  -- a node of a tree with entries
  record IsOwn (level : ℕ) (node : Node) : Type 0 where
    is_node : IsNode node
    owned : own (spelling node)
    kind : level_of node ≡ level
    some : 1 ≤ item_count node

  -- it is over what its items stand for
  over_one : (level : ℕ) (node : Node) → IsOwn (suc level) node → (children : List Node) (entries : List Binding) → links_in node ≡ map link_to children
      → BelowEach (IsOver own level) children entries → (entries ≢ []) × IsOver own (suc level) node entries
  unfolding IsOver
  over_one level (Leaf tree held) is children entries are each = absurd (let kind : 0 ≡ suc level = is.kind in omega (arith, kind))
  over_one level (Inner tree deep links) is children entries are each = (
    each_some (IsOver own level) children entries (omega (arith, is.some, ap (length {A = Link}) are, length-map children link_to)) each,
    record {
      is_node = is.is_node;
      owned = is.owned;
      tree = tree;
      level = deep;
      children = children;
      is = ap (Inner tree deep) are;
      each = each;
    },
  )

  over_all : (level : ℕ) (nodes : List Node) → AllByRecursion (IsOwn (suc level)) nodes → (children : List Node) (entries : List Binding) → flat_map links_in nodes ≡ map link_to children
      → BelowEach (IsOver own level) children entries → BelowEach (IsOver own (suc level)) nodes entries
  over_all level [] all [] entries are each = each
  over_all level [] all (child ∷ children) entries are each = absurd (cc)
  over_all level (node ∷ nodes) all children entries are each =
      let (front, back, is, mine, theirs) = map_cut link_to (links_in node) (flat_map links_in nodes) children are in
      let (first, others, same, here, there) = each_cut (IsOver own level) front back entries (subst (λ (ns : List Node). BelowEach (IsOver own level) ns entries) is each) in
      let one = over_one level node all.0 front first mine here in
      (first, others, same, one.0, one.1, over_all level nodes all.1 back others theirs there)

  leaf_one : (node : Node) → IsOwn 0 node → (entries_in node ≢ []) × IsOver own 0 node (entries_in node)
  unfolding IsOver
  leaf_one (Leaf tree held) is = (
    λ none. let some : 1 ≤ length held = is.some in let few : length held ≡ 0 = ap (length {A = Binding}) none in omega (arith, some, few),
    record { is_node = is.is_node; owned = is.owned; tree = tree; is = refl },
  )
  leaf_one (Inner tree deep links) is = absurd (let kind : deep ≡ 0 = is.kind in omega (arith, is.is_node.1, kind))

  leaf_all : (nodes : List Node) → AllByRecursion (IsOwn 0) nodes → BelowEach (IsOver own 0) nodes (flat_map entries_in nodes)
  leaf_all [] all = refl
  leaf_all (node ∷ nodes) all =
      let one = leaf_one node all.0 in
      (entries_in node, flat_map entries_in nodes, refl, one.0, one.1, leaf_all nodes all.1)

  -- ---- a tree

  all_own : (level : ℕ) (nodes : List Node) → AllByRecursion IsNode nodes → AllByRecursion (λ (n : Node). own (spelling n)) nodes → AllByRecursion (λ (n : Node). level_of n ≡ level) nodes
      → AllByRecursion HasItems nodes → AllByRecursion (IsOwn level) nodes
  all_own level [] are owned kinds some = tt
  all_own level (node ∷ nodes) are owned kinds some =
      (record { is_node = are.0; owned = owned.0; kind = kinds.0; some = some.0.0 }, all_own level nodes are.1 owned.1 kinds.1 some.1)

  -- those at the places of a list
  all_at : (nodes : List Node) → ((place : ℕ) → place < length nodes → own (spelling (get_or nodes place no_node))) → AllByRecursion (λ (n : Node). own (spelling n)) nodes
  all_at [] each = tt
  all_at (node ∷ nodes) each = (each 0 (omega arith), all_at nodes (λ place lt. each (suc place) (omega arith)))

  kinds_of : (tree level : ℕ) (nodes : List Node) → AllByRecursion (λ (n : Node). (level_of n ≡ level) × (tree_of n ≡ tree)) nodes → AllByRecursion (λ (n : Node). level_of n ≡ level) nodes
  kinds_of tree level [] all = tt
  kinds_of tree level (node ∷ nodes) all = (all.0.0, kinds_of tree level nodes all.1)

  module _ (shape : Shape) (tree : ℕ) (entries : List Binding) (is_tree : IsTree tree) (has : HasTree entries) (owned : (bytes : List ℕ) → IsNodeOf (whole shape tree entries) bytes → own bytes) where
    own_at : 1 ≤ length entries → (level : ℕ) → level < length (whole shape tree entries) → AllByRecursion (IsOwn level) (level_at (whole shape tree entries) level)
    own_at some level lt =
        all_own level (level_at (whole shape tree entries) level) (nodes_at shape tree entries has is_tree level lt)
        (all_at (level_at (whole shape tree entries) level) (λ place lp. owned (spelling (node_in (whole shape tree entries) level place)) (level, place, (lt, lp, refl))))
        (kinds_of tree level (level_at (whole shape tree entries) level) (kind_at shape tree entries level lt))
        (items_at shape tree entries some level lt)

    each_at : 1 ≤ length entries → (level : ℕ) → level < length (whole shape tree entries) → BelowEach (IsOver own level) (level_at (whole shape tree entries) level) entries
    each_at some zero lt =
        subst (λ (es : List Binding). BelowEach (IsOver own 0) (leaves shape tree entries) es) (leaves_joined shape tree entries)
        (leaf_all (leaves shape tree entries) (own_at some 0 lt))
    each_at some (suc level) lt =
        over_all level (level_at (whole shape tree entries) (suc level)) (own_at some (suc level) lt) (level_at (whole shape tree entries) level) entries
        (ap (flat_map links_in) (pair_at shape tree entries level lt).1 ∙ over_joined shape tree (suc level) (level_at (whole shape tree entries) level))
        (each_at some level (omega arith))

-- Over the entries there is one node, the top. It is of a low level, and of the lowest where there is none.
pub record HasTop (own : List ℕ → Type 0) (top : List ℕ) (entries : List Binding) : Type 0 where
  pub level : ℕ
  pub low : level ≤ 63
  pub node : Node
  pub is : top ≡ spelling node
  pub over : IsOver own level node entries

-- of a list of one
only_one : (own : List ℕ → Type 0) (level : ℕ) (nodes : List Node) (entries : List Binding) → length nodes ≡ 1 → BelowEach (IsOver own level) nodes entries → IsOver own level (get_or nodes 0 no_node) entries
only_one own level [] entries one each = absurd (omega (arith, one))
only_one own level (node ∷ []) entries one (first, others, is, some, has, rest) =
    let same : first ≡ entries = sym (is ∙ ap (λ (l : List Binding). first ++ l) rest ∙ append-nil first) in
    subst (IsOver own level node) same has
only_one own level (node ∷ next ∷ nodes) entries one each = absurd (omega (arith, one))

top_of_some : (own : List ℕ → Type 0) (shape : Shape) (tree : ℕ) (entries : List Binding) → IsTree tree → HasTree entries → ((bytes : List ℕ) → IsNodeOf (whole shape tree entries) bytes → own bytes)
    → 1 ≤ length entries → HasTop own (top_of (whole shape tree entries)) entries
top_of_some own shape tree entries is_tree has owned some =
    let last = length (whole shape tree entries) - 1 in
    let few = whole_few shape tree entries has in
    let one = last_has_one shape tree 1 (leaves shape tree entries) _ (tree_levels shape tree entries) in
    record {
      level = last;
      low = omega (arith, few);
      node = node_in (whole shape tree entries) last 0;
      is = refl;
      over = only_one own last (level_at (whole shape tree entries) last) entries one (each_at own shape tree entries is_tree has owned some last (omega arith));
    }

top_of_none : (own : List ℕ → Type 0) (shape : Shape) (tree : ℕ) → IsTree tree → ((bytes : List ℕ) → IsNodeOf (whole shape tree []) bytes → own bytes) → HasTop own (top_of (whole shape tree [])) []
unfolding IsOver levels_over
top_of_none own shape tree is_tree owned = record {
  level = 0;
  low = omega arith;
  node = Leaf tree [];
  is = refl;
  over = record { is_node = (is_tree, omega arith, tt, tt); owned = owned (spelling (Leaf tree [])) (0, 0, (omega arith, omega arith, refl)); tree = tree; is = refl };
}

top_of_any : (own : List ℕ → Type 0) (shape : Shape) (tree : ℕ) (entries : List Binding) → IsTree tree → HasTree entries → ((bytes : List ℕ) → IsNodeOf (whole shape tree entries) bytes → own bytes)
    → HasTop own (top_of (whole shape tree entries)) entries
top_of_any own shape tree [] is_tree has owned = top_of_none own shape tree is_tree owned
top_of_any own shape tree (e ∷ es) is_tree has owned = top_of_some own shape tree (e ∷ es) is_tree has owned (omega arith)

pub has_top : (own : List ℕ → Type 0) (shape : Shape) (tree : ℕ) (entries : List Binding) → IsTree tree → HasTree entries → ((bytes : List ℕ) → IsNodeOf (levels shape tree entries) bytes → own bytes)
    → HasTop own (top_of (levels shape tree entries)) entries
has_top own shape tree entries is_tree has owned =
    let same = tree_is shape tree entries in
    subst (λ (t : List (List Node)). HasTop own (top_of t) entries) (sym same)
    (top_of_any own shape tree entries is_tree has (λ bytes is. owned bytes (subst (λ (t : List (List Node)). IsNodeOf t bytes) (sym same) is)))
