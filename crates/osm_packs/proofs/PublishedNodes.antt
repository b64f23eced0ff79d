-- The nodes of a publication, from the root down: what stands under the root are just these, each as it is referred to.
use Rattle.std.proofs.Common.{◌≡◌, ◌∙◌, ℕ, zero, suc, ◌+◌, ◌-◌, ◌<◌, ◌≤◌, List, [], ◌∷◌, Result, Ok, Err, length, map, get_or, refl, sym, ap, subst, inl, inr, arith}
use Rattle.std.specs.List.{AllByRecursion, Contains, flat_map}
use Rattle.std.proofs.lemmas.List.{get_or_default}
use Rattle.std.proofs.lemmas.List.Elements.{Contains-get_or}
use Rattle.osm_keys.specs.Manifests.{manifest}
use Rattle.osm_keys.specs.Publications.{IsNodeIn, IsPublication, Publication, manifest_of, root_of, shape_in, top_in, tree_in}
use Rattle.osm_keys.specs.declared.edition.Edition.{Edition}
use Rattle.osm_keys.proofs.shared.Members.{from_all, from_map, in_all, in_map}
use Rattle.osm_keys.proofs.shared.OneManifest.{same_tops, tops_wide}
use Rattle.osm_keys.proofs.shared.OnePublication.{lists_have_trees}
use Rattle.tree_node.specs.Digests.{digest}
use Rattle.tree_node.specs.NodeRefs.{number_of}
use Rattle.tree_node.specs.Nodes.{Inner, IsNode, IsTree, Leaf, Link, Node, Spells, level_of, spelling, tree_of}
use Rattle.tree_node.specs.Trees.{IsNodeOf, Shape, leaves, level_at, link_to, links_in, no_node, node_in, top_of}
use Rattle.tree_node.specs.Nodes.{Binding}
use Rattle.tree_node.specs.declared.tree.Tree.{Tree}
use Rattle.tree_node.specs.declared.tree.Tree.TheVariants.{Backs, Cells, Objects, Tags}
use Rattle.tree_node.proofs.shared.NodeLaws.{node_again}
use Rattle.tree_node.proofs.shared.TreeLaws.{has_at, last_has_one, nodes_at, over_joined, pair_at, whole}
use Rattle.tree_node.proofs.shared.TreeLemmas.{tree_is, tree_levels}
use Rattle.tree_node.proofs.shared.TreeParts.{kind_at}
use Rattle.node_pack.specs.Reached.{IsAsWanted, IsUnder, AtRoot, Referred, Refers}
use Rattle.node_pack.specs.declared.role.Role.TheVariants as roles
use Rattle.node_pack.specs.declared.role.Wanted.{Wanted}
use Rattle.node_pack.specs.declared.role.Wanted.TheVariants.{Below, Root, Top}

-- ---- levels

-- what is so of all is so of each
pub all_each : {X : Type 0} (P : X → Type 0) (xs : List X) → AllByRecursion P xs → (x : X) → Contains xs x → P x
all_each P [] all x has = absurd (omega (arith, has.1))
all_each P (y ∷ ys) all x (zero, lt, is) = subst P is all.0
all_each P (y ∷ ys) all x (suc i, lt, is) = all_each P ys all.1 x (i, omega arith, is)

module _ (shape : Shape) (tree : ℕ) (entries : List Binding) where
  joined_at : (level : ℕ) → suc level < length (whole shape tree entries)
      → flat_map links_in (level_at (whole shape tree entries) (suc level)) ≡ map link_to (level_at (whole shape tree entries) level)
  joined_at level lt = ap (flat_map links_in) (pair_at shape tree entries level lt).1 ∙ over_joined shape tree (suc level) (level_at (whole shape tree entries) level)

  -- an item of a node stands for a node one level below
  below_item : (level : ℕ) → suc level < length (whole shape tree entries) → (node : Node) → Contains (level_at (whole shape tree entries) (suc level)) node
      → (link : Link) → Contains (links_in node) link → (below : Node) × Contains (level_at (whole shape tree entries) level) below × (link ≡ link_to below)
  below_item level lt node is link has =
      from_map link_to (level_at (whole shape tree entries) level) link
      (subst (λ (ls : List Link). Contains ls link) (joined_at level lt) (in_all links_in (level_at (whole shape tree entries) (suc level)) node link is has))

  -- a node below the top stands for an item of a node one level above
  above_node : (level : ℕ) → suc level < length (whole shape tree entries) → (below : Node) → Contains (level_at (whole shape tree entries) level) below
      → (node : Node) × Contains (level_at (whole shape tree entries) (suc level)) node × Contains (links_in node) (link_to below)
  above_node level lt below is =
      from_all links_in (level_at (whole shape tree entries) (suc level)) (link_to below)
      (subst (λ (ls : List Link). Contains ls (link_to below)) (sym (joined_at level lt)) (in_map link_to (level_at (whole shape tree entries) level) below is))

  -- the last level has the top alone
  last_is_top : (node : Node) → Contains (level_at (whole shape tree entries) (length (whole shape tree entries) - 1)) node → spelling node ≡ top_of (whole shape tree entries)
  last_is_top node (i, lt, is) =
      let one = last_has_one shape tree 1 (leaves shape tree entries) _ (tree_levels shape tree entries) in
      let first : i ≡ 0 = omega (arith, lt, one) in
      let nodes = level_at (whole shape tree entries) (length (whole shape tree entries) - 1) in
      ap spelling (sym is ∙ get_or_default nodes i node no_node lt ∙ ap (λ n. get_or nodes n no_node) first)

-- ---- nodes of a publication

tree_number : (tree : Tree) → IsTree (number_of tree)
tree_number Objects = (omega arith, omega arith)
tree_number Tags = (omega arith, omega arith)
tree_number Cells = (omega arith, omega arith)
tree_number Backs = (omega arith, omega arith)

one_number : (a b : Tree) → number_of a ≡ number_of b → a ≡ b
one_number Objects Objects e = refl
one_number Objects Tags e = absurd (omega (arith, e))
one_number Objects Cells e = absurd (omega (arith, e))
one_number Objects Backs e = absurd (omega (arith, e))
one_number Tags Objects e = absurd (omega (arith, e))
one_number Tags Tags e = refl
one_number Tags Cells e = absurd (omega (arith, e))
one_number Tags Backs e = absurd (omega (arith, e))
one_number Cells Objects e = absurd (omega (arith, e))
one_number Cells Tags e = absurd (omega (arith, e))
one_number Cells Cells e = refl
one_number Cells Backs e = absurd (omega (arith, e))
one_number Backs Objects e = absurd (omega (arith, e))
one_number Backs Tags e = absurd (omega (arith, e))
one_number Backs Cells e = absurd (omega (arith, e))
one_number Backs Backs e = refl

-- a manifest spells no node: its first byte is no tree's number
first_of_manifest : (edition : Edition) (tops : Tree → List ℕ) → get_or (manifest edition tops) 0 0 ≡ 79
unfolding manifest
first_of_manifest edition tops = refl

first_of_node : (node : Node) → get_or (spelling node) 0 0 ≡ tree_of node
first_of_node (Leaf tree entries) = refl
first_of_node (Inner tree level links) = refl

tree_small : (node : Node) → IsNode node → tree_of node ≤ 4
tree_small (Leaf tree entries) is = is.0.1
tree_small (Inner tree level links) is = is.0.1

no_manifest : (edition : Edition) (tops : Tree → List ℕ) (node : Node) → IsNode node → manifest edition tops ≡ spelling node → ⊥
no_manifest edition tops node is e =
    let first : 79 ≡ tree_of node = sym (first_of_manifest edition tops) ∙ ap (λ (l : List ℕ). get_or l 0 0) e ∙ first_of_node node in
    let small = tree_small node is in
    omega (arith, first, small)

abbrev ok_value : {E : Type 0} → Node → Result Node E → Node
ok_value other (Ok node) = node
ok_value other (Err e) = other

-- bytes spell one node
one_node : (bytes : List ℕ) (a b : Node) → Spells bytes a → Spells bytes b → a ≡ b
one_node bytes a b first second = ap (ok_value a) (sym (node_again bytes a first) ∙ node_again bytes b second)

module _ (p : Publication) (is : IsPublication p) where
  -- a tree's levels, written out
  abbrev levels_in : Tree → List (List Node)
  levels_in tree = whole (shape_in p) (number_of tree) (p.entries tree)

  same_levels : (tree : Tree) → tree_in p tree ≡ levels_in tree
  same_levels tree = tree_is (shape_in p) (number_of tree) (p.entries tree)

  -- a node at a level of a tree
  record IsAt (tree : Tree) (level : ℕ) (node : Node) : Type 0 where
    pub low : level < length (levels_in tree)
    pub is_in : Contains (level_at (levels_in tree) level) node

  -- it is a node of the publication, and what it should be
  at_spells : (tree : Tree) (level : ℕ) (node : Node) → IsAt tree level node → Spells (spelling node) node × (tree_of node ≡ number_of tree) × (level_of node ≡ level)
  at_spells tree level node at =
      let nodes = nodes_at (shape_in p) (number_of tree) (p.entries tree) (lists_have_trees p is tree) (tree_number tree) level at.low in
      let kinds = kind_at (shape_in p) (number_of tree) (p.entries tree) level at.low in
      let node_is = all_each IsNode (level_at (levels_in tree) level) nodes node at.is_in in
      let kind_is = all_each (λ (n : Node). (level_of n ≡ level) × (tree_of n ≡ number_of tree)) (level_at (levels_in tree) level) kinds node at.is_in in
      ((node_is, refl), kind_is.1, kind_is.0)

  at_in : (tree : Tree) (level : ℕ) (node : Node) → IsAt tree level node → IsNodeIn p (spelling node)
  at_in tree level node at =
      let (place, lt, there) = at.is_in in
      let same = get_or_default (level_at (levels_in tree) level) place node no_node lt in
      inr (
        tree,
        subst (λ (t : List (List Node)). IsNodeOf t (spelling node)) (sym (same_levels tree))
            (level, place, (at.low, lt, ap spelling (sym there ∙ same))),
      )

  at_place : (tree : Tree) (bytes : List ℕ) → IsNodeOf (tree_in p tree) bytes → (level : ℕ) × (node : Node) × IsAt tree level node × (bytes ≡ spelling node)
  at_place tree bytes stands =
      let (level, place, (low, lt, spelled)) = subst (λ (t : List (List Node)). IsNodeOf t bytes) (same_levels tree) stands in
      (level, node_in (levels_in tree) level place, record { low = low; is_in = Contains-get_or (level_at (levels_in tree) level) place no_node lt }, spelled)

  top_at : (tree : Tree) → (node : Node) × IsAt tree (length (levels_in tree) - 1) node × (top_in p tree ≡ digest (spelling node))
  top_at tree =
      let low : length (levels_in tree) - 1 < length (levels_in tree) = omega arith in
      let some = has_at (shape_in p) (number_of tree) (p.entries tree) (length (levels_in tree) - 1) low in (
        node_in (levels_in tree) (length (levels_in tree) - 1) 0,
        record { low = low; is_in = Contains-get_or (level_at (levels_in tree) (length (levels_in tree) - 1)) 0 no_node (omega (arith, some)) },
        ap (λ (t : List (List Node)). digest (top_of t)) (same_levels tree),
      )

  -- ---- what stands under the root is a node of the publication

  pub record IsPublished (wanted : Wanted) (key : List ℕ) : Type 0 where
    pub bytes : List ℕ
    pub is_node : IsNodeIn p bytes
    pub has_digest : digest bytes ≡ key
    pub as_wanted : IsAsWanted wanted bytes

  root_as_wanted : IsAsWanted Root (manifest_of p)
  root_as_wanted = (roles.Manifest, (p.edition, top_in p, tops_wide p, refl), tt)

  published_top : (tree : Tree) (key : List ℕ) → key ≡ top_in p tree → IsPublished (Top tree) key
  published_top tree key e =
      let (node, at, top) = top_at tree in
      let (spells, tree_is, level_is) = at_spells tree _ node at in
      record {
        bytes = spelling node;
        is_node = at_in tree _ node at;
        has_digest = sym (e ∙ top);
        as_wanted = (roles.Node tree (level_of node), (node, spells, tree_is, refl), refl);
      }

  under_top : (parent : List ℕ) (tree : Tree) (key : List ℕ) → IsNodeIn p parent → Refers parent (Top tree) key → IsPublished (Top tree) key
  under_top parent tree key (inl e) (edition, tops, wide, spelled, key_is) =
      published_top tree key (key_is ∙ same_tops edition p.edition tops (top_in p) wide (tops_wide p) (sym spelled ∙ e) tree)
  under_top parent tree key (inr (other, stands)) (edition, tops, wide, spelled, key_is) =
      let (level, node, at, e) = at_place other parent stands in
      absurd (no_manifest edition tops node (at_spells other level node at).0.0 (sym spelled ∙ e))

  under_below : (parent : List ℕ) (tree : Tree) (level : ℕ) (key : List ℕ) → IsNodeIn p parent → Refers parent (Below tree level) key → IsPublished (Below tree level) key
  under_below parent tree level key (inl e) (links, link, spells, has, key_is) =
      absurd (no_manifest p.edition (top_in p) (Inner (number_of tree) (suc level) links) spells.0 (sym e ∙ spells.1))
  under_below parent tree level key (inr (other, stands)) (links, link, spells, has, key_is) =
      let (found, node, at, e) = at_place other parent stands in
      let (node_spells, tree_is, level_is) = at_spells other found node at in
      let same : node ≡ Inner (number_of tree) (suc level) links = one_node parent node _ (node_spells.0, e) spells in
      let one : other ≡ tree = one_number other tree (sym tree_is ∙ ap tree_of same) in
      let deep : found ≡ suc level = sym level_is ∙ ap level_of same in
      let here : IsAt tree (suc level) node = subst (λ (t : Tree). IsAt t (suc level) node) one (subst (λ (n : ℕ). IsAt other n node) deep at) in
      let (below, is_in, link_is) = below_item (shape_in p) (number_of tree) (p.entries tree) level here.low node here.is_in link
      (subst (λ (n : Node). Contains (links_in n) link) (sym same) has) in
      let lower : level < length (levels_in tree) = omega (arith, here.low) in
      let below_at : IsAt tree level below = record { low = lower; is_in = is_in } in
      let (below_spells, below_tree, below_level) = at_spells tree level below below_at in
      record {
        bytes = spelling below;
        is_node = at_in tree level below below_at;
        has_digest = sym (key_is ∙ ap (λ (l : Link). l.child) link_is);
        as_wanted = (roles.Node tree level, (below, below_spells, below_tree, below_level), (refl, refl));
      }

  referred : (parent : List ℕ) (wanted : Wanted) (key : List ℕ) → IsNodeIn p parent → Refers parent wanted key → IsPublished wanted key
  referred parent Root key node refers = absurd refers
  referred parent (Top tree) key node refers = under_top parent tree key node refers
  referred parent (Below tree level) key node refers = under_below parent tree level key node refers

  pub under_published : (held : List ℕ → Type 0) → ((bytes : List ℕ) → held bytes → IsNodeIn p bytes)
      → (wanted : Wanted) (key : List ℕ) → IsUnder held (root_of p) wanted key → IsPublished wanted key
  under_published held only Root _ AtRoot = record { bytes = manifest_of p; is_node = inl refl; has_digest = refl; as_wanted = root_as_wanted }
  under_published held only _ _ (Referred parent_as parent wanted key is_held as_wanted under refers) = referred parent wanted key (only parent is_held) refers

  -- ---- and each node of the publication stands there

  pub record StandsUnder (held : List ℕ → Type 0) (bytes : List ℕ) : Type 0 where
    pub wanted : Wanted
    pub as_wanted : IsAsWanted wanted bytes
    pub under : IsUnder held (root_of p) wanted (digest bytes)

  -- a node with items is an inner one
  inner_links : (node : Node) (tree level : ℕ) (link : Link) → tree_of node ≡ tree → level_of node ≡ suc level → Contains (links_in node) link
      → (links : List Link) × (node ≡ Inner tree (suc level) links) × Contains links link
  inner_links (Leaf own entries) tree level link tree_is level_is has = absurd (omega (arith, has.1))
  inner_links (Inner own deep links) tree level link tree_is level_is has =
      (links, ap (λ (t : ℕ). Inner t deep links) tree_is ∙ ap (λ (l : ℕ). Inner tree l links) level_is, has)

  module _ (held : List ℕ → Type 0) (all : (bytes : List ℕ) → IsNodeIn p bytes → held bytes) where
    root_stands : StandsUnder held (manifest_of p)
    root_stands = record { wanted = Root; as_wanted = root_as_wanted; under = AtRoot }

    top_stands : (tree : Tree) (node : Node) → IsAt tree (length (levels_in tree) - 1) node → StandsUnder held (spelling node)
    top_stands tree node at =
        let (spells, tree_is, level_is) = at_spells tree _ node at in
        let top : spelling node ≡ top_of (levels_in tree) = last_is_top (shape_in p) (number_of tree) (p.entries tree) node at.is_in in
        let key : digest (spelling node) ≡ top_in p tree = ap digest top ∙ ap (λ (t : List (List Node)). digest (top_of t)) (sym (same_levels tree)) in
        record {
          wanted = Top tree;
          as_wanted = (roles.Node tree (level_of node), (node, spells, tree_is, refl), refl);
          under = Referred Root (manifest_of p) (Top tree) (digest (spelling node)) (all (manifest_of p) (inl refl)) root_as_wanted AtRoot
              (p.edition, top_in p, tops_wide p, refl, key);
        }

    -- as many levels above it as are left
    node_stands : (left : ℕ) (tree : Tree) (level : ℕ) (node : Node) → IsAt tree level node → level + left ≡ length (levels_in tree) - 1 → StandsUnder held (spelling node)
    node_stands zero tree level node at e =
        let last : level ≡ length (levels_in tree) - 1 = omega (arith, e) in
        top_stands tree node (subst (λ (n : ℕ). IsAt tree n node) last at)
    node_stands (suc left) tree level node at e =
        let deep : suc level < length (levels_in tree) = omega (arith, e) in
        let (parent, is_in, has) = above_node (shape_in p) (number_of tree) (p.entries tree) level deep node at.is_in in
        let parent_at : IsAt tree (suc level) parent = record { low = deep; is_in = is_in } in
        let (spells, tree_is, level_is) = at_spells tree (suc level) parent parent_at in
        let (own, own_tree, own_level) = at_spells tree level node at in
        let (links, same, has_link) = inner_links parent (number_of tree) level (link_to node) tree_is level_is has in
        let stands = node_stands left tree (suc level) parent parent_at (omega (arith, e)) in
        record {
          wanted = Below tree level;
          as_wanted = (roles.Node tree level, (node, own, own_tree, own_level), (refl, refl));
          under = Referred stands.wanted (spelling parent) (Below tree level) (digest (spelling node)) (all (spelling parent) (at_in tree (suc level) parent parent_at)) stands.as_wanted stands.under
              (links, link_to node, subst (λ (n : Node). Spells (spelling parent) n) same spells, has_link, refl);
        }

    pub published_stands : (bytes : List ℕ) → IsNodeIn p bytes → StandsUnder held bytes
    published_stands bytes (inl e) = subst (StandsUnder held) (sym e) root_stands
    published_stands bytes (inr (tree, stands)) =
        let (level, node, at, e) = at_place tree bytes stands in
        let low = at.low in
        subst (StandsUnder held) (sym e) (node_stands (length (levels_in tree) - 1 - level) tree level node at (omega (arith, low)))
