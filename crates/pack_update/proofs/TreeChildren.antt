-- The children of a publication's nodes are nodes of it.
use Rattle.std.proofs.Common.{◌≡◌, inl, inr, ℕ, zero, suc, ◌-◌, ◌<◌, ◌≤◌, List, [], ◌∷◌, length, get_or, refl, sym, ap, subst, ◌∙◌, arith}
use Rattle.std.specs.List.{AllByRecursion, Contains, flat_map}
use Rattle.std.proofs.lemmas.List.Elements.{All-from_recursion}
use Rattle.tree_node.specs.Digests.{digest}
use Rattle.tree_node.specs.NodeRefs.{number_of}
use Rattle.tree_node.specs.Nodes.{Binding, Inner, IsNode, IsTree, Leaf, Link, Node, Spells, spelling}
use Rattle.tree_node.specs.Trees.{HasTree, IsNodeOf, Shape, ends_by, is_marked_entry, level_at, levels, link_to, links_in, no_node, node_in, one_at_least, pieces, top_of}
use Rattle.tree_node.specs.declared.tree.Tree.{Tree}
use Rattle.tree_node.specs.declared.tree.Tree.TheVariants.{Objects, Tags, Cells, Backs}
use Rattle.tree_node.proofs.shared.FieldLemmas.{ok_is}
use Rattle.tree_node.proofs.shared.NodeLaws.{node_again}
use Rattle.tree_node.proofs.shared.TreeLaws.{has_at, nodes_at, over_joined, pair_at, whole}
use Rattle.osm_keys.specs.Manifests.{manifest}
use Rattle.osm_keys.specs.Publications.{IsNodeIn, IsPublication, Publication, shape_in, top_in, tree_in}
use Rattle.osm_keys.specs.declared.edition.Edition.{Edition}
use Rattle.osm_keys.proofs.shared.EntriesFit.{all_from}
use Rattle.osm_keys.proofs.shared.Members.{from_map, in_all, none}
use Rattle.osm_keys.proofs.shared.OneManifest.{same_tops, tops_wide}
use Rattle.osm_keys.proofs.shared.OnePublication.{lists_have_trees}
use Rattle.node_pack.specs.Packs.{HasChildren, child_digests}

-- ---- trees

module _ (shape : Shape) (tree : ℕ) (entries : List Binding) where
  -- a link of a node is to one of the level below
  pub link_below : (level : ℕ) → suc level < length (levels shape tree entries) → (node : Node) → Contains (level_at (levels shape tree entries) (suc level)) node → (link : Link) → Contains (links_in node) link
      → (child : Node) × Contains (level_at (levels shape tree entries) level) child × (link ≡ link_to child)
  unfolding levels
  link_below level lt node is_in link names =
      let T = whole shape tree entries in
      let at = in_all links_in (level_at T (suc level)) node link is_in names in
      let over = ap (flat_map links_in) (pair_at shape tree entries level lt).1 ∙ over_joined shape tree (suc level) (level_at T level) in
      from_map link_to (level_at T level) link (subst (λ (ls : List Link). Contains ls link) over at)

  -- and a leaf has none
  pub no_link : (node : Node) → Contains (level_at (levels shape tree entries) 0) node → (link : Link) → ¬ Contains (links_in node) link
  unfolding levels
  no_link node is_in link names =
      let (items, there, is) = from_map (Leaf tree) (one_at_least (pieces (ends_by shape is_marked_entry) entries)) node is_in in
      none link (subst (λ (n : Node). Contains (links_in n) link) is names)

  -- what stands in it is a node
  pub node_at : HasTree entries → IsTree tree → (level place : ℕ) → level < length (levels shape tree entries) → place < length (level_at (levels shape tree entries) level) → IsNode (node_in (levels shape tree entries) level place)
  unfolding levels
  node_at has is level place lt at = All-from_recursion IsNode (level_at (whole shape tree entries) level) (nodes_at shape tree entries has is level lt) place no_node at

  -- the top is one of its nodes
  pub top_there : IsNodeOf (levels shape tree entries) (top_of (levels shape tree entries))
  unfolding levels
  top_there =
      let T = whole shape tree entries in
      let last : length T - 1 < length T = omega arith in
      let some = has_at shape tree entries (length T - 1) last in
      (length T - 1, 0, (last, omega (arith, some), refl))

-- an element within a list is the same whatever stands beyond it
pub at_any : {X : Type 0} (xs : List X) (i : ℕ) (d e : X) → i < length xs → get_or xs i d ≡ get_or xs i e
at_any [] i d e lt = absurd (omega arith)
at_any (x ∷ xs) zero d e lt = refl
at_any (x ∷ xs) (suc i) d e lt = at_any xs i d e (omega arith)

-- ---- manifests and nodes of trees

pub numbered : (tree : Tree) → IsTree (number_of tree)
numbered Objects = (omega arith, omega arith)
numbered Tags = (omega arith, omega arith)
numbered Cells = (omega arith, omega arith)
numbered Backs = (omega arith, omega arith)

first_small : (node : Node) → IsNode node → get_or (spelling node) 0 0 ≤ 4
first_small (Leaf tree entries) is = is.0.1
first_small (Inner tree level links) is = is.0.1

manifest_first : (edition : Edition) (tops : Tree → List ℕ) → get_or (manifest edition tops) 0 0 ≡ 79
unfolding manifest
manifest_first edition tops = refl

-- no manifest spells a node
pub no_manifest : (bytes : List ℕ) (node : Node) (edition : Edition) (tops : Tree → List ℕ) → Spells bytes node → ¬ (bytes ≡ manifest edition tops)
no_manifest bytes node edition tops spells e =
    let small = first_small node spells.0 in
    let first = ap (λ (l : List ℕ). get_or l 0 0) (sym spells.1 ∙ e) ∙ manifest_first edition tops in
    omega (arith, small, first)

-- ---- children

module _ (p : Publication) (is : IsPublication p) where
  -- the digest is that of a node of the publication
  abbrev pub IsDigestIn : List ℕ → Type 0
  IsDigestIn key = (bytes : List ℕ) × IsNodeIn p bytes × (digest bytes ≡ key)

  pub of_top : (tree : Tree) → IsDigestIn (top_in p tree)
  of_top tree = (top_of (tree_in p tree), inr (tree, top_there (shape_in p) (number_of tree) (p.entries tree)), refl)

  of_link : (tree : Tree) (level place : ℕ) → level < length (tree_in p tree) → place < length (level_at (tree_in p tree) level) → (link : Link) → Contains (links_in (node_in (tree_in p tree) level place)) link → IsDigestIn link.child
  of_link tree zero place lt at link names =
      absurd (no_link (shape_in p) (number_of tree) (p.entries tree) (node_in (tree_in p tree) zero place) (place, at, at_any (level_at (tree_in p tree) zero) place (node_in (tree_in p tree) zero place) no_node at) link names)
  of_link tree (suc level) place lt at link names =
      let T = tree_in p tree in
      let node = node_in T (suc level) place in
      let (child, (k, within, stands), is_link) = link_below (shape_in p) (number_of tree) (p.entries tree) level lt node (place, at, at_any (level_at T (suc level)) place node no_node at) link names in
      let there : child ≡ node_in T level k = sym stands ∙ at_any (level_at T level) k child no_node within in
      (spelling child, inr (tree, (level, k, (omega (arith, lt), within, ap spelling there))), sym (ap (λ (l : Link). l.child) is_link))

  -- so are those of its children
  pub children_in : (bytes : List ℕ) (children : List (List ℕ)) → IsNodeIn p bytes → HasChildren bytes children → AllByRecursion IsDigestIn children
  children_in bytes children (inl is_manifest) (inl (node, spells, are)) = absurd (no_manifest bytes node p.edition (top_in p) spells is_manifest)
  children_in bytes children (inl is_manifest) (inr (edition, tops, wide, is_other, are)) =
      let same : (tree : Tree) → top_in p tree ≡ tops tree = λ tree. same_tops p.edition edition (top_in p) tops (tops_wide p) wide (sym is_manifest ∙ is_other) tree in
      let one : (tree : Tree) → IsDigestIn (tops tree) = λ tree. subst IsDigestIn (same tree) (of_top tree) in
      subst (AllByRecursion IsDigestIn) (sym are) (one Objects, (one Tags, (one Cells, (one Backs, tt))))
  children_in bytes children (inr (tree, (level, place, (lt, at, stands)))) (inl (node, spells, are)) =
      let found = node_in (tree_in p tree) level place in
      let is_node = node_at (shape_in p) (number_of tree) (p.entries tree) (lists_have_trees p is tree) (numbered tree) level place lt at in
      let same : found ≡ node = ok_is found node (sym (node_again bytes found (is_node, stands)) ∙ node_again bytes node spells) in
      subst (AllByRecursion IsDigestIn) (sym are) (subst (λ (n : Node). AllByRecursion IsDigestIn (child_digests n)) same (all_from IsDigestIn (child_digests found) (λ key among.
      let (link, names, e) = from_map (λ (l : Link). l.child) (links_in found) key among in
      subst IsDigestIn (sym e) (of_link tree level place lt at link names))))
  children_in bytes children (inr (tree, (level, place, (lt, at, stands)))) (inr (edition, tops, wide, is_other, are)) =
      let is_node = node_at (shape_in p) (number_of tree) (p.entries tree) (lists_have_trees p is tree) (numbered tree) level place lt at in
      absurd (no_manifest bytes (node_in (tree_in p tree) level place) edition tops (is_node, stands) is_other)
