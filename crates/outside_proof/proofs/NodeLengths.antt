-- How long the nodes of a publication are.
use Rattle.std.proofs.Common.{◌≡◌, ℕ, zero, suc, ◌*◌, ◌<◌, ◌≤◌, List, [], ◌∷◌, ◌++◌, length, get_or, map, inl, inr, sym, subst, arith, length-append}
use Rattle.std.specs.Int.{to_be_bytes, w16, w32, w64}
use Rattle.std.specs.List.{AllByRecursion, Contains, flat_map}
use Rattle.tree_node.specs.NodeRefs.{number_of}
use Rattle.tree_node.specs.Nodes.{Binding, FitsLink, Inner, IsNode, IsTree, Leaf, Link, Node, entry, level_of, link, spelling, tree_of}
use Rattle.tree_node.specs.Trees.{FitsTree, HasTree, Shape, Stands, ends_by, entries_in, is_marked_entry, leaves, level_at, no_node, one_at_least, pieces}
use Rattle.tree_node.specs.declared.tree.Tree.{Tree}
use Rattle.tree_node.specs.declared.tree.Tree.TheVariants.{Objects, Tags, Cells, Backs}
use Rattle.tree_node.proofs.shared.PieceLemmas.{pieces_all}
use Rattle.tree_node.proofs.shared.TreeLaws.{nodes_at, whole}
use Rattle.tree_node.proofs.shared.TreeLemmas.{tree_is}
use Rattle.tree_node.proofs.shared.TreeParts.{kind_at}
use Rattle.osm_keys.specs.Manifests.{HaveWidth, all_tops, edition_bytes, manifest}
use Rattle.osm_keys.specs.Publications.{IsNodeIn, IsPublication, Publication, shape_in, top_in}
use Rattle.osm_keys.specs.declared.edition.Edition.{Edition}
use Rattle.osm_keys.specs.declared.edition.Edition.TheVariants as editions
use Rattle.osm_keys.proofs.shared.Members.{here, in_rest}
use Rattle.osm_keys.proofs.shared.OneManifest.{tops_wide}
use Rattle.osm_keys.proofs.shared.OnePublication.{lists_have_trees}
use Rattle.osm_prove.proofs.shared.ListingLaws.{IsShort}

-- ---- items, one after the other

-- where each is no longer than this, all of them are no longer than as many times this
joined_most : {X : Type 0} (f : X → List ℕ) (most : ℕ) (xs : List X) → AllByRecursion (λ (x : X). length (f x) ≤ most) xs → length (flat_map f xs) ≤ length xs * most
joined_most f most [] all = omega arith
joined_most f most (x ∷ xs) all = let more = joined_most f most xs all.1 in omega (arith, length-append (f x) (flat_map f xs), all.0, more)

-- an entry
entry_most : (e : Binding) → FitsTree e → length (entry e) ≤ 16785425
entry_most e fits =
    omega (
      arith,
      length-append (to_be_bytes w16 (length e.key)) (e.key ++ (to_be_bytes w32 (length e.value) ++ e.value)),
      length-append e.key (to_be_bytes w32 (length e.value) ++ e.value),
      length-append (to_be_bytes w32 (length e.value)) e.value,
      fits.key,
      fits.value,
    )

entries_most : (es : List Binding) → AllByRecursion FitsTree es → AllByRecursion (λ (e : Binding). length (entry e) ≤ 16785425) es
entries_most [] all = tt
entries_most (e ∷ es) all = (entry_most e all.0, entries_most es all.1)

-- what stands for a node
link_most : (c : Link) → FitsLink c → length (link c) ≤ 65577
link_most c fits =
    omega (
      arith,
      length-append (to_be_bytes w16 (length c.greatest)) (c.greatest ++ (to_be_bytes w64 c.number ++ c.child)),
      length-append c.greatest (to_be_bytes w64 c.number ++ c.child),
      length-append (to_be_bytes w64 c.number) c.child,
      fits.greatest,
      fits.child,
    )

links_most : (cs : List Link) → AllByRecursion FitsLink cs → AllByRecursion (λ (c : Link). length (link c) ≤ 65577) cs
links_most [] all = tt
links_most (c ∷ cs) all = (link_most c all.0, links_most cs all.1)

-- ---- nodes

-- a node whose entries, if it has any, are within the limits
node_short : (node : Node) → IsNode node → AllByRecursion FitsTree (entries_in node) → IsShort (spelling node)
node_short (Leaf tree entries) is fit = let most = joined_most entry 16785425 entries (entries_most entries fit) in omega (arith, most, is.1)
node_short (Inner tree level links) is fit = let most = joined_most link 65577 links (links_most links is.5) in omega (arith, most, is.4)

leaves_fit : (tree : ℕ) (ps : List (List Binding)) → AllByRecursion (AllByRecursion FitsTree) ps → AllByRecursion (λ (n : Node). AllByRecursion FitsTree (entries_in n)) (map (Leaf tree) ps)
leaves_fit tree [] all = tt
leaves_fit tree (p ∷ ps) all = (all.0, leaves_fit tree ps all.1)

-- what holds of each holds of the one at a place
at_place : (P : Node → Type 0) (nodes : List Node) (place : ℕ) → AllByRecursion P nodes → place < length nodes → P (get_or nodes place no_node)
at_place P [] place all lt = absurd (omega arith)
at_place P (n ∷ nodes) zero all lt = all.0
at_place P (n ∷ nodes) (suc place) all lt = at_place P nodes place all.1 (omega (arith, lt))

-- a node above the leaves has no entries
no_entries : (node : Node) (level : ℕ) → level_of node ≡ suc level → AllByRecursion FitsTree (entries_in node)
no_entries (Leaf tree entries) level e = absurd (omega (arith, e))
no_entries (Inner tree above links) level e = tt

stands_short : (shape : Shape) (tree : ℕ) (entries : List Binding) → HasTree entries → IsTree tree → (level place : ℕ) (x : List ℕ) → Stands (whole shape tree entries) level place x → IsShort x
stands_short shape tree entries has is zero place x stands =
    let node = at_place IsNode (leaves shape tree entries) place (nodes_at shape tree entries has is zero stands.0) stands.1 in
    let fit = at_place (λ (n : Node). AllByRecursion FitsTree (entries_in n)) (leaves shape tree entries) place
    (leaves_fit tree (one_at_least (pieces (ends_by shape is_marked_entry) entries)) (pieces_all FitsTree (ends_by shape is_marked_entry) entries has.fit)) stands.1 in
    subst IsShort (sym stands.2) (node_short (get_or (leaves shape tree entries) place no_node) node fit)
stands_short shape tree entries has is (suc level) place x stands =
    let nodes = level_at (whole shape tree entries) (suc level) in
    let node = at_place IsNode nodes place (nodes_at shape tree entries has is (suc level) stands.0) stands.1 in
    let kind = at_place (λ (n : Node). (level_of n ≡ suc level) × (tree_of n ≡ tree)) nodes place (kind_at shape tree entries (suc level) stands.0) stands.1 in
    subst IsShort (sym stands.2) (node_short (get_or nodes place no_node) node (no_entries (get_or nodes place no_node) level kind.0))

-- ---- a publication

numbered : (tree : Tree) → IsTree (number_of tree)
numbered Objects = (omega arith, omega arith)
numbered Tags = (omega arith, omega arith)
numbered Cells = (omega arith, omega arith)
numbered Backs = (omega arith, omega arith)

edition_short : (edition : Edition) → length (edition_bytes edition) ≤ 9
edition_short editions.One = omega arith
edition_short (editions.Two sequence) = omega arith

manifest_short : (edition : Edition) (tops : Tree → List ℕ) → HaveWidth tops → IsShort (manifest edition tops)
unfolding manifest
manifest_short edition tops wide =
    omega (
      arith,
      length-append (edition_bytes edition) (all_tops tops),
      length-append (tops Objects) (tops Tags ++ (tops Cells ++ tops Backs)),
      length-append (tops Tags) (tops Cells ++ tops Backs),
      length-append (tops Cells) (tops Backs),
      edition_short edition,
      wide Objects,
      wide Tags,
      wide Cells,
      wide Backs,
    )

-- each node of a publication has fewer than 2^32 bytes
pub short_node : (p : Publication) → IsPublication p → (x : List ℕ) → IsNodeIn p x → IsShort x
short_node p is x (inl e) = subst IsShort (sym e) (manifest_short p.edition (top_in p) (tops_wide p))
short_node p is x (inr (tree, at)) =
    stands_short (shape_in p) (number_of tree) (p.entries tree) (lists_have_trees p is tree) (numbered tree) at.0 at.1 x
    (subst (λ (ls : List (List Node)). Stands ls at.0 at.1 x) (tree_is (shape_in p) (number_of tree) (p.entries tree)) at.2)

-- and so has each of some of them
pub short_nodes : (p : Publication) → IsPublication p → (nodes : List (List ℕ)) → ((x : List ℕ) → Contains nodes x → IsNodeIn p x) → AllByRecursion IsShort nodes
short_nodes p is [] all = tt
short_nodes p is (n ∷ nodes) all = (short_node p is n (all n (here n nodes)), short_nodes p is nodes (λ x has. all x (in_rest n nodes x has)))
