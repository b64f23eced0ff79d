-- A set of objects at a sequence has one publication.
use Rattle.std.proofs.Common.{◌≡◌, ℕ, List, length, refl, sym, ap, subst, ◌∙◌, arith}
use Rattle.osm_keys.proofs.shared.EntriesFit.{has_tree}
use Rattle.light_index.specs.LightPublications.{HasTooManyLight, IsLightPublication, IsLightPublicationOf, LightPublication, light_root_of, light_top_in}
use Rattle.light_keys.specs.LightManifests.{light_manifest}
use Rattle.osm_keys.proofs.shared.OnePublication.{one_entry_list}
use Rattle.osm_keys.specs.Entries.{AreEntriesOf}
use Rattle.osm_keys.specs.Grains.{Lines}
use Rattle.osm_model.specs.Elements.{Element}
use Rattle.tree_node.specs.Digests.{digest}
use Rattle.tree_node.specs.NodeRefs.{number_of}
use Rattle.tree_node.specs.Nodes.{Binding}
use Rattle.tree_node.specs.Trees.{HasTree, Two, levels, top_of}
use Rattle.tree_node.specs.declared.tree.Tree.{Tree}
use Rattle.tree_node.specs.declared.tree.Tree.TheVariants.{Objects, Tags, Cells, Backs}

-- ---- publications

pub same_entries : (p q : LightPublication) → IsLightPublication p → IsLightPublication q → p.objects ≡ q.objects → (tree : Tree) → p.entries tree ≡ q.entries tree
same_entries p q is are e tree =
    one_entry_list Lines p.objects tree (p.entries tree) (q.entries tree) (is.lists tree) (subst (λ (objects : List Element). AreEntriesOf Lines objects tree (q.entries tree)) (sym e) (are.lists tree))

-- manifests of the same tops are the same
pub light_manifest_same : (sequence : ℕ) (t u : Tree → List ℕ) → ((tree : Tree) → t tree ≡ u tree) → light_manifest sequence t ≡ light_manifest sequence u
unfolding light_manifest
light_manifest_same sequence t u h = rw (h Objects, h Tags, h Cells, h Backs) refl

pub same_root : (p q : LightPublication) → IsLightPublication p → IsLightPublication q → p.objects ≡ q.objects → p.sequence ≡ q.sequence → light_root_of p ≡ light_root_of q
same_root p q is are e f =
    let tops : (tree : Tree) → light_top_in p tree ≡ light_top_in q tree = λ tree.
    ap (λ (entries : List Binding). digest (top_of (levels Two (number_of tree) entries))) (same_entries p q is are e tree) in
    ap digest (ap (λ (sequence : ℕ). light_manifest sequence (light_top_in p)) f ∙ light_manifest_same q.sequence (light_top_in p) (light_top_in q) tops)

-- a set that has a publication hasn't too many entries
pub not_too_many : (objects : List Element) (sequence : ℕ) (p : LightPublication) → IsLightPublicationOf objects sequence p → ¬ HasTooManyLight objects
not_too_many objects sequence p is (tree, entries, are, many) =
    let mine = subst (λ (set : List Element). AreEntriesOf Lines set tree (p.entries tree)) is.same_objects (is.published.lists tree) in
    let same = ap length (one_entry_list Lines objects tree entries (p.entries tree) are mine) in
    let few = is.published.few tree in
    omega (arith, many, same, few)

-- each list of entries has a tree
pub lists_have_trees : (p : LightPublication) → IsLightPublication p → (tree : Tree) → HasTree (p.entries tree)
lists_have_trees p is tree = has_tree Lines p.objects is.set tree (p.entries tree) (is.lists tree) (is.few tree)
