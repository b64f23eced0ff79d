-- Changes make one set of a set, and two snapshots of one set and edition hold the same nodes and the same root.
use Rattle.std.proofs.Common.{◌≡◌, ◌↔◌, inl, inr, ℕ, List, ◌++◌, None, sym, ap, subst, ◌∙◌}
use Rattle.std.specs.List.{Contains}
use Rattle.std.proofs.lemmas.List.{map-append}
use Rattle.std.proofs.lemmas.List.Elements.{Contains-append_cases, Contains-append_left, Contains-append_right}
use Rattle.opl_codec.specs.declared.change.Change.{Change}
use Rattle.opl_codec.specs.declared.change.Change.TheVariants.{Put}
use Rattle.osm_model.specs.Elements.{Element, reference}
use Rattle.osm_model.specs.Sets.{IsObjectSet}
use Rattle.osm_model.specs.declared.reference.Ref.{Ref}
use Rattle.tree_build.proofs.DifferChanges.{same_items}
use Rattle.tree_node.specs.NodeRefs.{number_of}
use Rattle.tree_node.specs.Nodes.{Binding}
use Rattle.tree_node.specs.Shelves.{SameNodes}
use Rattle.tree_node.specs.Stocks.{HasNode}
use Rattle.tree_node.specs.Trees.{IsNodeOf, levels}
use Rattle.tree_node.specs.declared.tree.Tree.{Tree}
use Rattle.osm_index.specs.Applying.{IsApplied, name_of, names_of}
use Rattle.osm_keys.specs.Publications.{IsNodeIn, IsPublication, Publication, manifest_of, shape_of, top_in, tree_in}
use Rattle.osm_index.specs.Snapshots.{HoldsPublication}
use Rattle.osm_keys.specs.declared.edition.Edition.{Edition}
use Rattle.osm_index.specs.declared.snapshot.Snapshot.{Snapshot}
use Rattle.osm_keys.specs.Manifests.{manifest}
use Rattle.osm_index.proofs.ItemLemmas.{from_list, in_list}
use Rattle.osm_keys.proofs.shared.OneManifest.{manifest_same}
use Rattle.osm_index.proofs.SetLemmas.{key_at, set_rises}
use Rattle.osm_keys.proofs.shared.Members.{in_map}
use Rattle.osm_keys.proofs.shared.OnePublication.{same_entries, same_root}
use Rattle.tree_node.specs.Digests.{digest}
use Rattle.tree_node.specs.Trees.{top_of}

-- ---- the changed set is one

pub one_set : (a b : List Element) → IsObjectSet a → IsObjectSet b → ((o : Element) → Contains a o ↔ Contains b o) → a ≡ b
one_set a b is are members =
    same_items key_at None None a b (set_rises a is) (set_rises b are) (λ o h. from_list b o ((members o).0 (in_list a o h))) (λ o h. from_list a o ((members o).1 (in_list b o h)))

pub one_applied : (old new other : List Element) (all : List Change) → IsApplied old all new → IsApplied old all other → new ≡ other
one_applied old new other all is are = one_set new other is.set are.set (λ o. ((λ h. (are.members o).1 ((is.members o).0 h)), (λ h. (is.members o).1 ((are.members o).0 h))))

-- ---- one list of changes after the other

module _ (old mid new : List Element) (first second : List Change) (one : IsApplied old first mid) (two : IsApplied mid second new) (apart : (r : Ref) → Contains (names_of first) r → ¬ Contains (names_of second) r) where
  names : names_of (first ++ second) ≡ names_of first ++ names_of second
  names = map-append name_of first second

  pub both_applied : IsApplied old (first ++ second) new
  both_applied = record {
    set = two.set;
    members = λ o. (
      (λ h. elim ((two.members o).0 h) [
        | inl put ↦ inl (Contains-append_right first second (Put o) put)
        | inr (was, unnamed) ↦ elim ((one.members o).0 was) [
          | inl put ↦ inl (Contains-append_left first second (Put o) put)
          | inr (first_was, not_first) ↦ inr (
            first_was,
            λ named. elim (Contains-append_cases (names_of first) (names_of second) (reference o) (subst (λ (ns : List Ref). Contains ns (reference o)) names named)) [
              | inl in_first ↦ not_first in_first
              | inr in_second ↦ unnamed in_second
            ],
          )
        ]
      ]),
      (λ h. elim h [
        | inl put ↦ elim (Contains-append_cases first second (Put o) put) [
          | inl in_first ↦ (two.members o).1 (inr ((one.members o).1 (inl in_first), apart (reference o) (in_map name_of first (Put o) in_first)))
          | inr in_second ↦ (two.members o).1 (inl in_second)
        ]
        | inr (was, unnamed) ↦ (two.members o).1 (inr (
          (one.members o).1 (inr (was, λ named. unnamed (subst (λ (ns : List Ref). Contains ns (reference o)) (sym names) (Contains-append_left (names_of first) (names_of second) (reference o) named)))),
          (λ named. unnamed (subst (λ (ns : List Ref). Contains ns (reference o)) (sym names) (Contains-append_right (names_of first) (names_of second) (reference o) named))),
        ))
      ]),
    );
  }

-- ---- the nodes of one set in one edition

module _ (p q : Publication) (is : IsPublication p) (are : IsPublication q) (objects : p.objects ≡ q.objects) (edition : p.edition ≡ q.edition) where
  one_tree_in : (tree : Tree) → tree_in p tree ≡ tree_in q tree
  one_tree_in tree =
      ap (λ (e : Edition). levels (shape_of e) (number_of tree) (p.entries tree)) edition
      ∙ ap (λ (entries : List Binding). levels (shape_of q.edition) (number_of tree) entries) (same_entries p q is are objects tree)

  one_manifest : manifest_of p ≡ manifest_of q
  one_manifest = ap (λ (e : Edition). manifest e (top_in p)) edition ∙ manifest_same q.edition (top_in p) (top_in q) (λ tree. ap (λ t. digest (top_of t)) (one_tree_in tree))

  pub same_nodes : (x : List ℕ) → IsNodeIn p x ↔ IsNodeIn q x
  same_nodes x = (
    (λ h. elim h [ inl e ↦ inl (e ∙ one_manifest) | inr (tree, n) ↦ inr (tree, subst (λ t. IsNodeOf t x) (one_tree_in tree) n) ]),
    (λ h. elim h [ inl e ↦ inl (e ∙ sym one_manifest) | inr (tree, n) ↦ inr (tree, subst (λ t. IsNodeOf t x) (sym (one_tree_in tree)) n) ]),
  )

-- two snapshots
pub one_snapshot : (a b : Snapshot) (p q : Publication) → HoldsPublication a p → HoldsPublication b q → p.objects ≡ q.objects → p.edition ≡ q.edition → SameNodes (HasNode a.stock) (HasNode b.stock) × (a.root.0 ≡ b.root.0)
one_snapshot a b p q held held_too objects edition =
    let nodes = same_nodes p q held.is.published held_too.is.published objects edition in (
      (λ x. ((λ h. (held.nodes x).1 ((nodes x).1 ((held_too.nodes x).0 h))), (λ h. (held_too.nodes x).1 ((nodes x).0 ((held.nodes x).0 h))))),
      held.root ∙ same_root p q held.is.published held_too.is.published objects edition ∙ sym held_too.root,
    )
