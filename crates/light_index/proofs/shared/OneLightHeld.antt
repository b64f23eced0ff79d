-- What a snapshot holds is one publication, and two snapshots of one set at one sequence hold the same nodes.
use Rattle.std.proofs.Common.{◌≡◌, ◌↔◌, inl, inr, ℕ, List, refl, sym, ap, subst, ◌∙◌}
use Rattle.std.specs.List.{Contains}
use Rattle.light_index.proofs.shared.LightNodeSorts.{line_no_manifest, line_no_node}
use Rattle.light_index.proofs.shared.OneLightPublication.{light_manifest_same, same_entries, same_root}
use Rattle.light_index.specs.LightPublications.{IsLightNodeIn, IsLightPublication, IsLineIn, LightPublication, light_manifest_of, light_top_in, light_tree_in}
use Rattle.light_index.specs.LightSnapshots.{HoldsLightPublication}
use Rattle.light_index.specs.declared.light_snapshot.LightSnapshot.{LightSnapshot}
use Rattle.light_keys.specs.LightManifests.{light_manifest}
use Rattle.opl_codec.proofs.shared.OneLine.{one_line}
use Rattle.osm_index.proofs.shared.ChangeLaws.{one_set}
use Rattle.osm_keys.proofs.shared.OneObject.{is_element}
use Rattle.osm_model.specs.CanonicalLine.{canonical_line}
use Rattle.osm_model.specs.Elements.{Element}
use Rattle.tree_node.specs.Digests.{digest}
use Rattle.tree_node.specs.NodeRefs.{number_of}
use Rattle.tree_node.specs.Nodes.{Binding}
use Rattle.tree_node.specs.Shelves.{SameNodes}
use Rattle.tree_node.specs.Stocks.{HasNode}
use Rattle.tree_node.specs.Trees.{IsNodeOf, Two, levels, top_of}
use Rattle.tree_node.specs.declared.tree.Tree.{Tree}

-- ---- one snapshot

-- a line among the nodes of a publication is one of its lines
line_among : (q : LightPublication) (o : Element) → IsLightNodeIn q (canonical_line o) → IsLineIn q (canonical_line o)
line_among q o is =
    elim is [
      | inl e ↦ absurd (line_no_manifest o q.sequence (light_top_in q) e)
      | inr below ↦ elim below [ inl (tree, node) ↦ absurd (line_no_node o Two tree (q.entries tree) node) | inr line ↦ line ]
    ]

module _ (snapshot : LightSnapshot) where
  -- an object of the one publication is one of the other
  object_of_both : (p q : LightPublication) → HoldsLightPublication snapshot p → HoldsLightPublication snapshot q → (o : Element) → Contains p.objects o → Contains q.objects o
  object_of_both p q held also o there =
      let (x, there_too, same) = line_among q o ((also.nodes (canonical_line o)).0 ((held.nodes (canonical_line o)).1 (inr (inr (o, there, refl))))) in
      subst (λ (e : Element). Contains q.objects e) (sym (one_line o x (is_element p.objects o held.is.published.set there) (is_element q.objects x also.is.published.set there_too) same)) there_too

  pub one_light_set : (p q : LightPublication) → HoldsLightPublication snapshot p → HoldsLightPublication snapshot q → p.objects ≡ q.objects
  one_light_set p q held also =
      one_set p.objects q.objects held.is.published.set also.is.published.set (λ o. (object_of_both p q held also o, object_of_both q p also held o))

  pub one_light_sequence : (p q : LightPublication) → HoldsLightPublication snapshot p → HoldsLightPublication snapshot q → p.sequence ≡ q.sequence
  one_light_sequence p q held also = held.is.same_sequence ∙ sym also.is.same_sequence

-- ---- two snapshots

module _ (p q : LightPublication) (is : IsLightPublication p) (are : IsLightPublication q) (objects : p.objects ≡ q.objects) (sequence : p.sequence ≡ q.sequence) where
  one_tree_in : (tree : Tree) → light_tree_in p tree ≡ light_tree_in q tree
  one_tree_in tree = ap (λ (entries : List Binding). levels Two (number_of tree) entries) (same_entries p q is are objects tree)

  one_manifest : light_manifest_of p ≡ light_manifest_of q
  one_manifest =
      ap (λ (n : ℕ). light_manifest n (light_top_in p)) sequence
      ∙ light_manifest_same q.sequence (light_top_in p) (light_top_in q) (λ tree. ap (λ t. digest (top_of t)) (one_tree_in tree))

  same_nodes : (x : List ℕ) → IsLightNodeIn p x ↔ IsLightNodeIn q x
  same_nodes x = (
    (λ h. elim h [
      | inl e ↦ inl (e ∙ one_manifest)
      | inr below ↦ elim below [
        | inl (tree, n) ↦ inr (inl (tree, subst (λ t. IsNodeOf t x) (one_tree_in tree) n))
        | inr (o, there, e) ↦ inr (inr (o, subst (λ (set : List Element). Contains set o) objects there, e))
      ]
    ]),
    (λ h. elim h [
      | inl e ↦ inl (e ∙ sym one_manifest)
      | inr below ↦ elim below [
        | inl (tree, n) ↦ inr (inl (tree, subst (λ t. IsNodeOf t x) (sym (one_tree_in tree)) n))
        | inr (o, there, e) ↦ inr (inr (o, subst (λ (set : List Element). Contains set o) (sym objects) there, e))
      ]
    ]),
  )

pub one_light_snapshot : (a b : LightSnapshot) (p q : LightPublication) → HoldsLightPublication a p → HoldsLightPublication b q → p.objects ≡ q.objects → p.sequence ≡ q.sequence
    → SameNodes (HasNode a.stock) (HasNode b.stock) × (a.root.0 ≡ b.root.0)
one_light_snapshot a b p q held held_too objects sequence =
    let nodes = same_nodes p q held.is.published held_too.is.published objects sequence in (
      (λ x. ((λ h. (held.nodes x).1 ((nodes x).1 ((held_too.nodes x).0 h))), (λ h. (held_too.nodes x).1 ((nodes x).0 ((held.nodes x).0 h))))),
      held.root ∙ same_root p q held.is.published held_too.is.published objects sequence ∙ sym held_too.root,
    )
