-- What a snapshot holds is one publication.
use Rattle.std.proofs.Common.{◌≡◌, ◌⊎◌, inl, inr, ℕ, List, [], ◌∷◌, map, refl, sym, ap, subst, ◌∙◌}
use Rattle.std.specs.List.{AllByRecursion}
use Rattle.std.proofs.lemmas.List.Elements.{recursion_from_All}
use Rattle.opl_codec.proofs.shared.OneLine.{one_line}
use Rattle.osm_model.specs.Elements.{Element}
use Rattle.osm_model.specs.Limits.{IsElement}
use Rattle.tree_node.specs.Digests.{digest}
use Rattle.tree_node.specs.NodeRefs.{number_of}
use Rattle.tree_node.specs.Nodes.{Binding, IsTree, Node}
use Rattle.tree_node.specs.Outcomes.{Clash}
use Rattle.tree_node.specs.Trees.{HasTree, IsNodeOf, Shape, levels, top_of}
use Rattle.tree_node.specs.declared.tree.Tree.TheVariants.{Objects}
use Rattle.tree_node.proofs.shared.TreeSame.{one_list}
use Rattle.osm_keys.specs.Entries.{object_entry}
use Rattle.osm_keys.specs.Grains.{Whole}
use Rattle.osm_keys.specs.Publications.{Publication, shape_in, shape_of, top_in, tree_in}
use Rattle.osm_index.specs.Snapshots.{HoldsPublication}
use Rattle.osm_keys.specs.declared.edition.Edition.{Edition}
use Rattle.osm_index.specs.declared.snapshot.Snapshot.{Snapshot}
use Rattle.osm_index.proofs.SnapshotLemmas.{objects_listed}
use Rattle.osm_index.proofs.TreeNodes.{is_tree}
use Rattle.osm_keys.proofs.shared.OnePublication.{lists_have_trees}

-- the entries of objects stand for them
same_objects : (xs ys : List Element) → AllByRecursion IsElement xs → AllByRecursion IsElement ys → map (object_entry Whole) xs ≡ map (object_entry Whole) ys → xs ≡ ys
same_objects [] [] are_x are_y e = refl
same_objects [] (y ∷ ys) are_x are_y e = absurd Prim.cc
same_objects (x ∷ xs) [] are_x are_y e = absurd Prim.cc
same_objects (x ∷ xs) (y ∷ ys) are_x are_y e =
    let head : object_entry Whole x ≡ object_entry Whole y = Prim.cc in
    let tail : map (object_entry Whole) xs ≡ map (object_entry Whole) ys = Prim.cc in
    let one = one_line x y are_x.0 are_y.0 (ap (λ (b : Binding). b.value) head) in
    rw (one, same_objects xs ys are_x.1 are_y.1 tail) refl

-- one digest of two tops
same_list : (shape : Shape) (tree : ℕ) (xs ys : List Binding) → IsTree tree → HasTree xs → HasTree ys → digest (top_of (levels shape tree xs)) ≡ digest (top_of (levels shape tree ys)) → (xs ≡ ys) ⊎ Clash (IsNodeOf (levels shape tree xs)) (IsNodeOf (levels shape tree ys))
unfolding levels
same_list shape tree xs ys is has other_has same = one_list shape tree is xs ys has other_has same

module _ (snapshot : Snapshot) (p q : Publication) (held : HoldsPublication snapshot p) (also : HoldsPublication snapshot q) where
  pub one_edition : p.edition ≡ q.edition
  one_edition = held.is.same_edition ∙ sym also.is.same_edition

  -- the nodes of both trees are in one stock
  one_entries : p.entries Objects ≡ q.entries Objects
  one_entries =
      let number = number_of Objects in
      let other : tree_in q Objects ≡ levels (shape_in p) number (q.entries Objects) = ap (λ (e : Edition). levels (shape_of e) number (q.entries Objects)) (sym one_edition) in
      let tops : top_in p Objects ≡ digest (top_of (levels (shape_in p) number (q.entries Objects))) = sym (held.tops Objects) ∙ also.tops Objects ∙ ap (λ (t : List (List Node)). digest (top_of t)) other in
      elim (same_list (shape_in p) number (p.entries Objects) (q.entries Objects) (is_tree Objects) (lists_have_trees p held.is.published Objects) (lists_have_trees q also.is.published Objects) tops) [
        | inl one ↦ one
        | inr (a, b, in_a, in_b, differ, equal) ↦
            let b_in : IsNodeOf (tree_in q Objects) b = subst (λ (t : List (List Node)). IsNodeOf t b) (sym other) in_b in
            absurd (differ (held.no_clash a b (inr (Objects, in_a)) ((held.nodes b).0 ((also.nodes b).1 (inr (Objects, b_in)))) equal))
      ]

  pub one_publication : p.objects ≡ q.objects
  one_publication =
      same_objects p.objects q.objects
      (recursion_from_All IsElement p.objects held.is.published.set.elements)
      (recursion_from_All IsElement q.objects also.is.published.set.elements)
      (sym (objects_listed p held.is.published) ∙ one_entries ∙ objects_listed q also.is.published)
