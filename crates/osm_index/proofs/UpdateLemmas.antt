-- The update by which one publication comes into the place of another.
use Rattle.std.proofs.Common.{◌≡◌, ◌≢◌, ◌↔◌, inl, inr, ℕ, ◌+◌, List, [], ◌∷◌, ◌++◌, refl, sym, ap, subst, ◌∙◌, arith}
use Rattle.std.proofs.lemmas.List.{map-append}
use Rattle.tree_build.specs.Rebuilding.{AreDifferent, IsAmong, digests_of, nodes_of}
use Rattle.tree_node.specs.declared.new_node.NewNode.{NewNode}
use Rattle.tree_node.specs.Digests.{digest}
use Rattle.tree_node.specs.Shelves.{IsClashFree}
use Rattle.tree_node.specs.declared.digest.Digest.{Digest}
use Rattle.osm_index.specs.Applying.{AreDigestsOfOnly, IsSecond, edition_after}
use Rattle.osm_keys.specs.Manifests.{HasSequence, manifest, top_among}
use Rattle.osm_keys.specs.Publications.{IsNodeIn, IsPublicationOf, Publication, manifest_of, root_of, top_in}
use Rattle.osm_index.specs.declared.changed_trees.ChangedTrees.{ChangedTrees}
use Rattle.osm_keys.specs.declared.edition.Edition.{Edition}
use Rattle.osm_keys.specs.declared.edition.Edition.TheVariants as editions
use Rattle.osm_index.specs.internal.ChangedTrees.{AreChangedTrees}
use Rattle.osm_index.specs.internal.Putting.{IsTreeNode}
use Rattle.osm_index.proofs.ChangeTreeLemmas.{different_parts}
use Rattle.osm_index.proofs.NodeChangeLemmas.{among_push}
use Rattle.osm_index.proofs.PutLemmas.{manifest_is}
use Rattle.osm_index.proofs.TreeNodes.{not_manifest}
use Rattle.osm_keys.proofs.shared.OneManifest.{same_edition}

module _ (p q : Publication) (edition : Edition) (is : IsPublicationOf q.objects edition q) (trees : ChangedTrees) (changed : AreChangedTrees p q trees) (unlike : manifest_of p ≢ manifest_of q) (free : IsClashFree (IsNodeIn p)) where
  pub manifest_same : manifest edition (top_among trees.tops) ≡ manifest_of q
  manifest_same = manifest_is q q.objects edition is trees.tops changed.tops_are

  not_new : (x : List ℕ) → IsTreeNode p x → ¬ (x ≡ manifest_of q)
  not_new x (tree, n) e = not_manifest p tree q.edition (top_in q) x n e

  not_old : (x : List ℕ) → IsTreeNode q x → ¬ (x ≡ manifest_of p)
  not_old x (tree, n) e = not_manifest q tree p.edition (top_in p) x n e

  own_manifest : (x : List ℕ) → IsTreeNode p x → ¬ (x ≡ manifest_of p)
  own_manifest x (tree, n) e = not_manifest p tree p.edition (top_in p) x n e

  new_manifest : (x : List ℕ) → IsTreeNode q x → ¬ (x ≡ manifest_of q)
  new_manifest x (tree, n) e = not_manifest q tree q.edition (top_in q) x n e

  module _ (node : NewNode) (bytes_are : node.bytes.items ≡ manifest_of q) (nodes : List NewNode) (nodes_are : nodes ≡ trees.added.items ++ node ∷ []) where
    listed : nodes_of nodes ≡ nodes_of trees.added.items ++ manifest_of q ∷ []
    listed = ap nodes_of nodes_are ∙ map-append (λ (n : NewNode). n.bytes.items) trees.added.items (node ∷ []) ∙ ap (λ (m : List ℕ). nodes_of trees.added.items ++ m ∷ []) bytes_are

    pub nodes_come : (x : List ℕ) → IsAmong (nodes_of nodes) x ↔ (IsNodeIn q x × ¬ IsNodeIn p x)
    nodes_come x =
        let among = among_push (nodes_of trees.added.items) (manifest_of q) x in (
          (λ h. elim (among.0 (subst (λ (ks : List (List ℕ)). IsAmong ks x) listed h)) [
            | inl added ↦ let new = (changed.added x).0 added in (inr new.0, λ old. elim old [ inl e ↦ not_old x new.0 e | inr tree ↦ new.1 tree ])
            | inr e ↦ (inl e, λ old. elim old [ inl f ↦ unlike (sym f ∙ e) | inr tree ↦ not_new x tree e ])
          ]),
          (λ (new, isnt). subst (λ (ks : List (List ℕ)). IsAmong ks x) (sym listed) (among.1 (elim new [
            | inl e ↦ inr e
            | inr tree ↦ inl ((changed.added x).1 (tree, λ old. isnt (inr old)))
          ]))),
        )

    pub nodes_once : AreDifferent (nodes_of nodes)
    nodes_once = subst AreDifferent (sym listed) (different_parts (nodes_of trees.added.items) (manifest_of q ∷ []) changed.added_once ((λ never. never), tt)
        (λ x added last. elim last [ inl e ↦ new_manifest x ((changed.added x).0 added).0 e | inr never ↦ never ]))

  module _ (root : Digest) (root_is : root.0 ≡ root_of p) (digests : List Digest) (digests_are : digests ≡ trees.gone.items ++ root ∷ []) where
    digests_listed : digests_of digests ≡ digests_of trees.gone.items ++ root_of p ∷ []
    digests_listed = ap digests_of digests_are ∙ map-append (λ (d : Digest). d.0) trees.gone.items (root ∷ []) ∙ ap (λ (k : List ℕ). digests_of trees.gone.items ++ k ∷ []) root_is

    pub digests_go : AreDigestsOfOnly p q (digests_of digests)
    digests_go = record {
      members = λ key.
          let among = among_push (digests_of trees.gone.items) (root_of p) key in (
            (λ h. elim (among.0 (subst (λ (ks : List (List ℕ)). IsAmong ks key) digests_listed h)) [
              | inl gone ↦
                  let (x, was, isnt, e) = (changed.gone key).0 gone in
                  (x, inr was, (λ new. elim new [ inl f ↦ not_new x was f | inr tree ↦ isnt tree ]), e)
              | inr e ↦ (manifest_of p, inl refl, (λ new. elim new [ inl f ↦ unlike f | inr tree ↦ not_old (manifest_of p) tree refl ]), e)
            ]),
            (λ (x, was, isnt, e). subst (λ (ks : List (List ℕ)). IsAmong ks key) (sym digests_listed) (among.1 (elim was [
              | inl f ↦ inr (e ∙ ap digest f)
              | inr tree ↦ inl ((changed.gone key).1 (x, tree, (λ new. isnt (inr new)), e))
            ]))),
          );
      once = subst AreDifferent (sym digests_listed) (different_parts (digests_of trees.gone.items) (root_of p ∷ []) changed.gone_once ((λ never. never), tt)
          (λ key gone last. elim last [
            | inl e ↦
                let (x, was, isnt, f) = (changed.gone key).0 gone in
                own_manifest x was (free x (manifest_of p) (inr was) (inl refl) (sym f ∙ e))
            | inr never ↦ never
          ]));
    }

-- ---- the manifest of the next sequence is another

next_differs : (edition : Edition) → IsSecond edition → edition ≢ edition_after edition
next_differs editions.One is e = is
next_differs (editions.Two sequence) is e = let same : sequence ≡ sequence + 1 = Prim.cc in omega (arith, same)

pub manifests_unlike : (p q : Publication) → IsSecond p.edition → HasSequence p.edition → HasSequence q.edition → q.edition ≡ edition_after p.edition → manifest_of p ≢ manifest_of q
manifests_unlike p q second fits fits_too next e = next_differs p.edition second (same_edition p.edition q.edition (top_in p) (top_in q) fits fits_too e ∙ next)
