-- What changes make of a publication is one.
use Rattle.std.proofs.Common.{◌≡◌, ◌∙◌, inl, inr, ℕ, List, ap, sym, refl, subst}
use Rattle.std.specs.Prelude.{Ok}
use Rattle.opl_codec.specs.declared.change.Change.{Change}
use Rattle.osm_model.specs.Elements.{Element}
use Rattle.osm_model.specs.declared.reference.Ref.{Ref}
use Rattle.tree_node.specs.Digests.{digest}
use Rattle.tree_node.specs.NodeRefs.{number_of}
use Rattle.tree_node.specs.Nodes.{Binding}
use Rattle.tree_node.specs.Trees.{IsNodeOf, levels, top_of}
use Rattle.tree_node.specs.declared.tree.Tree.{Tree}
use Rattle.tree_node.specs.declared.tree.Tree.TheVariants.{Backs, Cells, Objects, Tags}
use Rattle.osm_index.proofs.shared.ChangeLaws.{one_applied}
use Rattle.osm_keys.proofs.shared.OnePublication.{not_too_many, same_entries, same_root}
use Rattle.osm_index.specs.Applying.{IsApplied, IsNodeOfEither, edition_after}
use Rattle.osm_keys.specs.Manifests.{manifest}
use Rattle.osm_keys.specs.Publications.{HasTooMany, IsNodeIn, IsPublication, Publication, manifest_of, root_of, shape_of, top_in, tree_in}
use Rattle.osm_index.specs.declared.apply_fault.ApplyFault.{ApplyFault}
use Rattle.osm_index.specs.declared.apply_fault.ApplyFault.TheVariants as faults
use Rattle.osm_keys.specs.declared.edition.Edition.{Edition}
use Rattle.osm_desk.specs.Made.{IsChanged, IsMade, IsRefused}
use Rattle.osm_desk.proofs.RefusalLemmas.{not_missing, not_twice, one_missing, one_twice}

module _ (p : Publication) (all : List Change) where
  same_objects : (q r : Publication) → IsChanged p all q → IsChanged p all r → q.objects ≡ r.objects
  same_objects q r is are = one_applied p.objects q.objects r.objects all is.applied are.applied

  same_edition : (q r : Publication) → IsChanged p all q → IsChanged p all r → q.edition ≡ r.edition
  same_edition q r is are = is.published.same_edition ∙ sym are.published.same_edition

  pub one_made : (q r : Publication) → IsMade p all (Ok q) → IsMade p all (Ok r) → (q.objects ≡ r.objects) × (q.edition ≡ r.edition) × (root_of q ≡ root_of r)
  one_made q r is are =
      let objects = same_objects q r is.1 are.1 in
      let edition = same_edition q r is.1 are.1 in
      (objects, edition, same_root q r is.1.published.published are.1.published.published objects edition)

-- ---- the nodes of two publications of one set in one edition

manifest_same : (edition : Edition) (t u : Tree → List ℕ) → ((tree : Tree) → t tree ≡ u tree) → manifest edition t ≡ manifest edition u
unfolding manifest
manifest_same edition t u same = rw (same Objects, same Tags, same Cells, same Backs) refl

module _ (q r : Publication) (is : IsPublication q) (are : IsPublication r) (objects : q.objects ≡ r.objects) (edition : q.edition ≡ r.edition) where
  same_tree : (tree : Tree) → tree_in q tree ≡ tree_in r tree
  same_tree tree =
      ap (λ (e : Edition). levels (shape_of e) (number_of tree) (q.entries tree)) edition
      ∙ ap (λ (entries : List Binding). levels (shape_of r.edition) (number_of tree) entries) (same_entries q r is are objects tree)

  same_manifest : manifest_of q ≡ manifest_of r
  same_manifest =
      ap (λ (e : Edition). manifest e (top_in q)) edition
      ∙ manifest_same r.edition (top_in q) (top_in r) (λ tree. ap (λ t. digest (top_of t)) (same_tree tree))

  pub same_nodes : (bytes : List ℕ) → IsNodeIn q bytes → IsNodeIn r bytes
  same_nodes bytes (inl e) = inl (e ∙ same_manifest)
  same_nodes bytes (inr (tree, node)) = inr (tree, subst (λ t. IsNodeOf t bytes) (same_tree tree) node)

-- ---- a refusal and a publication

-- a set that has a publication hasn't too many entries
few : (p : Publication) (all : List Change) (q : Publication) (set : List Element) → IsChanged p all q → IsApplied p.objects all set → HasTooMany set → ⊥
few p all q set is applied many =
    not_too_many q.objects (edition_after p.edition) q is.published (subst HasTooMany (one_applied p.objects set q.objects all applied is.applied) many)

pub not_both : (p : Publication) (all : List Change) (q : Publication) (fault : ApplyFault) → IsMade p all (Ok q) → IsRefused p all fault → ⊥
not_both p all q faults.LastSequence is refused = is.0.before_last refused
not_both p all q (faults.ChangedTwice r) is refused = not_twice all r is.0.apart refused.1
not_both p all q (faults.NotThere r) is refused = not_missing p.objects all r is.0.there refused.2
not_both p all q faults.TooMany is (fine, (set, applied, many)) = few p all q set is.1 applied many
not_both p all q faults.Clash is (fine, (r, are, (x, y, here, there, differ, one))) =
    differ (is.2 x y (either x here) (either y there) one)
  where
    either : (bytes : List ℕ) → IsNodeOfEither p r bytes → IsNodeOfEither p q bytes
    either bytes (inl old) = inl old
    either bytes (inr new) = inr (same_nodes r q are.published.published is.1.published.published (same_objects p all r q are is.1) (same_edition p all r q are is.1) bytes new)
not_both p all q faults.Memory is refused = refused

-- ---- two refusals

pub one_refusal : (p : Publication) (all : List Change) (fault other : ApplyFault) → IsRefused p all fault → IsRefused p all other → fault ≡ other
one_refusal p all faults.LastSequence faults.LastSequence is are = refl
one_refusal p all faults.LastSequence (faults.ChangedTwice r) is are = absurd (are.0 is)
one_refusal p all faults.LastSequence (faults.NotThere r) is are = absurd (are.0 is)
one_refusal p all faults.LastSequence faults.TooMany is are = absurd (are.0.before_last is)
one_refusal p all faults.LastSequence faults.Clash is are = absurd (are.0.before_last is)
one_refusal p all (faults.ChangedTwice r) faults.LastSequence is are = absurd (is.0 are)
one_refusal p all (faults.ChangedTwice r) (faults.ChangedTwice s) is are = ap (λ (r : Ref). faults.ChangedTwice r) (one_twice all r s is.1 are.1)
one_refusal p all (faults.ChangedTwice r) (faults.NotThere s) is are = absurd (not_twice all r are.1 is.1)
one_refusal p all (faults.ChangedTwice r) faults.TooMany is are = absurd (not_twice all r are.0.apart is.1)
one_refusal p all (faults.ChangedTwice r) faults.Clash is are = absurd (not_twice all r are.0.apart is.1)
one_refusal p all (faults.NotThere r) faults.LastSequence is are = absurd (is.0 are)
one_refusal p all (faults.NotThere r) (faults.ChangedTwice s) is are = absurd (not_twice all s is.1 are.1)
one_refusal p all (faults.NotThere r) (faults.NotThere s) is are = ap (λ (r : Ref). faults.NotThere r) (one_missing p.objects all r s is.2 are.2)
one_refusal p all (faults.NotThere r) faults.TooMany is are = absurd (not_missing p.objects all r are.0.there is.2)
one_refusal p all (faults.NotThere r) faults.Clash is are = absurd (not_missing p.objects all r are.0.there is.2)
one_refusal p all faults.TooMany faults.LastSequence is are = absurd (is.0.before_last are)
one_refusal p all faults.TooMany (faults.ChangedTwice s) is are = absurd (not_twice all s is.0.apart are.1)
one_refusal p all faults.TooMany (faults.NotThere s) is are = absurd (not_missing p.objects all s is.0.there are.2)
one_refusal p all faults.TooMany faults.TooMany is are = refl
one_refusal p all faults.TooMany faults.Clash (fine, (set, applied, many)) are = absurd (few p all are.1.0 set are.1.1 applied many)
one_refusal p all faults.Clash faults.LastSequence is are = absurd (is.0.before_last are)
one_refusal p all faults.Clash (faults.ChangedTwice s) is are = absurd (not_twice all s is.0.apart are.1)
one_refusal p all faults.Clash (faults.NotThere s) is are = absurd (not_missing p.objects all s is.0.there are.2)
one_refusal p all faults.Clash faults.TooMany is (fine, (set, applied, many)) = absurd (few p all is.1.0 set is.1.1 applied many)
one_refusal p all faults.Clash faults.Clash is are = refl
one_refusal p all fault faults.Memory is are = absurd are
one_refusal p all faults.Memory other is are = absurd is
