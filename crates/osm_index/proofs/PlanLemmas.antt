-- What changes make of a publication whose trees are under a manifest.
use Rattle.std.proofs.Common.{◌≢◌, ℕ, List, refl, sym, subst, ◌∙◌}
use Rattle.opl_codec.specs.declared.change.Change.{Change}
use Rattle.osm_model.specs.Elements.{Element}
use Rattle.tree_build.specs.StrangeShelves.{HasNoTwin}
use Rattle.tree_node.specs.declared.tree.Tree.{Tree}
use Rattle.osm_keys.specs.Manifests.{HasSequence, top_among}
use Rattle.osm_keys.specs.Publications.{IsPublicationOf, Publication, manifest_of}
use Rattle.osm_keys.specs.declared.edition.Edition.{Edition}
use Rattle.osm_keys.specs.declared.manifest.Manifest.{Manifest}
use Rattle.osm_index.specs.Applying.{AreApplicable, IsApplied, edition_after}
use Rattle.osm_index.specs.declared.apply_fault.ApplyFault.{ApplyFault}
use Rattle.osm_index.specs.declared.apply_fault.ApplyFault.TheVariants as faults
use Rattle.osm_index.specs.declared.object_changes.ObjectChanges.{ObjectChanges}
use Rattle.osm_index.specs.declared.tree_changes.TreeChanges.{TreeChanges}
use Rattle.osm_index.specs.declared.update.Update.{Update}
use Rattle.osm_index.specs.declared.update_plan.UpdatePlan.{UpdatePlan}
use Rattle.osm_index.specs.internal.Applying.{AreObjectChangesOf, RefusesChanges}
use Rattle.osm_index.specs.internal.ChangedTrees.{AreChangesOf, AreHeldTrees, IsChangedSet}
use Rattle.osm_index.specs.internal.HeldTrees.{HoldsTree}
use Rattle.osm_index.specs.internal.Updates.{IsNext, IsPlanOf, IsUnder, IsUpdate, IsUpdateBy, RefusesTrees, RefusesUpdate}
use Rattle.osm_index.proofs.AppliedLemmas.{applied, some_changed_set}
use Rattle.osm_index.proofs.UpdateLemmas.{manifests_unlike}

-- trees of whose nodes none has a twin among some have none among fewer
pub under_before : (p : Publication) (manifest : Manifest) (few many : List ℕ → Type 0) → ((x : List ℕ) → few x → many x) → IsUnder p manifest (HasNoTwin many) → IsUnder p manifest (HasNoTwin few)
under_before p manifest few many more under = record {
  published = under.published;
  same_edition = under.same_edition;
  tops_are = under.tops_are;
  nodes = λ x is other uses same. under.nodes x is other (more other uses) same;
}

module _ (p : Publication) (manifest : Manifest) (held : List ℕ → Type 0) (under : IsUnder p manifest held) where
  pub tree_under : (tree : Tree) → HoldsTree p tree (top_among manifest.tops tree) held
  tree_under tree = record { published = under.published; is_top = under.tops_are tree; nodes = λ x is. under.nodes x (tree, is) }

  trees_under : (next : Edition) → IsNext p.edition next → (removed puts set : List Element) → IsChangedSet p.objects removed puts set → AreHeldTrees p removed puts set manifest.tops held
  trees_under next after removed puts set is = record { published = under.published; second = after.second; tops_are = under.tops_are; nodes = under.nodes; changed_set = is }

  -- ---- the plan

  module _ (next : Edition) (after_it : IsNext manifest.edition next) (all : List Change) where
    after : IsNext p.edition next
    after = subst (λ (e : Edition). IsNext e next) (sym under.same_edition) after_it

    -- what refuses the changes before the trees are looked at
    pub refused_changes : (fault : ApplyFault) → RefusesChanges p.objects all fault → RefusesUpdate p all fault
    refused_changes faults.LastSequence is = absurd is
    refused_changes (faults.ChangedTwice r) is = (after.not_last, is)
    refused_changes (faults.NotThere r) is = (after.not_last, is.0, is.1)
    refused_changes faults.TooMany is = absurd is
    refused_changes faults.Clash is = is
    refused_changes faults.Memory is = tt

    module _ (changes : ObjectChanges) (is : AreObjectChangesOf p.objects all changes) where
      changed : (new : List Element) × IsChangedSet p.objects changes.removed changes.puts new
      changed = some_changed_set p.objects under.published.set all changes is

      pub changing : (new : List Element) × AreHeldTrees p changes.removed changes.puts new manifest.tops held
      changing = (changed.0, trees_under next after changes.removed changes.puts changed.0 changed.1)

      applicable : AreApplicable p.objects p.edition all
      applicable = record { before_last = after.not_last; apart = is.apart; there = is.there }

      module _ (set : List Element) (are : AreHeldTrees p changes.removed changes.puts set manifest.tops held) where
        applied_too : IsApplied p.objects all set
        applied_too = applied p.objects under.published.set all changes is set are.changed_set

        pub planned : (trees : TreeChanges) → AreChangesOf p set trees → IsPlanOf p all (record { edition = next; changes = trees })
        planned trees so = record {
          removed = changes.removed;
          puts = changes.puts;
          set = set;
          applied = applied_too;
          applicable = applicable;
          changed_set = are.changed_set;
          next = after;
          changes = so;
        }

        -- what refuses the trees
        pub refused_trees : (fault : ApplyFault) → RefusesTrees set fault → RefusesUpdate p all fault
        refused_trees faults.LastSequence many = absurd many
        refused_trees (faults.ChangedTwice r) many = absurd many
        refused_trees (faults.NotThere r) many = absurd many
        refused_trees faults.TooMany many = (applicable, (set, applied_too, many))
        refused_trees faults.Clash many = many
        refused_trees faults.Memory many = tt

  -- ---- what is planned

  module _ (all : List Change) (plan : UpdatePlan) (is : IsPlanOf p all plan) where
    pub plan_trees : AreHeldTrees p is.removed is.puts is.set manifest.tops held
    plan_trees = trees_under plan.edition is.next is.removed is.puts is.set is.changed_set

module _ (p : Publication) (all : List Change) (plan : UpdatePlan) (is : IsPlanOf p all plan) (q : Publication) (is_q : IsPublicationOf is.set (edition_after p.edition) q) where
  pub published_next : IsPublicationOf q.objects plan.edition q
  published_next = record { published = is_q.published; same_objects = refl; same_edition = is_q.same_edition ∙ sym is.next.is }

  pub unlike : manifest_of p ≢ manifest_of q
  unlike = manifests_unlike p q is.next.second is.next.fits (subst HasSequence (is.next.is ∙ sym is_q.same_edition) is.next.fits_too) is_q.same_edition

  pub updates : (update : Update) → IsUpdate p q update → IsUpdateBy p all update
  updates update is_update = (q, subst (λ (os : List Element). IsApplied p.objects all os) (sym is_q.same_objects) is.applied, is_q.same_edition, is_update, is.applicable)
