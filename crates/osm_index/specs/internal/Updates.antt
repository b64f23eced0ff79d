-- What changes make of a publication, before the stock is changed, and why they make nothing of it.
-- Source: this project.
use Rattle.std.specs.Prelude.{◌≡◌, ◌↔◌, ℕ, List, map, ⊤}
use Rattle.opl_codec.specs.declared.change.Change.{Change}
use Rattle.osm_model.specs.Elements.{Element}
use Rattle.tree_build.specs.Rebuilding.{AreDifferent, IsAmong, digests_of, nodes_of}
use Rattle.osm_keys.specs.declared.edition.Edition.{Edition}
use Rattle.tree_node.specs.declared.new_node.NewNode.{NewNode}
use Rattle.tree_node.specs.declared.tree.Tree.{Tree}
use Rattle.osm_index.specs.Applying.{AreApart, AreApplicable, AreDigestsOfOnly, IsApplied, IsFirstMissing, IsFirstTwice, IsLast, IsSecond, edition_after}
use Rattle.osm_keys.specs.Manifests.{HasSequence, manifest_bytes, top_among}
use Rattle.osm_keys.specs.declared.manifest.Manifest.{Manifest}
use Rattle.osm_keys.specs.Publications.{HasTooMany, IsNodeIn, IsPublication, IsPublicationOf, Publication, manifest_of, root_of, top_in}
use Rattle.osm_index.specs.declared.apply_fault.ApplyFault.{ApplyFault}
use Rattle.osm_index.specs.declared.apply_fault.ApplyFault.TheVariants as faults
use Rattle.osm_index.specs.declared.update.Update.{Update}
use Rattle.osm_index.specs.declared.update_plan.UpdatePlan.{UpdatePlan}
use Rattle.osm_index.specs.internal.ChangedTrees.{AreChangesOf, IsChangedSet}
use Rattle.osm_index.specs.internal.Putting.{IsTreeNode}
use Rattle.tree_node.specs.Outcomes.{NodeMissing, RefusedFor}
use Rattle.tree_build.specs.declared.rebuild_fault.RebuildFault.{RebuildFault}
use Rattle.tree_build.specs.declared.rebuild_fault.RebuildFault.TheVariants as rebuilds
use Rattle.osm_index.specs.declared.update_fault.UpdateFault.{UpdateFault}
use Rattle.osm_index.specs.declared.update_fault.UpdateFault.TheVariants as updates

-- the edition at the next sequence comes after the other one, and the sequences of both fit
pub record IsNext (edition next : Edition) : Type 0 where
  pub second : IsSecond edition
  pub is : next ≡ edition_after edition
  pub not_last : ¬ IsLast edition
  pub fits : HasSequence edition
  pub fits_too : HasSequence next

-- the update makes of the one publication the other: its manifest, its root, the nodes that come and the digests of those
-- that go
pub record IsUpdate (p q : Publication) (update : Update) : Type 0 where
  pub is : IsPublicationOf q.objects update.manifest.edition q
  pub manifest : manifest_bytes update.manifest ≡ manifest_of q
  pub tops : (tree : Tree) → top_among update.manifest.tops tree ≡ top_in q tree
  pub root : update.root.0 ≡ root_of q
  pub nodes : (bytes : List ℕ) → IsAmong (nodes_of update.nodes.items) bytes ↔ (IsNodeIn q bytes × ¬ IsNodeIn p bytes)
  pub once : AreDifferent (nodes_of update.nodes.items)
  pub added : update.added.items ≡ map (λ (node : NewNode). node.digest) update.nodes.items
  pub gone : AreDigestsOfOnly p q (digests_of update.gone.items)

-- the update makes of the publication one of the changed set at the next sequence
abbrev pub IsUpdateBy : Publication → List Change → Update → Type 0
IsUpdateBy p all update = (q : Publication) × IsApplied p.objects all q.objects × (q.edition ≡ edition_after p.edition) × IsUpdate p q update × AreApplicable p.objects p.edition all

-- a refusal of the changes, before the stock is changed
abbrev pub RefusesUpdate : Publication → List Change → ApplyFault → Type 0
RefusesUpdate p all faults.LastSequence = IsLast p.edition
RefusesUpdate p all (faults.ChangedTwice r) = (¬ IsLast p.edition) × IsFirstTwice all r
RefusesUpdate p all (faults.NotThere r) = (¬ IsLast p.edition) × AreApart all × IsFirstMissing p.objects all r
RefusesUpdate p all faults.TooMany = AreApplicable p.objects p.edition all × ((set : List Element) × IsApplied p.objects all set × HasTooMany set)
RefusesUpdate p all faults.Clash = ⊥
RefusesUpdate p all faults.Memory = ⊤

-- the publication's trees are under this manifest, and the set holds their nodes
pub record IsUnder (p : Publication) (manifest : Manifest) (held : List ℕ → Type 0) : Type 0 where
  pub published : IsPublication p
  pub same_edition : p.edition ≡ manifest.edition
  pub tops_are : (tree : Tree) → top_among manifest.tops tree ≡ top_in p tree
  pub nodes : (bytes : List ℕ) → IsTreeNode p bytes → held bytes

-- the plan turns the publication into one of the changed set at the next sequence
pub record IsPlanOf (p : Publication) (all : List Change) (plan : UpdatePlan) : Type 0 where
  pub removed : List Element
  pub puts : List Element
  pub set : List Element
  pub applied : IsApplied p.objects all set
  pub applicable : AreApplicable p.objects p.edition all
  pub changed_set : IsChangedSet p.objects removed puts set
  pub next : IsNext p.edition plan.edition
  pub changes : AreChangesOf p set plan.changes

-- ---- refusals over a shelf

-- what is told of a tree that can't be read or rebuilt
abbrev pub told_of : RebuildFault → UpdateFault
told_of rebuilds.Missing = updates.Missing
told_of rebuilds.NoTree = updates.NoTree
told_of rebuilds.Memory = updates.Apply faults.Memory

-- a refusal over the nodes of a publication: for the changes, or one of the nodes isn't held
abbrev pub RefusedBy : (ApplyFault → Type 0) → (List ℕ → Type 0) → (List ℕ → Type 0) → UpdateFault → Type 0
RefusedBy Refuses needed held (updates.Apply fault) = Refuses fault
RefusedBy Refuses needed held updates.Missing = RefusedFor needed held NodeMissing
RefusedBy Refuses needed held updates.NoTree = ⊥

-- a refusal of the changes of trees
abbrev pub RefusesTrees : List Element → ApplyFault → Type 0
RefusesTrees set faults.LastSequence = ⊥
RefusesTrees set (faults.ChangedTwice r) = ⊥
RefusesTrees set (faults.NotThere r) = ⊥
RefusesTrees set faults.TooMany = HasTooMany set
RefusesTrees set faults.Clash = ⊥
RefusesTrees set faults.Memory = ⊤
