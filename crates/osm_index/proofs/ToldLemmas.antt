-- What is told of a refusal over the nodes of a publication.
use Rattle.std.proofs.Common.{◌≡◌, ℕ, List, refl}
use Rattle.tree_build.specs.StrangeShelves.{cause_of}
use Rattle.tree_build.specs.declared.rebuild_fault.RebuildFault.{RebuildFault}
use Rattle.tree_build.specs.declared.rebuild_fault.RebuildFault.TheVariants as rebuilds
use Rattle.tree_node.specs.Outcomes.{RefusedFor}
use Rattle.tree_node.specs.Trees.{IsNodeOf}
use Rattle.tree_node.specs.declared.digest.Digest.{Digest}
use Rattle.tree_node.specs.declared.tree.Tree.{Tree}
use Rattle.osm_keys.specs.Manifests.{top_among}
use Rattle.osm_keys.specs.Publications.{Publication, tree_in}
use Rattle.osm_model.specs.Elements.{Element}
use Rattle.osm_index.specs.declared.apply_fault.ApplyFault.{ApplyFault}
use Rattle.osm_index.specs.declared.apply_fault.ApplyFault.TheVariants as faults
use Rattle.osm_index.specs.declared.update_fault.UpdateFault.{UpdateFault}
use Rattle.osm_index.specs.declared.update_fault.UpdateFault.TheVariants as updates
use Rattle.osm_index.specs.internal.ChangedTrees.{AreHeldTrees, HoldsChanging}
use Rattle.osm_index.specs.internal.Putting.{IsTreeNode}
use Rattle.osm_index.specs.internal.Updates.{RefusedBy, RefusesTrees, told_of}
use Rattle.osm_index.proofs.ChangeTreeLemmas.{one_of_four}

-- ---- of a tree that can't be read or rebuilt

module _ (needed held : List ℕ → Type 0) where
  pub told_by : (Refuses : ApplyFault → Type 0) → Refuses faults.Memory → (fault : RebuildFault) → RefusedFor needed held (cause_of fault) → RefusedBy Refuses needed held (told_of fault)
  told_by Refuses memory rebuilds.Missing is = is
  told_by Refuses memory rebuilds.NoTree is = is
  told_by Refuses memory rebuilds.Memory is = memory

  -- where all is held that is needed, memory alone refuses it
  pub memory_alone : ((x : List ℕ) → needed x → held x) → (fault : RebuildFault) → RefusedFor needed held (cause_of fault) → fault ≡ rebuilds.Memory
  memory_alone all rebuilds.Missing is = absurd (is.2 (all is.0 is.1))
  memory_alone all rebuilds.NoTree is = absurd is
  memory_alone all rebuilds.Memory is = refl

  -- and the changes alone are refused
  pub changes_alone : (Refuses : ApplyFault → Type 0) → ((x : List ℕ) → needed x → held x) → (fault : UpdateFault) → RefusedBy Refuses needed held fault → (refusal : ApplyFault) × (fault ≡ updates.Apply refusal)
  changes_alone Refuses all (updates.Apply fault) is = (fault, refl)
  changes_alone Refuses all updates.Missing is = absurd (is.2 (all is.0 is.1))
  changes_alone Refuses all updates.NoTree is = absurd is

-- ---- more refuses the changes, and more nodes are needed

pub told_more : (Refuses More : ApplyFault → Type 0) (needed all held : List ℕ → Type 0) → ((fault : ApplyFault) → Refuses fault → More fault) → ((x : List ℕ) → needed x → all x)
    → (fault : UpdateFault) → RefusedBy Refuses needed held fault → RefusedBy More all held fault
told_more Refuses More needed all held refuses more (updates.Apply fault) is = refuses fault is
told_more Refuses More needed all held refuses more updates.Missing is = (is.0, more is.0 is.1, is.2)
told_more Refuses More needed all held refuses more updates.NoTree is = is

-- a refusal over the nodes of one of the four trees is one over those of all
pub told_of_one : (p : Publication) (removed puts set : List Element) (tops : List Digest) (held there : List ℕ → Type 0) → AreHeldTrees p removed puts set tops held → (tree : Tree) (fault : UpdateFault)
    → (HoldsChanging p removed puts set tree (top_among tops tree) held → RefusedBy (RefusesTrees set) (IsNodeOf (tree_in p tree)) there fault) → RefusedBy (RefusesTrees set) (IsTreeNode p) there fault
told_of_one p removed puts set tops held there h tree fault told =
    told_more (RefusesTrees set) (RefusesTrees set) (IsNodeOf (tree_in p tree)) (IsTreeNode p) there (λ f is. is) (λ x is. (tree, is)) fault (told (one_of_four p removed puts set tops held h tree))
