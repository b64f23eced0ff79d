-- How trees are put into a stock.
-- Source: this project.
use Rattle.std.specs.Prelude.{◌≡◌, ℕ, ◌<◌, ◌≤◌, ◌^◌, List, length, ◌⊎◌, Option, Some, None, Result, Ok, Err, ⊤}
use Rattle.light_index.specs.LightPublications.{HasTooManyLight, IsLightPublicationOf, IsLightTreeNode, LightPublication, light_top_in}
use Rattle.osm_index.specs.declared.fault.IndexFault.{IndexFault}
use Rattle.osm_index.specs.declared.fault.IndexFault.TheVariants as faults
use Rattle.osm_index.specs.internal.Putting.{Ended}
use Rattle.osm_keys.specs.Entries.{AreEntriesOf}
use Rattle.osm_keys.specs.Grains.{Lines}
use Rattle.osm_keys.specs.Manifests.{top_among}
use Rattle.osm_model.specs.Elements.{Element}
use Rattle.tree_node.specs.NodeRefs.{number_of}
use Rattle.tree_node.specs.Nodes.{Binding}
use Rattle.tree_node.specs.Outcomes.{GrownByAll}
use Rattle.tree_node.specs.Outcomes as outcomes
use Rattle.tree_node.specs.Trees.{IsNodeOf, Two, levels}
use Rattle.tree_node.specs.declared.digest.Digest.{Digest}
use Rattle.tree_node.specs.declared.limits.TheConstants.{ENTRY_LIMIT}
use Rattle.tree_node.specs.declared.stock.PutFault.{PutFault}
use Rattle.tree_node.specs.declared.stock.PutFault.TheVariants as puts
use Rattle.tree_node.specs.declared.tree.Tree.{Tree}

-- a refused node refuses the snapshot
abbrev pub fault_of_put : PutFault → IndexFault
fault_of_put puts.Clash = faults.Clash
fault_of_put puts.Memory = faults.Memory

-- a tree of the objects was put into a stock, or two nodes clash
pub record HasPut (objects : List Element) (tree : Tree) (old new : List ℕ → Type 0) (top : Option Digest) : Type 0 where
  pub entries : List Binding
  pub are : AreEntriesOf Lines objects tree entries
  pub few : length entries ≤ ENTRY_LIMIT
  pub only : (bytes : List ℕ) → new bytes → old bytes ⊎ IsNodeOf (levels Two (number_of tree) entries) bytes
  pub ended : Ended old new (levels Two (number_of tree) entries) top

-- a refusal of a tree: there are too many entries, or memory ran out
abbrev pub RefusesTrees : List Element → IndexFault → Type 0
RefusesTrees objects faults.Clash = ⊥
RefusesTrees objects faults.TooMany = HasTooManyLight objects
RefusesTrees objects faults.Memory = ⊤

abbrev pub EndsTree : List Element → Tree → (List ℕ → Type 0) → (List ℕ → Type 0) → Result (Option Digest) IndexFault → Type 0
EndsTree objects tree old new (Ok top) = HasPut objects tree old new top
EndsTree objects tree old new (Err fault) = RefusesTrees objects fault

-- all four trees were put, or two of their nodes clash
abbrev pub EndedAll : LightPublication → (List ℕ → Type 0) → Option (List Digest) → Type 0
EndedAll p held None = outcomes.Clash (IsLightTreeNode p) (IsLightTreeNode p)
EndedAll p held (Some tops) = ((tree : Tree) → top_among tops tree ≡ light_top_in p tree) × GrownByAll (λ _. ⊥) held (IsLightTreeNode p)

-- at each sequence the trees are those of a publication of the objects
abbrev pub EndsTrees : List Element → (List ℕ → Type 0) → Result (Option (List Digest)) IndexFault → Type 0
EndsTrees objects held (Ok tops) = (sequence : ℕ) → sequence < 2 ^ 64 → (p : LightPublication) × IsLightPublicationOf objects sequence p × EndedAll p held tops
EndsTrees objects held (Err fault) = RefusesTrees objects fault
