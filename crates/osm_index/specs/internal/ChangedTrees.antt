-- How the four trees of a set of objects change with the set.
-- Source: this project.
use Rattle.std.specs.List.{Contains}
use Rattle.std.specs.Prelude.{◌≡◌, ◌↔◌, ◌⊎◌, ◌≤◌, ℕ, List, None, length}
use Rattle.osm_model.specs.Elements.{Element, reference}
use Rattle.osm_model.specs.Sets.{IsObjectSet}
use Rattle.tree_build.specs.Changing.{Change}
use Rattle.tree_build.specs.Rebuilding.{AreDifferent, IsAmong, IsRebuilt, changed_entries, changes_of, digests_of, keys_of_changes, nodes_of}
use Rattle.tree_build.specs.declared.rebuilt.Rebuilt.{Rebuilt}
use Rattle.tree_node.specs.Digests.{digest}
use Rattle.tree_node.specs.NodeRefs.{number_of}
use Rattle.tree_node.specs.Nodes.{AreRisingFrom, Binding}
use Rattle.tree_node.specs.Trees.{Two, levels}
use Rattle.tree_node.specs.declared.digest.Digest.{Digest}
use Rattle.tree_node.specs.declared.limits.TheConstants.{ENTRY_LIMIT}
use Rattle.tree_node.specs.declared.tree.Tree.{Tree}
use Rattle.tree_node.specs.declared.tree.Tree.TheVariants.{Objects, Tags, Cells, Backs}
use Rattle.osm_index.specs.Applying.{IsSecond}
use Rattle.osm_keys.specs.Entries.{AreEntriesOf}
use Rattle.osm_keys.specs.Grains.{Whole}
use Rattle.osm_keys.specs.Manifests.{top_among}
use Rattle.osm_keys.specs.Publications.{IsPublication, Publication, top_in}
use Rattle.osm_index.specs.declared.changed_trees.ChangedTrees.{ChangedTrees}
use Rattle.osm_index.specs.declared.tree_changes.TreeChanges.{TreeChanges}
use Rattle.osm_index.specs.internal.HeldTrees.{HoldsTree}
use Rattle.osm_index.specs.internal.Putting.{IsTreeNode}

-- ---- the set

-- The new set has those put in place of these old ones. Where one that is put has the reference of an object of the set,
-- that object is one of these old ones.
pub record IsChangedSet (objects removed puts new : List Element) : Type 0 where
  pub set : IsObjectSet new
  pub there : (o : Element) → Contains removed o → Contains objects o
  pub apart : (o x : Element) → Contains puts o → Contains objects x → reference x ≡ reference o → Contains removed x
  pub members : (o : Element) → Contains new o ↔ (Contains puts o ⊎ (Contains objects o × ¬ Contains removed o))

-- ---- one tree

-- the set holds a tree of the second edition, and this is what its set of objects becomes
pub record HoldsChanging (p : Publication) (removed puts set : List Element) (tree : Tree) (top : List ℕ) (held : List ℕ → Type 0) : Type 0 where
  pub holds : HoldsTree p tree top held
  pub second : IsSecond p.edition
  pub changed_set : IsChangedSet p.objects removed puts set

-- what became of one tree: the tree of the new set, whose entries are few enough
pub record IsChangedTree (set : List Element) (tree : Tree) (old new : List Binding) (rebuilt : Rebuilt) : Type 0 where
  pub are : AreEntriesOf Whole set tree new
  pub few : length new ≤ ENTRY_LIMIT
  pub is : IsRebuilt (levels Two (number_of tree) old) (levels Two (number_of tree) new) rebuilt

-- how the entries of a tree change with the set: their keys rise, and what the changed entries are
pub record IsChangeOf (p : Publication) (set : List Element) (tree : Tree) (changes : List (Change Binding)) : Type 0 where
  pub rising : AreRisingFrom None (keys_of_changes changes)
  pub few : length (changed_entries (p.entries tree) changes) ≤ ENTRY_LIMIT
  pub are : AreEntriesOf Whole set tree (changed_entries (p.entries tree) changes)

-- ---- all four

-- so of each tree
pub record AreChangesOf (p : Publication) (set : List Element) (changes : TreeChanges) : Type 0 where
  pub objects : IsChangeOf p set Objects (changes_of changes.objects.items)
  pub tags : IsChangeOf p set Tags (changes_of changes.tags.items)
  pub cells : IsChangeOf p set Cells (changes_of changes.cells.items)
  pub backs : IsChangeOf p set Backs (changes_of changes.backs.items)

-- The set holds the trees of the publication, which is of the second edition, and whose tops have these digests. This is
-- what its set of objects becomes.
pub record AreHeldTrees (p : Publication) (removed puts set : List Element) (tops : List Digest) (held : List ℕ → Type 0) : Type 0 where
  pub published : IsPublication p
  pub second : IsSecond p.edition
  pub tops_are : (tree : Tree) → top_among tops tree ≡ top_in p tree
  pub nodes : (bytes : List ℕ) → IsTreeNode p bytes → held bytes
  pub changed_set : IsChangedSet p.objects removed puts set

-- what became of them: the tops of the new ones, the nodes that come and the digests of those that go, each once
pub record AreChangedTrees (p q : Publication) (trees : ChangedTrees) : Type 0 where
  pub tops_are : (tree : Tree) → top_among trees.tops tree ≡ top_in q tree
  pub added : (bytes : List ℕ) → IsAmong (nodes_of trees.added.items) bytes ↔ (IsTreeNode q bytes × ¬ IsTreeNode p bytes)
  pub added_once : AreDifferent (nodes_of trees.added.items)
  pub gone : (key : List ℕ) → IsAmong (digests_of trees.gone.items) key ↔ ((bytes : List ℕ) × IsTreeNode p bytes × ¬ IsTreeNode q bytes × (key ≡ digest bytes))
  pub gone_once : AreDifferent (digests_of trees.gone.items)
