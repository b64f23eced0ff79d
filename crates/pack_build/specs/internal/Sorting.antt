-- A publication whose entries were sorted.
-- Source: this project.
use Rattle.std.specs.Prelude.{◌≡◌, List}
use Rattle.osm_model.specs.Sets.{IsObjectSet}
use Rattle.osm_keys.specs.Entries.{AreEntriesOf}
use Rattle.osm_keys.specs.Grains.{Whole}
use Rattle.osm_keys.specs.declared.edition.Edition.{Edition}
use Rattle.osm_keys.specs.Publications.{Publication}
use Rattle.tree_node.specs.Nodes.{Binding}
use Rattle.tree_node.specs.declared.tree.Tree.{Tree}

-- the publication has a set of objects in this edition, and its entries are those that were taken
pub record IsSorted (p : Publication) (edition : Edition) (taken : Tree → List Binding) : Type 0 where
  pub set : IsObjectSet p.objects
  pub lists : (tree : Tree) → AreEntriesOf Whole p.objects tree (p.entries tree)
  pub edition_is : p.edition ≡ edition
  pub entries_are : (tree : Tree) → taken tree ≡ p.entries tree
