-- What sorters of entries hold.
-- Source: this project.
use Rattle.std.specs.List.{Contains}
use Rattle.std.specs.Prelude.{◌↔◌, ℕ, List, map}
use Rattle.osm_keys.specs.Entries.{IsEntryOfSome}
use Rattle.osm_keys.specs.Grains.{Whole}
use Rattle.osm_model.specs.Elements.{Element}
use Rattle.tree_node.specs.Nodes.{Binding}
use Rattle.tree_node.specs.declared.tree.Tree.{Tree}
use Rattle.tree_node.specs.declared.tree.Tree.TheVariants.{Objects, Tags, Cells, Backs}
use Rattle.external_sort.specs.Records.{Entry}
use Rattle.external_sort.specs.Sorting.{Holds}
use Rattle.external_sort.specs.declared.sorter.Sorter.{Sorter}
use Rattle.entry_sort.specs.declared.entry_sorter.EntrySorter.{EntrySorter}
use Rattle.entry_sort.specs.internal.Once.{bindings_of}

-- the sorter of the entries of a tree
abbrev pub sorter_of : {S : Type 0} → EntrySorter S → Tree → Sorter S
sorter_of sorter Objects = sorter.objects
sorter_of sorter Tags = sorter.tags
sorter_of sorter Cells = sorter.cells
sorter_of sorter Backs = sorter.backs

module _ {S : Type 0} (runs : S → List (List ℕ)) (in_hand : S → List ℕ) where
  -- the sorter holds the entries of a tree of these objects, some perhaps more than once
  pub record HoldsTree (sorter : Sorter S) (objects : List Element) (tree : Tree) : Type 0 where
    pub records : List Entry
    pub held : Holds runs in_hand sorter records
    pub members : (b : Binding) → Contains (bindings_of records) b ↔ IsEntryOfSome Whole objects tree b

  -- it holds the entries of all four trees of these objects
  abbrev pub HoldsEntries : EntrySorter S → List Element → Type 0
  HoldsEntries sorter objects = (tree : Tree) → HoldsTree (sorter_of sorter tree) objects tree
