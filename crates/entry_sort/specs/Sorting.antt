-- What is given of a file, and why nothing is.
-- Source: this project.
use Rattle.std.specs.Prelude.{◌≡◌, ◌≢◌, ◌⊎◌, ℕ, List, [], Option, ⊤}
use Rattle.osm_model.specs.Elements.{Element}
use Rattle.opl_codec.specs.Files.{HoldsSet, StopsFile}
use Rattle.opl_codec.specs.declared.cause.OplCause.TheVariants as causes
use Rattle.tree_node.specs.Nodes.{Binding}
use Rattle.tree_node.specs.declared.tree.Tree.{Tree}
use Rattle.osm_keys.specs.Entries.{AreEntriesOf}
use Rattle.osm_keys.specs.Grains.{Whole}
use Rattle.osm_keys.specs.Publications.{HasTooMany}
use Rattle.entry_sort.specs.declared.entry_fault.EntryFault.{EntryFault}
use Rattle.entry_sort.specs.declared.entry_fault.EntryFault.TheVariants.{Load, TooMany, Memory, Device}

-- nothing was taken yet
abbrev pub IsFresh : (Tree → List Binding) → Type 0
IsFresh taken = (tree : Tree) → taken tree ≡ []

-- the entries were taken of the trees of the set that the file holds
pub record TakesFile (taken : Tree → List Binding) (file : List ℕ) : Type 0 where
  pub set : List Element
  pub holds : HoldsSet file set
  pub entries : (tree : Tree) → AreEntriesOf Whole set tree (taken tree)

-- the fault lies outside the file that holds this set, or a tree of the set has too many entries
abbrev pub IsOutside : List Element → EntryFault → Type 0
IsOutside set (Load load) = (load.fault.cause ≡ causes.ReaderFailed) ⊎ (load.fault.cause ≡ causes.Endless)
IsOutside set TooMany = HasTooMany set
IsOutside set Memory = ⊤
IsOutside set Device = ⊤

-- why each fault comes: no set is read of the file, it holds one of which a tree has too many entries, or the fault lies
-- outside it
abbrev pub Explains : List ℕ → EntryFault → Type 0
Explains file (Load load) = (load.fault.cause ≢ causes.Memory) × ((left : Option (List ℕ)) × StopsFile file left load)
Explains file TooMany = (set : List Element) × HoldsSet file set × HasTooMany set
Explains file Memory = ⊤
Explains file Device = ⊤
