-- How changes are looked at, and how trees change.
-- Source: this project.
use Rattle.std.specs.List.{Contains}
use Rattle.std.specs.Prelude.{◌↔◌, List, Option, Some, None, ⊤}
use Rattle.opl_codec.specs.declared.change.Change.{Change}
use Rattle.opl_codec.specs.declared.change.Change.TheVariants as changes
use Rattle.osm_model.specs.Elements.{Element}
use Rattle.osm_model.specs.Sets.{IsObjectSet}
use Rattle.osm_index.specs.Applying.{AreApart, DeleteThere, IsFirstMissing, IsFirstTwice, names_of}
use Rattle.osm_index.specs.declared.object_changes.ObjectChanges.{ObjectChanges}
use Rattle.osm_index.specs.internal.HeldTrees.{AreNamed}
use Rattle.osm_index.specs.declared.apply_fault.ApplyFault.{ApplyFault}
use Rattle.osm_index.specs.declared.apply_fault.ApplyFault.TheVariants as faults

-- a refusal of the names of changes
abbrev pub RefusesNames : List Change → ApplyFault → Type 0
RefusesNames all faults.LastSequence = ⊥
RefusesNames all (faults.ChangedTwice r) = IsFirstTwice all r
RefusesNames all (faults.NotThere r) = ⊥
RefusesNames all faults.TooMany = ⊥
RefusesNames all faults.Clash = ⊥
RefusesNames all faults.Memory = ⊤

-- a refusal of their deletes
abbrev pub RefusesDeletes : List Element → List Change → ApplyFault → Type 0
RefusesDeletes objects all faults.LastSequence = ⊥
RefusesDeletes objects all (faults.ChangedTwice r) = ⊥
RefusesDeletes objects all (faults.NotThere r) = IsFirstMissing objects all r
RefusesDeletes objects all faults.TooMany = ⊥
RefusesDeletes objects all faults.Clash = ⊥
RefusesDeletes objects all faults.Memory = ⊥

-- the object that a change puts
abbrev pub put_in : Change → Option Element
put_in (changes.Put o) = Some o
put_in (changes.Delete r) = None

-- these are the objects that are put, as a set
pub record ArePut (all : List Change) (puts : List Element) : Type 0 where
  pub set : IsObjectSet puts
  pub members : (o : Element) → Contains puts o ↔ Contains all (changes.Put o)

-- ---- all together

-- what the changes take out of the set and put into it; no two are of one object, and each object to delete is there
pub record AreObjectChangesOf (objects : List Element) (all : List Change) (found : ObjectChanges) : Type 0 where
  pub apart : AreApart all
  pub there : DeleteThere objects all
  pub removed : AreNamed objects (names_of all) found.removed
  pub puts : ArePut all found.puts

-- a refusal of the changes, before the trees are looked at
abbrev pub RefusesChanges : List Element → List Change → ApplyFault → Type 0
RefusesChanges objects all faults.LastSequence = ⊥
RefusesChanges objects all (faults.ChangedTwice r) = IsFirstTwice all r
RefusesChanges objects all (faults.NotThere r) = AreApart all × IsFirstMissing objects all r
RefusesChanges objects all faults.TooMany = ⊥
RefusesChanges objects all faults.Clash = ⊥
RefusesChanges objects all faults.Memory = ⊤
