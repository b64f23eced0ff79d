-- What changes make of a publication.
-- Source: this project.
use Rattle.std.specs.Prelude.{List, Result, Ok, Err}
use Rattle.opl_codec.specs.declared.change.Change.{Change}
use Rattle.osm_model.specs.Elements.{Element}
use Rattle.tree_node.specs.Outcomes.{Clash}
use Rattle.tree_node.specs.Shelves.{IsClashFree}
use Rattle.osm_index.specs.Applying.{AreApart, AreApplicable, IsApplied, IsFirstMissing, IsFirstTwice, IsLast, IsNodeOfEither, edition_after}
use Rattle.osm_keys.specs.Publications.{HasTooMany, IsPublicationOf, Publication}
use Rattle.osm_index.specs.declared.apply_fault.ApplyFault.{ApplyFault}
use Rattle.osm_index.specs.declared.apply_fault.ApplyFault.TheVariants as faults

-- a publication of the changed set at the next sequence
pub record IsChanged (p : Publication) (all : List Change) (q : Publication) : Type 0 where
  pub applied : IsApplied p.objects all q.objects
  pub published : IsPublicationOf q.objects (edition_after p.edition) q

-- why the changes make none: no sequence comes after that of the set, else an object is changed twice, else a deleted
-- object isn't there, else a tree has too many entries, else two different nodes of the old and the new publication together
-- have one digest. That memory runs out is no matter of what they make.
abbrev pub IsRefused : Publication → List Change → ApplyFault → Type 0
IsRefused p all faults.LastSequence = IsLast p.edition
IsRefused p all (faults.ChangedTwice r) = (¬ IsLast p.edition) × IsFirstTwice all r
IsRefused p all (faults.NotThere r) = (¬ IsLast p.edition) × AreApart all × IsFirstMissing p.objects all r
IsRefused p all faults.TooMany = AreApplicable p.objects p.edition all × ((set : List Element) × IsApplied p.objects all set × HasTooMany set)
IsRefused p all faults.Clash =
    AreApplicable p.objects p.edition all × ((q : Publication) × IsChanged p all q × Clash (IsNodeOfEither p q) (IsNodeOfEither p q))
IsRefused p all faults.Memory = ⊥

-- what they make: such a publication where nothing refuses them, or why they are refused
abbrev pub IsMade : Publication → List Change → Result Publication ApplyFault → Type 0
IsMade p all (Ok q) = AreApplicable p.objects p.edition all × IsChanged p all q × IsClashFree (IsNodeOfEither p q)
IsMade p all (Err fault) = IsRefused p all fault

-- how publishing them may be refused: as what they make says, or memory ran out, but not where no sequence comes after
-- that of the set
abbrev pub RefusesChanges : Publication → List Change → ApplyFault → Type 0
RefusesChanges p all faults.Memory = ¬ IsLast p.edition
RefusesChanges p all fault = IsMade p all (Err fault)
