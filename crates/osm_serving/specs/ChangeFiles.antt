-- Change files, and their faults.
-- Source: this project.
use Rattle.std.specs.Prelude.{◌≡◌, ◌≢◌, ◌⊎◌, ◌+◌, ◌^◌, ◌==◌, [], ◌∷◌, ℕ, IfSome, List, Ok, Err, Option, Some, None, if◌then◌else◌, suc, zero, ⊤}
use Rattle.opl_codec.specs.Files.{HoldsChanges, StopsChanges}
use Rattle.opl_codec.specs.declared.cause.OplCause.TheVariants as causes
use Rattle.opl_codec.specs.declared.change.Change.{Change}
use Rattle.opl_codec.specs.declared.fault.LoadFault.{LoadFault}
use Rattle.osm_keys.specs.Publications.{Publication}
use Rattle.osm_index.specs.Snapshots.{HoldsPublication}
use Rattle.osm_index.specs.declared.snapshot.Snapshot.{Snapshot}
use Rattle.osm_index.specs.declared.announced_fault.AnnouncedFault.{AnnouncedFault}
use Rattle.osm_index.specs.declared.announced_fault.AnnouncedFault.TheVariants as announcing
use Rattle.osm_index.specs.declared.apply_fault.ApplyFault.{ApplyFault}
use Rattle.osm_index.specs.declared.apply_fault.ApplyFault.TheVariants as refusals
use Rattle.osm_keys.specs.declared.edition.Edition.{Edition}
use Rattle.osm_keys.specs.declared.edition.Edition.TheVariants as editions
use Rattle.osm_desk.specs.AnnouncedRoots.{Announces, AnnouncesSome, GivesOtherRoot, IsAsAnnounced}
use Rattle.osm_desk.specs.Made.{IsMade}
use Rattle.osm_desk.specs.Published.{FoundFile, GivesChanges, IsMadeFrom, IsPublishedFrom, file, nothing}
use Rattle.osm_serving.specs.declared.changes_fault.ChangesFault.{ChangesFault}
use Rattle.osm_serving.specs.declared.changes_fault.ChangesFault.TheVariants.{Apply, Opl, OtherRoot, Memory, Device}
use Rattle.osm_serving.specs.declared.root_line.RootLine.{RootLine}
use Rattle.osm_serving.specs.declared.root_line.RootLine.TheVariants.{Required}
use Rattle.osm_commands.specs.declared.command_fault.CommandFault.{CommandFault}
use Rattle.osm_commands.specs.declared.command_fault.CommandFault.TheVariants as commands

-- ---- faults

-- what a change file that isn't found or isn't read is to a site
abbrev pub fault_of_command : CommandFault → ChangesFault
fault_of_command (commands.Opl load) = Opl load
fault_of_command commands.Memory = Memory
fault_of_command refused = Device

-- what changes that can't be made are to a site
abbrev pub fault_of_apply : ApplyFault → ChangesFault
fault_of_apply refusals.Memory = Memory
fault_of_apply refused = Apply refused

-- and those whose root is announced
abbrev pub fault_of_announced : AnnouncedFault → ChangesFault
fault_of_announced (announcing.Apply refused) = fault_of_apply refused
fault_of_announced announcing.OtherRoot = OtherRoot

-- ---- the root line

-- a file that has to announce a root does so
abbrev pub HasLine : RootLine → List ℕ → Type 0
HasLine root_line text = root_line ≡ Required → AnnouncesSome text

-- the file announces the root of this publication, or none where it needn't
pub record KeepsRootLine (root_line : RootLine) (text : List ℕ) (q : Publication) : Type 0 where
  pub announced : IsAsAnnounced text q
  pub line : HasLine root_line text

-- what the changes of a file make hasn't the root that the file announces, whatever it announces; or the file has to announce
-- one and announces none. They can be applied all the same.
abbrev pub GivesNoSuchRoot : RootLine → List ℕ → Publication → List Change → Type 0
GivesNoSuchRoot root_line text p changes =
    ((announced : List ℕ) × Announces text announced × GivesOtherRoot p changes announced)
    ⊎ ((root_line ≡ Required) × (¬ AnnouncesSome text) × GivesOtherRoot p changes [])

-- ---- one change file

-- the snapshot holds what these changes of a file make of what was in force, and its root is as the file says
abbrev pub HasMadeOf : RootLine → (text : List ℕ) → List Change → Publication → Snapshot → Type 0
HasMadeOf root_line text changes p snapshot =
    (q : Publication) × HoldsPublication snapshot q × IsMade p changes (Ok q) × KeepsRootLine root_line text q

-- the changes that the reader gives make the one publication of the other, and announce its root where they have to
pub record IsTakenFrom (root_line : RootLine) (known : Option (List ℕ)) (p q : Publication) : Type 0 where
  pub made : IsMadeFrom known p q
  pub line : HasLine root_line made.given.text

-- the snapshot holds what the changes that the reader gives make of what was in force
abbrev pub HasMade : RootLine → Option (List ℕ) → Publication → Snapshot → Type 0
HasMade root_line known p snapshot = (q : Publication) × HoldsPublication snapshot q × IsTakenFrom root_line known p q

-- changes that a file holds make the one publication of the other, and the file says its root where it has to
abbrev pub IsPublishedUnder : RootLine → Publication → Publication → Type 0
IsPublishedUnder root_line p q =
    (text : List ℕ) × (changes : List Change) × HoldsChanges text changes × IsMade p changes (Ok q) × KeepsRootLine root_line text q

-- the snapshot holds what was in force, or what a change file makes of it
abbrev pub HasPublishedUnder : RootLine → Publication → Snapshot → Type 0
HasPublishedUnder root_line p snapshot = (q : Publication) × HoldsPublication snapshot q × ((q ≡ p) ⊎ IsPublishedUnder root_line p q)

-- no changes were read of the text, of which this is left: its first line that can't be read is told with the byte in
-- it, or the line within which the reader was found to have no end
pub record HoldsNoChanges (text : List ℕ) (left : Option (List ℕ)) (load : LoadFault) : Type 0 where
  pub stops : StopsChanges text left load
  pub unfailed : load.fault.cause ≢ causes.ReaderFailed
  pub real : load.fault.cause ≢ causes.Memory

-- the reader of the text, of which this is left, failed before a line that can't be read
abbrev pub HasFailed : List ℕ → Option (List ℕ) → Type 0
HasFailed text left = (load : LoadFault) × StopsChanges text left load × (load.fault.cause ≡ causes.ReaderFailed)

-- why each fault comes, where this publication is in force and this is left of the reader: no changes are read of its
-- text, or those that it gives are refused or give another root, or its reader failed, or memory ran out
abbrev pub ExplainsChanges : RootLine → (known left : Option (List ℕ)) (p : Publication) → ChangesFault → Type 0
ExplainsChanges root_line known left p (Opl load) = IfSome known (λ text. HoldsNoChanges text left load)
ExplainsChanges root_line known left p (Apply refused) = (changes : List Change) × GivesChanges known changes × IsMade p changes (Err refused)
ExplainsChanges root_line known left p OtherRoot =
    (changes : List Change) × (given : GivesChanges known changes) × GivesNoSuchRoot root_line given.text p changes
ExplainsChanges root_line known left p Memory = ⊤
ExplainsChanges root_line known left p Device = IfSome known (λ text. HasFailed text left)

-- the fault lies outside the file (its reader never ended, or memory or a device failed), or these changes of it are refused,
-- or give another root
abbrev pub IsOutsideOrRefused : RootLine → (text : List ℕ) → Publication → List Change → ChangesFault → Type 0
IsOutsideOrRefused root_line text p changes (Opl load) = load.fault.cause ≡ causes.Endless
IsOutsideOrRefused root_line text p changes (Apply refused) = IsMade p changes (Err refused)
IsOutsideOrRefused root_line text p changes OtherRoot = GivesNoSuchRoot root_line text p changes
IsOutsideOrRefused root_line text p changes Memory = ⊤
IsOutsideOrRefused root_line text p changes Device = ⊤

-- ---- what is asked for

-- the sequence numbers that were asked for, the last one first, once the file after this edition has been: none is asked
-- for after the greatest
abbrev pub asked_after : Edition → List ℕ → List ℕ
asked_after editions.One before = before
asked_after (editions.Two sequence) before = if sequence + 1 == 2 ^ 64 then before else (sequence + 1) ∷ before

-- the sequence number after that of the edition; none where it is at its greatest, and in the first edition
abbrev pub IsNext : Edition → Option ℕ → Type 0
IsNext edition None = (before : List ℕ) → asked_after edition before ≡ before
IsNext edition (Some next) = (before : List ℕ) → asked_after edition before ≡ next ∷ before

-- ---- what is in force

-- at most so many change files make it, one after the other
abbrev pub IsReachedBy : ℕ → Publication → Publication → Type 0
IsReachedBy zero p q = q ≡ p
IsReachedBy (suc n) p q = IsReachedBy n p q ⊎ ((m : Publication) × IsReachedBy n p m × IsPublishedFrom m q)

-- why what was found isn't published: the source refused, or the file that it gave is
abbrev pub ExplainsFound : RootLine → FoundFile → Publication → ChangesFault → Type 0
ExplainsFound root_line nothing p fault = (fault ≡ Memory) ⊎ (fault ≡ Device)
ExplainsFound root_line (file known) p fault = (left : Option (List ℕ)) × ExplainsChanges root_line known left p fault
