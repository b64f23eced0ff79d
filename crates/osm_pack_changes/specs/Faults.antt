-- Why changes weren't added.
-- Source: this project.
use Rattle.std.specs.Prelude.{◌≤◌, ℕ, IfSome, List, Option, ⊤}
use Rattle.opl_codec.specs.declared.cause.OplCause.{OplCause}
use Rattle.opl_codec.specs.declared.cause.OplCause.TheVariants as causes
use Rattle.opl_codec.specs.declared.change.Change.{Change}
use Rattle.opl_codec.specs.declared.fault.LoadFault.{LoadFault}
use Rattle.osm_keys.specs.Publications.{Publication}
use Rattle.osm_index.specs.declared.apply_fault.ApplyFault.{ApplyFault}
use Rattle.osm_index.specs.declared.apply_fault.ApplyFault.TheVariants as applying
use Rattle.outside_shelf.specs.declared.refused.Refused.{Refused}
use Rattle.outside_shelf.specs.declared.refused.Refused.TheVariants as reasons
use Rattle.node_pack.specs.declared.write_fault.WriteFault.{WriteFault}
use Rattle.node_pack.specs.declared.write_fault.WriteFault.TheVariants as writes
use Rattle.pack_head.specs.Names.{IsHeadName}
use Rattle.pack_head.specs.declared.limits.TheConstants.{FILES_LIMIT}
use Rattle.pack_update.specs.Adding.{IsNextBy}
use Rattle.pack_update.specs.Faults.{IsAddReason}
use Rattle.pack_update.specs.declared.fault.AddFault.{AddFault}
use Rattle.pack_update.specs.declared.fault.AddFault.TheVariants as adding
use Rattle.osm_commands.specs.declared.command_fault.CommandFault.{CommandFault}
use Rattle.osm_commands.specs.declared.command_fault.CommandFault.TheVariants as commands
use Rattle.osm_commands.specs.declared.status.Status.{Status}
use Rattle.osm_commands.specs.declared.status.Status.TheVariants.{Failed, Refused as Told}
use Rattle.osm_desk.specs.AnnouncedRoots.{IsAsAnnounced}
use Rattle.osm_desk.specs.Published.{GivesChanges}
use Rattle.osm_serving.specs.ChangeFiles.{HoldsNoChanges}
use Rattle.osm_pack_changes.specs.declared.not_added.NotAdded.{NotAdded}
use Rattle.osm_pack_changes.specs.declared.not_added.NotAdded.TheVariants.{Device, Files, ManyFiles, Memory, Name, Opl, OtherRoot}

-- ---- what the faults of the calls below are to the command

-- a reader that failed is a device
abbrev pub fault_of_cause : LoadFault → OplCause → NotAdded
fault_of_cause load causes.ReaderFailed = Device
fault_of_cause load causes.Memory = Memory
fault_of_cause load _ = Opl load

abbrev pub fault_of_load : LoadFault → NotAdded
fault_of_load load = fault_of_cause load load.fault.cause

abbrev pub fault_of_reason : Refused → NotAdded
fault_of_reason reasons.Memory = Memory
fault_of_reason reasons.Device = Device
fault_of_reason reason = Files (adding.Source reason)

abbrev pub fault_of_apply : ApplyFault → NotAdded
fault_of_apply applying.Memory = Memory
fault_of_apply fault = Files (adding.Apply fault)

abbrev pub fault_of_write : WriteFault → NotAdded
fault_of_write writes.Memory = Memory
fault_of_write writes.NotWritten = Device
fault_of_write fault = Files (adding.Write fault)

abbrev pub fault_of_added : AddFault → NotAdded
fault_of_added (adding.Source reason) = fault_of_reason reason
fault_of_added adding.NoManifest = Files adding.NoManifest
fault_of_added adding.NoTree = Files adding.NoTree
fault_of_added (adding.Apply fault) = fault_of_apply fault
fault_of_added (adding.Write fault) = fault_of_write fault

abbrev pub fault_of_command : CommandFault → NotAdded
fault_of_command commands.Memory = Memory
fault_of_command fault = Device

-- ---- how the program ends

abbrev pub status_of_write : WriteFault → Status
status_of_write writes.TooLong = Failed
status_of_write fault = Told

abbrev pub status_of_added : AddFault → Status
status_of_added (adding.Write fault) = status_of_write fault
status_of_added fault = Told

abbrev pub status_of : NotAdded → Status
status_of (Opl load) = Told
status_of ManyFiles = Told
status_of Name = Told
status_of (Files fault) = status_of_added fault
status_of OtherRoot = Told
status_of Memory = Failed
status_of Device = Failed

-- ---- why each fault comes

-- the fault is one that comes before anything is written
abbrev pub IsBeforeWriting : NotAdded → Type 0
IsBeforeWriting (Opl load) = ⊤
IsBeforeWriting ManyFiles = ⊤
IsBeforeWriting Name = ⊤
IsBeforeWriting (Files fault) = ⊤
IsBeforeWriting OtherRoot = ⊥
IsBeforeWriting Memory = ⊥
IsBeforeWriting Device = ⊥

-- Under the root of this publication, of the change file's reader, of which this is left, and of a head that names so many files: no
-- changes are read, there can't be one more file or not one of this name, or what is read is refused or gives another root.
abbrev pub Explains : Publication → (known left : Option (List ℕ)) (number : ℕ) (name : List ℕ) → NotAdded → Type 0
Explains p known left number name (Opl load) = IfSome known (λ text. HoldsNoChanges text left load)
Explains p known left number name ManyFiles = FILES_LIMIT ≤ number
Explains p known left number name Name = ¬ IsHeadName name
Explains p known left number name (Files fault) = (changes : List Change) × GivesChanges known changes × IsAddReason p changes number fault
Explains p known left number name OtherRoot =
    (changes : List Change) × (given : GivesChanges known changes) × (q : Publication) × IsNextBy p changes q × ¬ IsAsAnnounced given.text q
Explains p known left number name Memory = ⊤
Explains p known left number name Device = ⊤
