-- Why nothing is added, step by step.
use Rattle.std.proofs.Common.{◌≡◌, ◌≢◌, ℕ, List, Result, Ok, Err, sym, subst}
use Rattle.std.specs.Prelude.{IfErr, IsErrAnd}
use Rattle.opl_codec.specs.declared.change_file.ChangeFile.{ChangeFile}
use Rattle.osm_keys.specs.Publications.{Publication}
use Rattle.osm_index.specs.declared.apply_fault.ApplyFault.TheVariants as applying
use Rattle.outside_shelf.specs.declared.refused.Refused.TheVariants as reasons
use Rattle.node_pack.specs.declared.write_fault.WriteFault.TheVariants as writes
use Rattle.pack_update.specs.Faults.{IsAddReason}
use Rattle.pack_update.specs.declared.fault.AddFault.{AddFault}
use Rattle.pack_update.specs.declared.fault.AddFault.TheVariants as adding
use Rattle.osm_pack_changes.specs.Faults.{IsBeforeWriting, fault_of_added}
use Rattle.osm_pack_changes.specs.internal.Reading.{RefusesRead}

-- a refusal that is passed on
pub refused_as : {A F : Type 0} (Says : F → Type 0) (result : Result A F) (fault : F) → IsErrAnd result (λ f. f ≡ fault) → Says fault → IfErr result Says
refused_as Says (Ok value) fault is says = tt
refused_as Says (Err f) fault is says = subst Says (sym is) says

-- what the files or the changes are refused for is the reason of the command
pub added_refused : (p : Publication) (read : ChangeFile) (number : ℕ) (name : List ℕ) (fault : AddFault) → IsAddReason p read.changes.items number fault → RefusesRead p read number name (fault_of_added fault)
added_refused p read number name (adding.Source reasons.Absent) reason = reason
added_refused p read number name (adding.Source reasons.Other) reason = reason
added_refused p read number name (adding.Source reasons.Device) reason = tt
added_refused p read number name (adding.Source reasons.Memory) reason = tt
added_refused p read number name (adding.Source reasons.TooMany) reason = reason
added_refused p read number name adding.NoManifest reason = reason
added_refused p read number name adding.NoTree reason = reason
added_refused p read number name (adding.Apply applying.LastSequence) reason = reason
added_refused p read number name (adding.Apply (applying.ChangedTwice r)) reason = reason
added_refused p read number name (adding.Apply (applying.NotThere r)) reason = reason
added_refused p read number name (adding.Apply applying.TooMany) reason = reason
added_refused p read number name (adding.Apply applying.Clash) reason = reason
added_refused p read number name (adding.Apply applying.Memory) reason = tt
added_refused p read number name (adding.Write writes.Missing) reason = reason
added_refused p read number name (adding.Write writes.Malformed) reason = reason
added_refused p read number name (adding.Write writes.TooLong) reason = reason
added_refused p read number name (adding.Write writes.Memory) reason = tt
added_refused p read number name (adding.Write writes.NotWritten) reason = tt

-- what is told before anything is written isn't the writer's fault
pub not_writers : (fault : AddFault) → IsBeforeWriting (fault_of_added fault) → fault ≢ adding.Write writes.NotWritten
not_writers fault before e = subst (λ (f : AddFault). IsBeforeWriting (fault_of_added f)) e before
