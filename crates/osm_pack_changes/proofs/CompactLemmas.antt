-- Why no pack is written of a head's files.
use Rattle.osm_keys.specs.Publications.{Publication}
use Rattle.outside_shelf.specs.declared.refused.Refused.TheVariants as reasons
use Rattle.pack_compact.specs.Compacting as files
use Rattle.pack_compact.specs.declared.fault.CompactFault.{CompactFault}
use Rattle.pack_compact.specs.declared.fault.CompactFault.TheVariants as faults
use Rattle.osm_pack_changes.specs.CompactFaults.{fault_of_compact}
use Rattle.osm_pack_changes.specs.Compacting.{IsOutside}

-- where the files have all nodes, what is passed on is no fault of theirs either
pub outside : (p : Publication) (fault : CompactFault) → files.IsOutside p fault → IsOutside p (fault_of_compact fault)
outside p (faults.Source reasons.Absent) why = absurd why
outside p (faults.Source reasons.Other) why = absurd why
outside p (faults.Source reasons.Device) why = tt
outside p (faults.Source reasons.Memory) why = absurd why
outside p (faults.Source reasons.TooMany) why = absurd why
outside p faults.NoManifest why = absurd why
outside p faults.NoTree why = absurd why
outside p faults.Clash why = why
outside p faults.TooLong why = why
outside p faults.Memory why = tt
outside p faults.Device why = tt
outside p faults.NotWritten why = tt
