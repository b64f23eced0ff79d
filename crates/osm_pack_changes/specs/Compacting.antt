-- Why no pack is written of the set that a head's files hold.
-- Source: this project.
use Rattle.std.specs.Prelude.{⊤}
use Rattle.osm_keys.specs.Publications.{Publication}
use Rattle.pack_compact.specs.Compacting as files
use Rattle.osm_pack_changes.specs.declared.not_compacted.NotCompacted.{NotCompacted}
use Rattle.osm_pack_changes.specs.declared.not_compacted.NotCompacted.TheVariants.{Device, Files, Memory}

-- a refusal under the root of a publication
abbrev pub IsReason : Publication → NotCompacted → Type 0
IsReason p (Files fault) = files.IsReason p fault
IsReason p Memory = ⊤
IsReason p Device = ⊤

-- the same where the files have all nodes of the publication
abbrev pub IsOutside : Publication → NotCompacted → Type 0
IsOutside p (Files fault) = files.IsOutside p fault
IsOutside p Memory = ⊤
IsOutside p Device = ⊤
