-- Why no pack is written of a publication that files hold.
-- Source: this project.
use Rattle.std.specs.Prelude.{⊤}
use Rattle.osm_keys.specs.Publications.{IsNodeIn, Publication}
use Rattle.outside_shelf.specs.declared.refused.Refused.{Refused}
use Rattle.outside_shelf.specs.declared.refused.Refused.TheVariants as reasons
use Rattle.pack_assembly.specs.Packing.{IsTooLong}
use Rattle.tree_node.specs.Outcomes.{Clash as HasClash}
use Rattle.pack_compact.specs.declared.fault.CompactFault.{CompactFault}
use Rattle.pack_compact.specs.declared.fault.CompactFault.TheVariants.{Clash, Device, Memory, NoManifest, NoTree, NotWritten, Source, TooLong}

-- A refusal under the root of a publication: the files gave no node, which says nothing of the publication; or it has no pack; or the
-- fault lies outside it.
abbrev pub IsReason : Publication → CompactFault → Type 0
IsReason p (Source reason) = ⊤
IsReason p NoManifest = ⊥
IsReason p NoTree = ⊥
IsReason p Clash = HasClash (IsNodeIn p) (IsNodeIn p)
IsReason p TooLong = IsTooLong p
IsReason p Memory = ⊤
IsReason p Device = ⊤
IsReason p NotWritten = ⊤

-- the device of the files failed
abbrev pub IsOfDevice : Refused → Type 0
IsOfDevice reasons.Absent = ⊥
IsOfDevice reasons.Other = ⊥
IsOfDevice reasons.Device = ⊤
IsOfDevice reasons.Memory = ⊥
IsOfDevice reasons.TooMany = ⊥

-- the same where the files have all nodes of the publication
abbrev pub IsOutside : Publication → CompactFault → Type 0
IsOutside p (Source reason) = IsOfDevice reason
IsOutside p NoManifest = ⊥
IsOutside p NoTree = ⊥
IsOutside p Clash = HasClash (IsNodeIn p) (IsNodeIn p)
IsOutside p TooLong = IsTooLong p
IsOutside p Memory = ⊤
IsOutside p Device = ⊤
IsOutside p NotWritten = ⊤
