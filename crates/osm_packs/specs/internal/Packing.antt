-- Why the pack of a publication isn't written.
use Rattle.std.specs.Prelude.{⊤}
use Rattle.osm_keys.specs.Publications.{Publication}
use Rattle.osm_commands.specs.declared.command_fault.CommandFault.{CommandFault}
use Rattle.osm_commands.specs.declared.command_fault.CommandFault.TheVariants.{Apply, Clash, Device, Endless, Memory, Opl, Query, TooLarge, TooMany, Work}
use Rattle.pack_assembly.specs.Packing.{IsTooLong}

-- it is too long, or memory ran out, or the writer failed
abbrev pub IsPackFault : Publication → CommandFault → Type 0
IsPackFault p TooLarge = IsTooLong p
IsPackFault p Memory = ⊤
IsPackFault p Device = ⊤
IsPackFault p (Opl load) = ⊥
IsPackFault p (Query fault) = ⊥
IsPackFault p Endless = ⊥
IsPackFault p Work = ⊥
IsPackFault p Clash = ⊥
IsPackFault p TooMany = ⊥
IsPackFault p (Apply fault) = ⊥
