-- A change file that was read, and the text that announces the root of what its changes make.
use Rattle.std.specs.Prelude.{◌≡◌, ℕ, List, Err, ⊤}
use Rattle.opl_codec.specs.Files.{HoldsChanges}
use Rattle.opl_codec.specs.declared.cause.OplCause.TheVariants as causes
use Rattle.opl_codec.specs.declared.change.Change.{Change}
use Rattle.osm_keys.specs.Publications.{Publication}
use Rattle.osm_desk.specs.Made.{IsMade}
use Rattle.osm_changes.specs.AnnouncedChanges.{HoldsNoChanges}
use Rattle.osm_commands.specs.declared.command_fault.CommandFault.{CommandFault}
use Rattle.osm_commands.specs.declared.command_fault.CommandFault.TheVariants.{Opl, Query, Endless, TooLarge, Work, Clash, TooMany, Apply, Memory, Device}

-- why nothing is made of the text where this publication is that of the set
abbrev pub ExplainsUnmade : (text : List ℕ) (p : Publication) → CommandFault → Type 0
ExplainsUnmade text p (Opl load) = HoldsNoChanges text load
ExplainsUnmade text p (Query refused) = ⊥
ExplainsUnmade text p Endless = ⊥
ExplainsUnmade text p TooLarge = ⊥
ExplainsUnmade text p Work = ⊥
ExplainsUnmade text p Clash = ⊥
ExplainsUnmade text p TooMany = ⊥
ExplainsUnmade text p (Apply refused) = (changes : List Change) × HoldsChanges text changes × IsMade p changes (Err refused)
ExplainsUnmade text p Memory = ⊤
ExplainsUnmade text p Device = ⊤

-- and where the text holds these changes
abbrev pub IsOutsideUnmade : Publication → List Change → CommandFault → Type 0
IsOutsideUnmade p changes (Opl load) = load.fault.cause ≡ causes.Endless
IsOutsideUnmade p changes (Query refused) = ⊥
IsOutsideUnmade p changes Endless = ⊥
IsOutsideUnmade p changes TooLarge = ⊥
IsOutsideUnmade p changes Work = ⊥
IsOutsideUnmade p changes Clash = ⊥
IsOutsideUnmade p changes TooMany = ⊥
IsOutsideUnmade p changes (Apply refused) = IsMade p changes (Err refused)
IsOutsideUnmade p changes Memory = ⊤
IsOutsideUnmade p changes Device = ⊤
