-- One connection of a desk's contents, and how its opening is refused.
-- Source: this project.
use Rattle.std.specs.FinMap.{get, insert, len, remove}
use Rattle.std.specs.Prelude.{◌≡◌, ◌<◌, ◌≤◌, ℕ, Option, Some, None, IsSome}
use Rattle.osm_gate.specs.Connections.{Rest, closed_rest}
use Rattle.osm_desk.specs.Contents.{Contents}
use Rattle.osm_desk.specs.declared.desk_fault.DeskFault.{DeskFault}
use Rattle.osm_desk.specs.declared.desk_fault.DeskFault.TheVariants.{AlreadyOpen, Memory, NoRoom, NotOpen, Refused}
use Rattle.osm_desk.specs.declared.limits.TheConstants.{CONNECTION_LIMIT}

-- what is left of the connection; one that is not open takes nothing more
abbrev pub rest_if : Option Rest → Rest
rest_if None = closed_rest
rest_if (Some r) = r

abbrev pub rest_of : {M : Type 0} → Contents M → ℕ → Rest
rest_of d n = rest_if (get d.connections n)

abbrev pub with_rest : {M : Type 0} → Contents M → ℕ → Rest → Contents M
with_rest d n r = record { mirror = d.mirror; connections = insert d.connections n r }

abbrev pub without : {M : Type 0} → Contents M → ℕ → Contents M
without d n = record { mirror = d.mirror; connections = remove d.connections n }

-- the number isn't open, and there is room
abbrev pub IsFree : {M : Type 0} → Contents M → ℕ → Type 0
IsFree d n = (get d.connections n ≡ None) × (len d.connections < CONNECTION_LIMIT)

abbrev pub RefusesOpening : {M : Type 0} → Contents M → ℕ → DeskFault → Type 0
RefusesOpening d n AlreadyOpen = IsSome (get d.connections n)
RefusesOpening d n NotOpen = ⊥
RefusesOpening d n NoRoom = (get d.connections n ≡ None) × (CONNECTION_LIMIT ≤ len d.connections)
RefusesOpening d n (Refused fault) = ⊥
RefusesOpening d n Memory = IsFree d n
