-- What the code's desk holds.
-- Source: this project.
use Rattle.std.specs.FinMap.{empty}
use Rattle.std.specs.Prelude.{◌≡◌}
use Rattle.osm_keys.specs.Publications.{Publication}
use Rattle.osm_desk.specs.Desks.{Connections, Desk}

-- a mirror in place of the publication
pub record Contents (M : Type 0) : Type 0 where
  pub mirror : M
  pub connections : Connections

abbrev pub fresh_contents : {M : Type 0} → M → Contents M
fresh_contents mirror = record { mirror = mirror; connections = empty }

-- the desk that they stand for, where the mirror holds this publication
abbrev pub desk_over : {M : Type 0} → Contents M → Publication → Desk
desk_over contents p = record { publication = p; connections = contents.connections }

-- they do, where this says which publications a mirror holds
abbrev pub StandsFor : {M : Type 0} → (holds : M → Publication → Type 0) → Contents M → Desk → Type 0
StandsFor holds contents d = holds contents.mirror d.publication × (contents.connections ≡ d.connections)
