-- What went over a connection.
-- Source: this project.
use Rattle.std.specs.Prelude.{◌≡◌, ℕ, ◌<◌, ◌≤◌, Bool, true, false, List, [], ◌++◌, take}
use Rattle.osm_relay.specs.declared.wire.Reading.{Reading}
use Rattle.osm_relay.specs.declared.wire.Reading.TheVariants as readings
use Rattle.osm_relay.specs.declared.wire.Writing.{Writing}
use Rattle.osm_relay.specs.declared.wire.Writing.TheVariants as writings

-- the bytes that the other side sent, those that it took, and whether it has said that it sends no more
pub record Log : Type 0 where
  pub brought : List ℕ
  pub took : List ℕ
  pub ended : Bool

abbrev pub fresh : Log
fresh = record { brought = []; took = []; ended = false }

abbrev pub brings : List ℕ → Log → Log
brings bytes log = record { brought = log.brought ++ bytes; took = log.took; ended = log.ended }

abbrev pub takes : List ℕ → Log → Log
takes bytes log = record { brought = log.brought; took = log.took ++ bytes; ended = log.ended }

abbrev pub ends : Log → Log
ends log = record { brought = log.brought; took = log.took; ended = true }

-- a read gives no more bytes than there is room for, and a write no more than there are
abbrev pub GivesAtMost : ℕ → Reading → Type 0
GivesAtMost room (readings.Got count) = (0 < count) × (count ≤ room)
GivesAtMost room readings.Later = Unit {0}
GivesAtMost room readings.Ended = Unit {0}
GivesAtMost room readings.Gone = Unit {0}

abbrev pub TakesAtMost : ℕ → Writing → Type 0
TakesAtMost all (writings.Took count) = count ≤ all
TakesAtMost all writings.Gone = Unit {0}

-- what a read leaves of the log: it gave bytes at the front of the buffer, or said that no more come, or gave none
abbrev pub Reads : List ℕ → Log → Log → Reading → Type 0
Reads piece old new (readings.Got count) = new ≡ brings (take count piece) old
Reads piece old new readings.Later = new ≡ old
Reads piece old new readings.Ended = new ≡ ends old
Reads piece old new readings.Gone = new ≡ old

-- a write gave a front of the bytes, or none
abbrev pub Writes : List ℕ → Log → Log → Writing → Type 0
Writes bytes old new (writings.Took count) = new ≡ takes (take count bytes) old
Writes bytes old new writings.Gone = new ≡ old
