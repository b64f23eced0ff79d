-- What goes in and out at the sockets.
-- Source: this project.
use Rattle.std.specs.Prelude.{◌≡◌, ◌<◌, ◌≤◌, ℕ, Bool, true, false, List, ◌∷◌, Option, Some, None, length, take}
use Rattle.osm_gate.specs.Pieces.{IsCut}
use Rattle.osm_traffic.specs.declared.traffic.Room.{Room}
use Rattle.osm_traffic.specs.declared.traffic.Reading.{Reading}
use Rattle.osm_traffic.specs.declared.traffic.Reading.TheVariants as readings
use Rattle.osm_traffic.specs.declared.traffic.Writing.{Writing}
use Rattle.osm_traffic.specs.declared.traffic.Writing.TheVariants as writings

-- with this room for a further connection it was waited for what is next, a connection was taken under this number, a
-- piece was read from it, its socket took bytes, or it was let go: whole, or broken off
pub data Entry : Type 0 where
  waited : Room → Entry
  came : ℕ → Entry
  brought : ℕ → List ℕ → Entry
  took : ℕ → List ℕ → Entry
  left : ℕ → Bool → Entry

-- the log with one entry more, where there is one
abbrev pub noted : Entry → Option (List Entry) → Option (List Entry)
noted entry None = None
noted entry (Some log) = Some (entry ∷ log)

abbrev pub taken_by : Bool → ℕ → Option (List Entry) → Option (List Entry)
taken_by true number log = noted (came number) log
taken_by false number log = log

abbrev pub left_by : Bool → ℕ → Bool → Option (List Entry) → Option (List Entry)
left_by true number whole log = noted (left number whole) log
left_by false number whole log = log

-- a read gave some bytes at the front of the buffer, with nothing after an empty line; or no bytes
abbrev pub Reads : ℕ → List ℕ → Option (List Entry) → Option (List Entry) → Reading → Type 0
Reads number piece old new (readings.Got count) = (0 < count) × (count ≤ length piece) × IsCut (take count piece) × (new ≡ noted (brought number (take count piece)) old)
Reads number piece old new readings.Later = new ≡ old
Reads number piece old new readings.Ended = new ≡ old
Reads number piece old new readings.Gone = new ≡ old

-- a write gave a front of the bytes
abbrev pub Writes : ℕ → List ℕ → Option (List Entry) → Option (List Entry) → Writing → Type 0
Writes number bytes old new (writings.Took count) = (count ≤ length bytes) × (new ≡ noted (took number (take count bytes)) old)
Writes number bytes old new writings.Gone = new ≡ old
