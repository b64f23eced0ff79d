-- How the parts of a step are done and refused.
use Rattle.std.specs.FinMap.{get}
use Rattle.std.specs.Prelude.{◌≡◌, ℕ, List, None, IsSome}
use Rattle.osm_index.specs.Snapshots.{HoldsPublication}
use Rattle.osm_index.specs.declared.snapshot.Snapshot.{Snapshot}
use Rattle.osm_desk.specs.Contents.{Contents, StandsFor}
use Rattle.osm_desk.specs.Desks.{Desk, step}
use Rattle.osm_desk.specs.Happenings.{arrived}
use Rattle.osm_desk.specs.Stepping.{Gives}
use Rattle.osm_desk.specs.declared.desk_fault.DeskFault.{DeskFault}
use Rattle.osm_desk.specs.declared.desk_fault.DeskFault.TheVariants.{AlreadyOpen, Memory, NoRoom, NotOpen, Refused}

-- the piece's step gives the answers, and leaves a desk that the contents stand for
abbrev pub HasArrived : Desk → ℕ → List ℕ → List (ℕ × List ℕ) → Contents Snapshot → Type 0
HasArrived d n piece answers contents = Gives (step d (arrived n piece)).reply answers × StandsFor HoldsPublication contents (step d (arrived n piece)).desk

abbrev pub RefusesPiece : Contents Snapshot → ℕ → DeskFault → Type 0
RefusesPiece d n AlreadyOpen = ⊥
RefusesPiece d n NotOpen = get d.connections n ≡ None
RefusesPiece d n NoRoom = ⊥
RefusesPiece d n (Refused fault) = ⊥
RefusesPiece d n Memory = IsSome (get d.connections n)
