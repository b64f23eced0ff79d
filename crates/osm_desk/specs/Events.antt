-- Events with their changes, as the code takes them, one after the other, and what they tell one connection.
-- Source: this project.
use Rattle.std.specs.FinMap.{len, remove}
use Rattle.std.specs.Global.{Vec}
use Rattle.std.specs.List.{filter}
use Rattle.std.specs.Prelude.{◌≡◌, ◌==◌, ◌<◌, ℕ, Bool, true, List, [], ◌∷◌, ◌++◌, Option, Some, None, Result, Ok, Err, IfErr, IfOk, MatchBool, OnErr, if◌then◌else◌}
use Rattle.osm_gate.specs.Connections.{Responds}
use Rattle.osm_keys.specs.Publications.{Publication}
use Rattle.osm_index.specs.Snapshots.{HoldsPublication, IsAsBefore}
use Rattle.osm_index.specs.declared.apply_fault.ApplyFault.{ApplyFault}
use Rattle.osm_index.specs.declared.snapshot.Snapshot.{Snapshot}
use Rattle.osm_desk.specs.Completions.{in_force, life_opened, life_with, requests_completed}
use Rattle.osm_desk.specs.Contents.{Contents, desk_over}
use Rattle.osm_desk.specs.Made.{IsMade}
use Rattle.osm_desk.specs.Runs.{stands, texts_in}
use Rattle.osm_desk.specs.Stepping.{HasStepped, IsRefusal, texts_of}
use Rattle.osm_desk.specs.declared.desk_fault.DeskFault.{DeskFault}
use Rattle.osm_desk.specs.declared.event.Event.{Event}
use Rattle.osm_desk.specs.declared.event.Event.TheVariants.{Arrive, End, Open, Publish}
use Rattle.osm_desk.specs.declared.limits.TheConstants.{CONNECTION_LIMIT}

-- ---- what one connection is told

-- in a life the first text responds to the requests that are complete with the piece, and the others are what comes later
abbrev pub IsToldPiece : Publication → Option (List ℕ) → List ℕ → (List (List ℕ) → Type 0) → List (List ℕ) → Type 0
IsToldPiece p None piece Later texts = Later texts
IsToldPiece p (Some bytes) piece Later [] = ⊥
IsToldPiece p (Some bytes) piece Later (text ∷ texts) = Responds p (requests_completed bytes piece) text × Later texts

-- from this publication on, and in this life: changes that are refused change nothing
abbrev pub IsToldFrom : ℕ → Publication → Option (List ℕ) → List Event → List (List ℕ) → Type 0
IsToldFrom c p life [] texts = texts ≡ []
IsToldFrom c p life (Open n ∷ events) texts = IsToldFrom c p (if n == c then life_opened life else life) events texts
IsToldFrom c p life (Arrive n piece ∷ events) texts =
    MatchBool (n == c) (IsToldPiece p life piece.items (IsToldFrom c p (life_with life piece.items) events) texts) (IsToldFrom c p life events texts)
IsToldFrom c p life (End n ∷ events) texts = IsToldFrom c p (if n == c then None else life) events texts
IsToldFrom c p life (Publish changes ∷ events) texts =
    (made : Result Publication ApplyFault) × IsMade p changes.items made × IsToldFrom c (in_force p made) life events texts

-- the texts are, piece by piece, what connection c is told by these events, where this publication is in force at first
abbrev pub IsTold : ℕ → List Event → Publication → List (List ℕ) → Type 0
IsTold c events p texts = IsToldFrom c p None events texts

-- the event is the connection's, or a publication
abbrev pub is_of_connection : ℕ → Event → Bool
is_of_connection c (Open n) = n == c
is_of_connection c (Arrive n piece) = n == c
is_of_connection c (End n) = n == c
is_of_connection c (Publish changes) = true

-- the connection's own events, and all publications
abbrev pub own_events : ℕ → List Event → List Event
own_events c events = filter (is_of_connection c) events

-- ---- what the code does

-- an event that the code took, what it answered, and what the desk holds after that
pub record Turn : Type 0 where
  pub event : Event
  pub answer : Result (List (ℕ × List ℕ)) DeskFault
  pub after : Contents Snapshot

-- what the code answers, with numbers and texts alone
abbrev pub answer_of : Result (Vec (ℕ × Vec ℕ)) DeskFault → Result (List (ℕ × List ℕ)) DeskFault
answer_of (Ok answers) = Ok (texts_of answers.items)
answer_of (Err fault) = Err fault

-- the code took the event as the definition of a step says, over whatever publication the snapshot holds
pub record IsTurn (before : Contents Snapshot) (turn : Turn) : Type 0 where
  -- it gives the answers of the step, and leaves the step's desk
  pub steps : (p : Publication) → HoldsPublication before.mirror p
      → IfOk turn.answer (λ answers. HasStepped (desk_over before p) turn.event answers turn.after)
  -- or it is refused as the step is, and out of memory only where it may be
  pub refused : (p : Publication) → HoldsPublication before.mirror p → IfErr turn.answer (IsRefusal (desk_over before p) turn.event)
  -- and then nothing has changed
  pub unchanged : OnErr turn.answer ((turn.after.connections ≡ before.connections) × IsAsBefore before.mirror turn.after.mirror)

-- each begins with what the one before it left
abbrev pub AreTurns : Contents Snapshot → List Turn → Type 0
AreTurns before [] = Unit {0}
AreTurns before (turn ∷ turns) = IsTurn before turn × AreTurns turn.after turns

-- the events, but those that were refused out of memory
abbrev pub event_if : Event → Result (List (ℕ × List ℕ)) DeskFault → List Event → List Event
event_if event (Ok answers) later = event ∷ later
event_if event (Err fault) later = if stands fault then event ∷ later else later

abbrev pub events_of : List Turn → List Event
events_of [] = []
events_of (turn ∷ turns) = event_if turn.event turn.answer (events_of turns)

-- what connection c got, piece by piece
abbrev pub texts_if : ℕ → Result (List (ℕ × List ℕ)) DeskFault → List (List ℕ)
texts_if c (Ok answers) = texts_in c answers
texts_if c (Err fault) = []

abbrev pub texts_to : ℕ → List Turn → List (List ℕ)
texts_to c [] = []
texts_to c (turn ∷ turns) = texts_if c turn.answer ++ texts_to c turns

-- where c is opened, fewer than 64 others are open
abbrev pub IsRoomFor : ℕ → Contents Snapshot → Event → Type 0
IsRoomFor c before (Open n) = n ≡ c → len (remove before.connections c) < CONNECTION_LIMIT
IsRoomFor c before (Arrive n piece) = Unit {0}
IsRoomFor c before (End n) = Unit {0}
IsRoomFor c before (Publish changes) = Unit {0}

-- whenever c is opened
abbrev pub HasRoom : ℕ → Contents Snapshot → List Turn → Type 0
HasRoom c before [] = Unit {0}
HasRoom c before (turn ∷ turns) = IsRoomFor c before turn.event × HasRoom c turn.after turns
