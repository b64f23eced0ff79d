-- What a step of the code may answer.
-- Source: this project.
use Rattle.std.specs.Global.{Vec}
use Rattle.std.specs.Prelude.{◌≡◌, ℕ, List, [], ◌∷◌, map, None, Result, Ok, Err, IsOk}
use Rattle.osm_gate.specs.Connections.{RespondsOn}
use Rattle.osm_gate.specs.Terms.{Terms, within}
use Rattle.osm_index.specs.Applying.{IsLast}
use Rattle.osm_index.specs.Snapshots.{HoldsPublication}
use Rattle.osm_index.specs.declared.snapshot.Snapshot.{Snapshot}
use Rattle.osm_keys.specs.Publications.{Publication}
use Rattle.osm_desk.specs.Contents.{Contents, StandsFor}
use Rattle.osm_desk.specs.Desks.{Completion, Desk, step}
use Rattle.osm_desk.specs.Happenings.{Happening, arrived, ended, opened, published}
use Rattle.osm_desk.specs.Made.{IsMade}
use Rattle.osm_desk.specs.declared.desk_fault.DeskFault.{DeskFault}
use Rattle.osm_desk.specs.declared.desk_fault.DeskFault.TheVariants.{AlreadyOpen, Memory, NoRoom, NotOpen, Refused}
use Rattle.osm_desk.specs.declared.event.Event.{Event}
use Rattle.osm_desk.specs.declared.event.Event.TheVariants.{Arrive, End, Open, Publish}

-- what an event is, where this publication is in force
abbrev pub IsOf : Publication → Event → Happening → Type 0
IsOf p (Open n) h = h ≡ opened n
IsOf p (Arrive n piece) h = h ≡ arrived n piece.items
IsOf p (End n) h = h ≡ ended n
IsOf p (Publish changes) h = (made : Result Publication _) × IsMade p changes.items made × (h ≡ published made)

-- numbers with their texts
abbrev pub texts_of : List (ℕ × Vec ℕ) → List (ℕ × List ℕ)
texts_of answers = map (λ (answer : ℕ × Vec ℕ). (answer.0, answer.1.items)) answers

-- pair by pair the number, and the responses to the completion, on these terms
abbrev pub RespondEachOn : Terms → List (ℕ × Completion) → List (ℕ × List ℕ) → Type 0
RespondEachOn terms [] [] = Unit {0}
RespondEachOn terms [] (a ∷ answers) = ⊥
RespondEachOn terms (t ∷ ts) [] = ⊥
RespondEachOn terms (t ∷ ts) (a ∷ answers) =
    (a.0 ≡ t.0) × RespondsOn terms t.1.publication t.1.requests a.1 × RespondEachOn terms ts answers

-- the step isn't refused, and these are the answers to its completions
abbrev pub GivesOn : Terms → Result (List (ℕ × Completion)) DeskFault → List (ℕ × List ℕ) → Type 0
GivesOn terms (Err fault) answers = ⊥
GivesOn terms (Ok told) answers = RespondEachOn terms told answers

-- the same where nodes are held in memory, and there is no budget
abbrev pub Gives : Result (List (ℕ × Completion)) DeskFault → List (ℕ × List ℕ) → Type 0
Gives reply answers = GivesOn (within None) reply answers

-- the event is a happening whose step gives the answers, and leaves a desk that the contents stand for
abbrev pub HasStepped : Desk → Event → List (ℕ × List ℕ) → Contents Snapshot → Type 0
HasStepped d event answers contents =
    (h : Happening) × IsOf d.publication event h × Gives (step d h).reply answers × StandsFor HoldsPublication contents (step d h).desk

-- memory may run out: never at an end, and never in place of another refusal of an opening or of a piece
abbrev pub MayRunOut : Desk → Event → Type 0
MayRunOut d (Open n) = IsOk (step d (opened n)).reply
MayRunOut d (Arrive n piece) = IsOk (step d (arrived n piece.items)).reply
MayRunOut d (End n) = ⊥
MayRunOut d (Publish changes) = ¬ IsLast d.publication.edition

-- the event is a happening whose step is refused so
abbrev pub RefusesStep : Desk → Event → DeskFault → Type 0
RefusesStep d event fault = (h : Happening) × IsOf d.publication event h × ((step d h).reply ≡ Err fault)

-- how an event may be refused
abbrev pub IsRefusal : Desk → Event → DeskFault → Type 0
IsRefusal d event AlreadyOpen = RefusesStep d event AlreadyOpen
IsRefusal d event NotOpen = RefusesStep d event NotOpen
IsRefusal d event NoRoom = RefusesStep d event NoRoom
IsRefusal d event (Refused fault) = RefusesStep d event (Refused fault)
IsRefusal d event Memory = MayRunOut d event

-- an event of a connection leaves the snapshot, and a publication the connections
abbrev pub LeavesRest : Event → Contents Snapshot → Contents Snapshot → Type 0
LeavesRest (Open n) old new = new.mirror ≡ old.mirror
LeavesRest (Arrive n piece) old new = new.mirror ≡ old.mirror
LeavesRest (End n) old new = new.mirror ≡ old.mirror
LeavesRest (Publish changes) old new = new.connections ≡ old.connections
