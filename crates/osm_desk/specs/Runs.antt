-- What the code did, one happening after the other, and what each connection got.
-- Source: this project.
use Rattle.std.specs.Prelude.{◌≡◌, ◌==◌, ℕ, Bool, true, false, List, [], ◌∷◌, ◌++◌, Option, None, Result, Ok, Err, if◌then◌else◌}
use Rattle.osm_gate.specs.Connections.{RespondsOn}
use Rattle.osm_gate.specs.Terms.{Terms, within}
use Rattle.osm_desk.specs.Desks.{Completion, Desk, step}
use Rattle.osm_desk.specs.Happenings.{Happening}
use Rattle.osm_desk.specs.Stepping.{GivesOn}
use Rattle.osm_desk.specs.declared.desk_fault.DeskFault.{DeskFault}
use Rattle.osm_desk.specs.declared.desk_fault.DeskFault.TheVariants.{AlreadyOpen, Memory, NoRoom, NotOpen, Refused}

-- what happened, and what the code answered
abbrev pub Done : Type 0
Done = Happening × Result (List (ℕ × List ℕ)) DeskFault

-- it wasn't refused out of memory
abbrev pub stands : DeskFault → Bool
stands AlreadyOpen = true
stands NotOpen = true
stands NoRoom = true
stands (Refused fault) = true
stands Memory = false

-- a refusal is the step's own, or memory ran out
abbrev pub IsRefusedBy : Desk → Happening → DeskFault → Type 0
IsRefusedBy d h fault = stands fault ≡ true → (step d h).reply ≡ Err fault

-- each answer is one that a step may give on these terms, and a refusal changes nothing
abbrev pub RanOn : Terms → Desk → List Done → Type 0
RanOn terms d [] = Unit {0}
RanOn terms d ((h, Ok answers) ∷ more) = GivesOn terms (step d h).reply answers × RanOn terms (step d h).desk more
RanOn terms d ((h, Err fault) ∷ more) = IsRefusedBy d h fault × RanOn terms d more

-- the same where nodes are held in memory, and there may be a budget for each query,
abbrev pub RanWithin : Option ℕ → Desk → List Done → Type 0
RanWithin most d run = RanOn (within most) d run

-- and where there is none
abbrev pub Ran : Desk → List Done → Type 0
Ran d run = RanWithin None d run

-- what happened, without what was refused out of memory
abbrev pub lasting_happenings : List Done → List Happening
lasting_happenings [] = []
lasting_happenings ((h, Ok answers) ∷ more) = h ∷ lasting_happenings more
lasting_happenings ((h, Err fault) ∷ more) = if stands fault then h ∷ lasting_happenings more else lasting_happenings more

abbrev pub texts_in : ℕ → List (ℕ × List ℕ) → List (List ℕ)
texts_in c [] = []
texts_in c (a ∷ answers) = if a.0 == c then a.1 ∷ texts_in c answers else texts_in c answers

-- what connection c got, piece by piece
abbrev pub texts_got : ℕ → List Done → List (List ℕ)
texts_got c [] = []
texts_got c ((h, Ok answers) ∷ more) = texts_in c answers ++ texts_got c more
texts_got c ((h, Err fault) ∷ more) = texts_got c more

-- text by text the responses to these completions, on these terms
abbrev pub RespondAllOn : Terms → List Completion → List (List ℕ) → Type 0
RespondAllOn terms [] [] = Unit {0}
RespondAllOn terms [] (text ∷ texts) = ⊥
RespondAllOn terms (t ∷ ts) [] = ⊥
RespondAllOn terms (t ∷ ts) (text ∷ texts) = RespondsOn terms t.publication t.requests text × RespondAllOn terms ts texts

-- the same where nodes are held in memory, and there may be a budget for each query,
abbrev pub RespondAllWithin : Option ℕ → List Completion → List (List ℕ) → Type 0
RespondAllWithin most ts texts = RespondAllOn (within most) ts texts

-- and where there is none
abbrev pub RespondAll : List Completion → List (List ℕ) → Type 0
RespondAll ts texts = RespondAllWithin None ts texts
