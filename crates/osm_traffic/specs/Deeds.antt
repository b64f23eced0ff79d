-- What the server did, the newest first: steps of the desk, what went to the sockets, and waiting.
-- Source: this project.
use Rattle.std.specs.FinMap.{get, len}
use Rattle.std.specs.Prelude.{◌≡◌, ◌==◌, ◌<◌, ◌-◌, ◌↔◌, ℕ, suc, Bool, true, false, List, [], ◌∷◌, ◌++◌, Result, Ok, Err, if◌then◌else◌}
use Rattle.osm_desk.specs.Desks.{Desk, step}
use Rattle.osm_desk.specs.Happenings.{Happening, arrived, ended, opened, published}
use Rattle.osm_desk.specs.OneConnection.{rest_if}
use Rattle.osm_desk.specs.Runs.{Done, IsRefusedBy}
use Rattle.osm_desk.specs.Stepping.{GivesOn}
use Rattle.osm_gate.specs.Serving.{no_memory}
use Rattle.osm_gate.specs.Terms.{Terms}
use Rattle.osm_keys.specs.Publications.{Publication}
use Rattle.osm_desk.specs.declared.desk_fault.DeskFault.{DeskFault}
use Rattle.osm_desk.specs.declared.limits.TheConstants.{CONNECTION_LIMIT}
use Rattle.osm_index.specs.declared.apply_fault.ApplyFault.{ApplyFault}
use Rattle.osm_gate.specs.Pieces.{CompletesOne, IsCut}
use Rattle.osm_desk.specs.Published.{IsPublishedFrom}
use Rattle.osm_traffic.specs.Entries as entries
use Rattle.osm_traffic.specs.Entries.{Entry, brought, came, left, took}
use Rattle.osm_traffic.specs.declared.traffic.Room.{Room}
use Rattle.osm_traffic.specs.declared.traffic.Room.TheVariants.{Free}

-- a step of the desk; bytes that a socket took; a connection that was let go, whole or broken off, or forgotten where the
-- sockets have none of its number; and what is next was waited for, with this room for a further connection
pub data Deed : Type 0 where
  stepped : Happening → Result (List (ℕ × List ℕ)) DeskFault → Deed
  handed : ℕ → List ℕ → Deed
  parted : ℕ → Bool → Deed
  lost : ℕ → Deed
  waited : Room → Deed

-- what of it the sockets see
abbrev pub log_of : List Deed → List Entry
log_of [] = []
log_of (stepped (opened n) r ∷ before) = came n ∷ log_of before
log_of (stepped (arrived n piece) r ∷ before) = brought n piece ∷ log_of before
log_of (stepped (ended n) r ∷ before) = log_of before
log_of (stepped (published made) r ∷ before) = log_of before
log_of (handed n bytes ∷ before) = took n bytes ∷ log_of before
log_of (parted n whole ∷ before) = left n whole ∷ log_of before
log_of (lost n ∷ before) = log_of before
log_of (waited room ∷ before) = entries.waited room ∷ log_of before

-- the desk after it: a refusal changes nothing
abbrev pub desk_after : Desk → List Deed → Desk
desk_after d [] = d
desk_after d (stepped h (Ok answers) ∷ before) = (step (desk_after d before) h).desk
desk_after d (stepped h (Err fault) ∷ before) = desk_after d before
desk_after d (handed n bytes ∷ before) = desk_after d before
desk_after d (parted n whole ∷ before) = desk_after d before
desk_after d (lost n ∷ before) = desk_after d before
desk_after d (waited room ∷ before) = desk_after d before

-- each answer is one that the step may give on these terms, and a refusal is the step's own, or memory ran out
abbrev pub Runs : Terms → Desk → List Deed → Type 0
Runs terms d [] = Unit {0}
Runs terms d (stepped h (Ok answers) ∷ before) = GivesOn terms (step (desk_after d before) h).reply answers × Runs terms d before
Runs terms d (stepped h (Err fault) ∷ before) = IsRefusedBy (desk_after d before) h fault × Runs terms d before
Runs terms d (handed n bytes ∷ before) = Runs terms d before
Runs terms d (parted n whole ∷ before) = Runs terms d before
Runs terms d (lost n ∷ before) = Runs terms d before
Runs terms d (waited room ∷ before) = Runs terms d before

-- what the socket of connection c took
abbrev pub sent : ℕ → List Deed → List ℕ
sent c [] = []
sent c (stepped h r ∷ before) = sent c before
sent c (handed n bytes ∷ before) = if n == c then sent c before ++ bytes else sent c before
sent c (parted n whole ∷ before) = sent c before
sent c (lost n ∷ before) = sent c before
sent c (waited room ∷ before) = sent c before

-- what a step has for connection c: its answers, or that memory ran out
abbrev pub texts_for : ℕ → List (ℕ × List ℕ) → List ℕ
texts_for c [] = []
texts_for c (a ∷ answers) = if a.0 == c then a.1 ++ texts_for c answers else texts_for c answers

-- where this is refused, memory has run out for connection c
abbrev pub starves : ℕ → Happening → Bool
starves c (opened n) = n == c
starves c (arrived n piece) = n == c
starves c (ended n) = false
starves c (published made) = false

abbrev pub apology_for : ℕ → Happening → List ℕ
apology_for c h = if starves c h then no_memory else []

abbrev pub text_for : ℕ → Happening → Result (List (ℕ × List ℕ)) DeskFault → List ℕ
text_for c h (Ok answers) = texts_for c answers
text_for c h (Err fault) = apology_for c h

-- all that connection c has coming, since it came
abbrev pub owed : ℕ → List Deed → List ℕ
owed c [] = []
owed c (stepped h r ∷ before) = owed c before ++ text_for c h r
owed c (handed n bytes ∷ before) = owed c before
owed c (parted n whole ∷ before) = owed c before
owed c (lost n ∷ before) = owed c before
owed c (waited room ∷ before) = owed c before

-- a connection is read, and let go as a whole one, only where its socket has taken all that it had coming
abbrev pub IsPaced : List Deed → Type 0
IsPaced [] = Unit {0}
IsPaced (stepped (opened n) r ∷ before) = IsPaced before
IsPaced (stepped (arrived n piece) r ∷ before) = (sent n before ≡ owed n before) × IsPaced before
IsPaced (stepped (ended n) r ∷ before) = IsPaced before
IsPaced (stepped (published made) r ∷ before) = IsPaced before
IsPaced (handed n bytes ∷ before) = IsPaced before
IsPaced (parted n false ∷ before) = IsPaced before
IsPaced (parted n true ∷ before) = (sent n before ≡ owed n before) × IsPaced before
IsPaced (lost n ∷ before) = IsPaced before
IsPaced (waited room ∷ before) = IsPaced before

-- how many connections came
abbrev pub arrivals : List Deed → ℕ
arrivals [] = 0
arrivals (stepped (opened n) r ∷ before) = suc (arrivals before)
arrivals (stepped (arrived n piece) r ∷ before) = arrivals before
arrivals (stepped (ended n) r ∷ before) = arrivals before
arrivals (stepped (published made) r ∷ before) = arrivals before
arrivals (handed n bytes ∷ before) = arrivals before
arrivals (parted n whole ∷ before) = arrivals before
arrivals (lost n ∷ before) = arrivals before
arrivals (waited room ∷ before) = arrivals before

-- how many are open: those that came and weren't let go or forgotten
abbrev pub open_count : List Deed → ℕ
open_count [] = 0
open_count (stepped (opened n) r ∷ before) = suc (open_count before)
open_count (stepped (arrived n piece) r ∷ before) = open_count before
open_count (stepped (ended n) r ∷ before) = open_count before
open_count (stepped (published made) r ∷ before) = open_count before
open_count (handed n bytes ∷ before) = open_count before
open_count (parted n whole ∷ before) = open_count before - 1
open_count (lost n ∷ before) = open_count before - 1
open_count (waited room ∷ before) = open_count before

-- a further connection may be taken exactly where one is wanted, and fewer than 64 are open, at the sockets and at the desk
abbrev pub MakesRoom : ℕ → Desk → List Deed → Type 0
MakesRoom wanted d [] = Unit {0}
MakesRoom wanted d (stepped h r ∷ before) = MakesRoom wanted d before
MakesRoom wanted d (handed n bytes ∷ before) = MakesRoom wanted d before
MakesRoom wanted d (parted n whole ∷ before) = MakesRoom wanted d before
MakesRoom wanted d (lost n ∷ before) = MakesRoom wanted d before
MakesRoom wanted d (waited room ∷ before) =
    ((room ≡ Free) ↔ ((arrivals before < wanted) × (open_count before < CONNECTION_LIMIT) × (len (desk_after d before).connections < CONNECTION_LIMIT)))
    × MakesRoom wanted d before

-- they are numbered from 0, and each is opened where fewer than 64 are open
abbrev pub HasRoom : Desk → List Deed → Type 0
HasRoom d [] = Unit {0}
HasRoom d (stepped (opened n) r ∷ before) = (n ≡ arrivals before) × (len (desk_after d before).connections < CONNECTION_LIMIT) × HasRoom d before
HasRoom d (stepped (arrived n piece) r ∷ before) = HasRoom d before
HasRoom d (stepped (ended n) r ∷ before) = HasRoom d before
HasRoom d (stepped (published made) r ∷ before) = HasRoom d before
HasRoom d (handed n bytes ∷ before) = HasRoom d before
HasRoom d (parted n whole ∷ before) = HasRoom d before
HasRoom d (lost n ∷ before) = HasRoom d before
HasRoom d (waited room ∷ before) = HasRoom d before

-- memory hasn't run out for connection c
abbrev pub is_fed : ℕ → List Deed → Bool
is_fed c [] = true
is_fed c (stepped h (Ok answers) ∷ before) = is_fed c before
is_fed c (stepped h (Err fault) ∷ before) = if starves c h then false else is_fed c before
is_fed c (handed n bytes ∷ before) = is_fed c before
is_fed c (parted n whole ∷ before) = is_fed c before
is_fed c (lost n ∷ before) = is_fed c before
is_fed c (waited room ∷ before) = is_fed c before

-- once it has, nothing of that connection is heard
abbrev pub IsHushed : List Deed → Type 0
IsHushed [] = Unit {0}
IsHushed (stepped (opened n) r ∷ before) = (is_fed n before ≡ true) × IsHushed before
IsHushed (stepped (arrived n piece) r ∷ before) = (is_fed n before ≡ true) × IsHushed before
IsHushed (stepped (ended n) r ∷ before) = IsHushed before
IsHushed (stepped (published made) r ∷ before) = IsHushed before
IsHushed (handed n bytes ∷ before) = IsHushed before
IsHushed (parted n whole ∷ before) = IsHushed before
IsHushed (lost n ∷ before) = IsHushed before
IsHushed (waited room ∷ before) = IsHushed before

-- that memory has run out is the last that a connection is told
abbrev pub last_word : Bool → List ℕ
last_word true = []
last_word false = no_memory

-- a publication of changes that a file holds; those that are refused aren't told
abbrev pub IsFromFile : Publication → Result Publication ApplyFault → Type 0
IsFromFile p (Ok q) = IsPublishedFrom p q
IsFromFile p (Err fault) = ⊥

-- each publication is one that a change file makes of what was in force
abbrev pub AreMade : Desk → List Deed → Type 0
AreMade d [] = Unit {0}
AreMade d (stepped (opened n) r ∷ before) = AreMade d before
AreMade d (stepped (arrived n piece) r ∷ before) = AreMade d before
AreMade d (stepped (ended n) r ∷ before) = AreMade d before
AreMade d (stepped (published made) r ∷ before) = IsFromFile (desk_after d before).publication made × AreMade d before
AreMade d (handed n bytes ∷ before) = AreMade d before
AreMade d (parted n whole ∷ before) = AreMade d before
AreMade d (lost n ∷ before) = AreMade d before
AreMade d (waited room ∷ before) = AreMade d before

-- each piece that was read is cut after an empty line
abbrev pub AreCut : List Deed → Type 0
AreCut [] = Unit {0}
AreCut (stepped (opened n) r ∷ before) = AreCut before
AreCut (stepped (arrived n piece) r ∷ before) = IsCut piece × AreCut before
AreCut (stepped (ended n) r ∷ before) = AreCut before
AreCut (stepped (published made) r ∷ before) = AreCut before
AreCut (handed n bytes ∷ before) = AreCut before
AreCut (parted n whole ∷ before) = AreCut before
AreCut (lost n ∷ before) = AreCut before
AreCut (waited room ∷ before) = AreCut before

-- each piece that was read completes one request at most, with what was left of its connection
abbrev pub AreSingle : Desk → List Deed → Type 0
AreSingle d [] = Unit {0}
AreSingle d (stepped (opened n) r ∷ before) = AreSingle d before
AreSingle d (stepped (arrived n piece) r ∷ before) = CompletesOne (rest_if (get (desk_after d before).connections n)) piece × AreSingle d before
AreSingle d (stepped (ended n) r ∷ before) = AreSingle d before
AreSingle d (stepped (published made) r ∷ before) = AreSingle d before
AreSingle d (handed n bytes ∷ before) = AreSingle d before
AreSingle d (parted n whole ∷ before) = AreSingle d before
AreSingle d (lost n ∷ before) = AreSingle d before
AreSingle d (waited room ∷ before) = AreSingle d before

-- what the server did is a run of the desk, where queries are answered on these terms, and so many connections are wanted
pub record Serves (terms : Terms) (wanted : ℕ) (d : Desk) (deeds : List Deed) : Type 0 where
  -- each step is one that the desk may make,
  pub ran : Runs terms d deeds
  -- each socket has taken a beginning of what its connection has coming,
  pub fronts : (c : ℕ) → (rest : List ℕ) × (sent c deeds ++ rest ≡ owed c deeds)
  -- and all of it where the connection is read on, or let go as a whole one,
  pub paced : IsPaced deeds
  -- the connections are numbered from 0, and each finds room,
  pub room : HasRoom d deeds
  -- and a further one may be taken wherever there is room for it,
  pub makes_room : MakesRoom wanted d deeds
  -- nothing of a connection is heard once memory has run out for it,
  pub hushed : IsHushed deeds
  -- what is published is made by change files,
  pub made : AreMade d deeds
  -- no piece goes on after an empty line,
  pub cut : AreCut deeds
  -- and none completes more than one request
  pub single : AreSingle d deeds

-- the steps alone, the oldest first
abbrev pub in_order : List Deed → List Done
in_order [] = []
in_order (stepped h r ∷ before) = in_order before ++ (h, r) ∷ []
in_order (handed n bytes ∷ before) = in_order before
in_order (parted n whole ∷ before) = in_order before
in_order (lost n ∷ before) = in_order before
in_order (waited room ∷ before) = in_order before

-- the texts one after the other
abbrev pub joined : List (List ℕ) → List ℕ
joined [] = []
joined (text ∷ texts) = text ++ joined texts
