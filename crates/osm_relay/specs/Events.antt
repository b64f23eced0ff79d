-- What happened at the network of a relay, the newest first, and how a run of the relay goes.
-- Source: this project.
use Rattle.std.specs.List.{Contains}
use Rattle.std.specs.Prelude.{◌≡◌, ◌==◌, ◌<◌, ◌-◌, ◌^◌, ◌⊎◌, ℕ, suc, ltb, Bool, true, false, List, [], ◌∷◌, ◌++◌, length, Option, Some, None, option_map, Result, Ok, Err, if◌then◌else◌}
use Rattle.osm_relay.specs.Logs.{Log}
use Rattle.osm_relay.specs.Relayed.{IsAskedFor, IsTakenAt}
use Rattle.osm_relay.specs.declared.limits.TheConstants.{CONVERSATION_LIMIT}
use Rattle.osm_relay.specs.declared.network.News.{News}
use Rattle.osm_relay.specs.declared.network.News.TheVariants as news
use Rattle.osm_relay.specs.declared.network.Room.{Room}
use Rattle.osm_relay.specs.declared.network.Room.TheVariants.{Closed, Free, Full}
use Rattle.osm_relay.specs.declared.relay_fault.RelayFault.{RelayFault}
use Rattle.osm_relay.specs.declared.relay_fault.RelayFault.TheVariants.{Endless, Memory}
use Rattle.osm_relay.specs.declared.terms.Terms.{Terms}

-- with this room for a further client it was waited for what is next, and this was told; a client was taken for the
-- conversation of this number, there was none any more, or taking one was refused; the client of the conversation was let
-- go, after all of its response or not, and this had gone over its wire
pub data Event : Type 0 where
  waited : Room → Result News RelayFault → Event
  came : ℕ → Event
  missed : ℕ → Event
  failed : ℕ → RelayFault → Event
  left : ℕ → Bool → Log → Event

abbrev pub noted : Event → Option (List Event) → Option (List Event)
noted event log = option_map (λ events. event ∷ events) log

abbrev pub taken_as : {W : Type 0} → ℕ → Result (Option W) RelayFault → Event
taken_as number (Ok (Some wire)) = came number
taken_as number (Ok None) = missed number
taken_as number (Err fault) = failed number fault

-- ---- what has happened

-- how many clients came
abbrev pub arrivals : List Event → ℕ
arrivals [] = 0
arrivals (waited room told ∷ before) = arrivals before
arrivals (came n ∷ before) = suc (arrivals before)
arrivals (missed n ∷ before) = arrivals before
arrivals (failed n fault ∷ before) = arrivals before
arrivals (left n whole wire ∷ before) = arrivals before

-- how many times it was waited for what is next
abbrev pub waits : List Event → ℕ
waits [] = 0
waits (waited room told ∷ before) = suc (waits before)
waits (came n ∷ before) = waits before
waits (missed n ∷ before) = waits before
waits (failed n fault ∷ before) = waits before
waits (left n whole wire ∷ before) = waits before

-- without the first that is this number
abbrev pub without : ℕ → List ℕ → List ℕ
without n [] = []
without n (m ∷ more) = if m == n then more else m ∷ without n more

-- the conversations that are open, in the order in which their clients came
abbrev pub open_ones : List Event → List ℕ
open_ones [] = []
open_ones (waited room told ∷ before) = open_ones before
open_ones (came n ∷ before) = open_ones before ++ n ∷ []
open_ones (missed n ∷ before) = open_ones before
open_ones (failed n fault ∷ before) = open_ones before
open_ones (left n whole wire ∷ before) = without n (open_ones before)

-- a client waits, and there is room for it
abbrev pub invites : Result News RelayFault → Room → Bool
invites (Ok news.Waiting) Free = true
invites (Ok news.Waiting) Full = false
invites (Ok news.Waiting) Closed = false
invites (Ok (news.Ready n)) room = false
invites (Ok (news.Silent n)) room = false
invites (Err fault) room = false

-- that is the last that was told
abbrev pub is_invited : List Event → Bool
is_invited [] = false
is_invited (waited room told ∷ before) = invites told room
is_invited (came n ∷ before) = false
is_invited (missed n ∷ before) = false
is_invited (failed n fault ∷ before) = false
is_invited (left n whole wire ∷ before) = false

-- this is told of the conversation of this number
abbrev pub calls : ℕ → Result News RelayFault → Bool
calls n (Ok news.Waiting) = false
calls n (Ok (news.Ready m)) = m == n
calls n (Ok (news.Silent m)) = m == n
calls n (Err fault) = false

-- that is the last that was told
abbrev pub is_called : ℕ → List Event → Bool
is_called n [] = false
is_called n (waited room told ∷ before) = calls n told
is_called n (came m ∷ before) = false
is_called n (missed m ∷ before) = false
is_called n (failed m fault ∷ before) = false
is_called n (left m whole wire ∷ before) = false

-- as many clients came as are wanted, and none of them is there any more
abbrev pub IsDone : ℕ → List Event → Type 0
IsDone wanted events = (arrivals events ≡ wanted) × (open_ones events ≡ [])

-- ---- which clients come and go

-- the room for a further client: where one is wanted, and fewer conversations are open than may be
abbrev pub room_at : (wanted taken count : ℕ) → Room
room_at wanted taken count = if ltb taken wanted then (if ltb count CONVERSATION_LIMIT then Free else Full) else Closed

-- what is next is waited for where something is left to do, and each client for which there is room was tried
pub record IsDue (wanted : ℕ) (before : List Event) (room : Room) : Type 0 where
  pub room_is : room ≡ room_at wanted (arrivals before) (length (open_ones before))
  pub heeded : is_invited before ≡ false
  pub unfinished : IsDone wanted before → ⊥

-- a client is tried where one waits, under the number of those that came, where one is wanted, and fewer than 64 are open
pub record IsNext (wanted n : ℕ) (before : List Event) : Type 0 where
  pub invited : is_invited before ≡ true
  pub number : n ≡ arrivals before
  pub few : arrivals before < wanted
  pub room : length (open_ones before) < CONVERSATION_LIMIT

-- a client is let go once the conversation, which is open, was told of
pub record IsLeaving (n : ℕ) (before : List Event) : Type 0 where
  pub called : is_called n before ≡ true
  pub open_is : Contains (open_ones before) n

abbrev pub IsOrderly : ℕ → List Event → Type 0
IsOrderly wanted [] = Unit {0}
IsOrderly wanted (waited room told ∷ before) = IsDue wanted before room × IsOrderly wanted before
IsOrderly wanted (came n ∷ before) = IsNext wanted n before × IsOrderly wanted before
IsOrderly wanted (missed n ∷ before) = IsNext wanted n before × IsOrderly wanted before
IsOrderly wanted (failed n fault ∷ before) = IsNext wanted n before × IsOrderly wanted before
IsOrderly wanted (left n whole wire ∷ before) = IsLeaving n before × IsOrderly wanted before

-- ---- what clients are told

-- what a client has taken when it is let go is what the promise of its conversation says, under a root that may be told and
-- with this budget
abbrev pub IsToldRightly : (trusts : List ℕ → Bool) → (most : Option ℕ) → Bool → Log → Type 0
IsToldRightly trusts most whole wire =
    (terms : Terms) × (mirror : Option Log) × (trusts terms.root.0 ≡ true) × (terms.most ≡ most) × IsTakenAt (Some whole) terms wire mirror
    × IsAskedFor wire.brought mirror

-- where wires tell what went over them
abbrev pub AreToldRightly : (tells : Bool) → (trusts : List ℕ → Bool) → (most : Option ℕ) → List Event → Type 0
AreToldRightly tells trusts most [] = Unit {0}
AreToldRightly tells trusts most (waited room told ∷ before) = AreToldRightly tells trusts most before
AreToldRightly tells trusts most (came n ∷ before) = AreToldRightly tells trusts most before
AreToldRightly tells trusts most (missed n ∷ before) = AreToldRightly tells trusts most before
AreToldRightly tells trusts most (failed n fault ∷ before) = AreToldRightly tells trusts most before
AreToldRightly tells trusts most (left n whole wire ∷ before) = (tells ≡ true → IsToldRightly trusts most whole wire) × AreToldRightly tells trusts most before

-- ---- a run

-- the run of a relay of which so many clients are wanted, with this budget for the check of each proof
pub record Relays (wanted : ℕ) (tells : Bool) (trusts : List ℕ → Bool) (most : Option ℕ) (events : List Event) : Type 0 where
  pub orderly : IsOrderly wanted events
  pub told : AreToldRightly tells trusts most events

-- the last that happened is why it ended: the network told this fault, or there was no memory for a client that came
abbrev pub IsCause : RelayFault → List Event → Type 0
IsCause fault [] = ⊥
IsCause fault (waited room (Ok told) ∷ before) = ⊥
IsCause fault (waited room (Err told) ∷ before) = fault ≡ told
IsCause fault (came n ∷ before) = fault ≡ Memory
IsCause fault (missed n ∷ before) = ⊥
IsCause fault (failed n told ∷ before) = fault ≡ told
IsCause fault (left n whole wire ∷ before) = ⊥

-- how it ends: well exactly where it is done, and else for this cause, or since it was waited so many times
abbrev pub Ends : ℕ → List Event → Result (Unit {0}) RelayFault → Type 0
Ends wanted events (Ok done) = IsDone wanted events
Ends wanted events (Err fault) =
    (IsDone wanted events → ⊥) × (IsCause fault events ⊎ ((fault ≡ Endless) × (waits events ≡ 2 ^ 64 - 1)))
