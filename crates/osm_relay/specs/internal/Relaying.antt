-- How the loop stands between two happenings.
use Rattle.std.specs.List.{All}
use Rattle.std.specs.Prelude.{◌≡◌, ◌+◌, ℕ, Bool, true, false, List, ◌++◌, Option, Some, Result, Ok, Err, map, if◌then◌else◌}
use Rattle.osm_relay.specs.Events.{Event, IsCause, IsDone, Relays, arrivals, is_invited, open_ones, waits}
use Rattle.osm_relay.specs.Relayed.{Standing}
use Rattle.osm_relay.specs.declared.relay_fault.RelayFault.{RelayFault}

-- what stays the same: how many clients are wanted, which roots may be told, the budget, whether wires tell, and what the log was
pub record Setting : Type 0 where
  pub wanted : ℕ
  pub trusts : List ℕ → Bool
  pub most : Option ℕ
  pub tells : Bool
  pub base : List Event

abbrev pub numbers : List Standing → List ℕ
numbers there = map (λ (s : Standing). s.number) there

-- its root may be told, and its budget is this
abbrev pub IsTrusted : (List ℕ → Bool) → Option ℕ → Standing → Type 0
IsTrusted trusts most s = (trusts s.terms.root.0 ≡ true) × (s.terms.most ≡ most)

abbrev pub AreTrusted : (List ℕ → Bool) → Option ℕ → List Standing → Type 0
AreTrusted trusts most there = All (IsTrusted trusts most) there

abbrev pub IsRun : Setting → List Event → Type 0
IsRun s events = Relays s.wanted s.tells s.trusts s.most events

-- so many times it was waited, so many clients were taken, and these conversations are open
pub record Stands (s : Setting) (events : List Event) (rounds taken : ℕ) (log : Option (List Event)) (there : List Standing) : Type 0 where
  pub logged : log ≡ Some (events ++ s.base)
  pub run : IsRun s events
  pub rounds_are : waits events ≡ rounds
  pub taken_are : arrivals events ≡ taken
  pub open_are : open_ones events ≡ numbers there
  pub trusted : AreTrusted s.trusts s.most there

-- its roots are among those that may be told
abbrev pub Trusts : Setting → (List ℕ → Bool) → Type 0
Trusts s may_tell = (root : List ℕ) → may_tell root ≡ true → s.trusts root ≡ true

-- it goes on
abbrev pub Moves : Setting → (rounds taken : ℕ) → Option (List Event) → List Standing → Type 0
Moves s rounds taken log there = (events : List Event) × Stands s events rounds taken log there × (is_invited events ≡ false)

-- it ends for this reason
pub record Stops (s : Setting) (log : Option (List Event)) (fault : RelayFault) : Type 0 where
  pub events : List Event
  pub logged : log ≡ Some (events ++ s.base)
  pub run : IsRun s events
  pub unfinished : IsDone s.wanted events → ⊥
  pub cause : IsCause fault events

-- a client was taken or not, or taking it has failed
abbrev pub Turns : Setting → (rounds taken : ℕ) → Option (List Event) → List Standing → Result Bool RelayFault → Type 0
Turns s rounds taken log there (Ok is_taken) = Moves s rounds (if is_taken then taken + 1 else taken) log there
Turns s rounds taken log there (Err fault) = Stops s log fault
