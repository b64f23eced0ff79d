-- What one connection completes, by what happens alone: no other connection has a part in it.
-- Source: this project.
use Rattle.std.specs.FinMap.{len, remove}
use Rattle.std.specs.List.{filter}
use Rattle.std.specs.Prelude.{◌≡◌, ◌==◌, ◌<◌, ℕ, Bool, true, List, [], ◌∷◌, ◌++◌, length, drop, Option, Some, None, Result, Ok, Err, if◌then◌else◌}
use Rattle.osm_gate.specs.Connections.{requests_in}
use Rattle.http_messages.specs.Requests.{Request}
use Rattle.osm_keys.specs.Publications.{Publication}
use Rattle.osm_index.specs.declared.apply_fault.ApplyFault.{ApplyFault}
use Rattle.osm_desk.specs.Desks.{Completion, Desk, step}
use Rattle.osm_desk.specs.Happenings.{Happening, arrived, ended, opened, published}
use Rattle.osm_desk.specs.declared.desk_fault.DeskFault.{DeskFault}
use Rattle.osm_desk.specs.declared.limits.TheConstants.{CONNECTION_LIMIT}

-- what is in force after changes are published: refused ones change nothing
abbrev pub in_force : Publication → Result Publication ApplyFault → Publication
in_force p (Err fault) = p
in_force p (Ok new) = new

-- the requests of these bytes and the piece after them that are complete only with the piece
abbrev pub requests_completed : List ℕ → List ℕ → List Request
requests_completed bytes piece = drop (length (requests_in bytes).complete) (requests_in (bytes ++ piece)).complete

-- the life of a connection is the bytes since it was opened; none while it isn't open
abbrev pub life_opened : Option (List ℕ) → Option (List ℕ)
life_opened None = Some []
life_opened (Some bytes) = Some bytes

abbrev pub life_with : Option (List ℕ) → List ℕ → Option (List ℕ)
life_with None piece = None
life_with (Some bytes) piece = Some (bytes ++ piece)

abbrev pub completions_with : Publication → Option (List ℕ) → List ℕ → List Completion → List Completion
completions_with p None piece later = later
completions_with p (Some bytes) piece later = record { requests = requests_completed bytes piece; publication = p } ∷ later

abbrev pub completions_from : ℕ → Publication → Option (List ℕ) → List Happening → List Completion
completions_from c p life [] = []
completions_from c p life (opened n ∷ hs) = completions_from c p (if n == c then life_opened life else life) hs
completions_from c p life (arrived n piece ∷ hs) =
    if n == c then completions_with p life piece (completions_from c p (life_with life piece) hs)
    else completions_from c p life hs
completions_from c p life (ended n ∷ hs) = completions_from c p (if n == c then None else life) hs
completions_from c p life (published made ∷ hs) = completions_from c (in_force p made) life hs

-- what connection c completes, piece by piece, from this publication on
abbrev pub completions_of : ℕ → List Happening → Publication → List Completion
completions_of c hs p = completions_from c p None hs

-- it happens to connection c, or to all
abbrev pub concerns : ℕ → Happening → Bool
concerns c (opened n) = n == c
concerns c (arrived n piece) = n == c
concerns c (ended n) = n == c
concerns c (published made) = true

-- what happens to the connection, and all that is published
abbrev pub own_happenings : ℕ → List Happening → List Happening
own_happenings c hs = filter (concerns c) hs

-- ---- its completions in what a desk replies

abbrev pub of_number : ℕ → List (ℕ × Completion) → List Completion
of_number c [] = []
of_number c (p ∷ ps) = if p.0 == c then p.1 ∷ of_number c ps else of_number c ps

abbrev pub completions_in : ℕ → Result (List (ℕ × Completion)) DeskFault → List Completion
completions_in c (Err fault) = []
completions_in c (Ok pairs) = of_number c pairs

abbrev pub all_completions_in : ℕ → List (Result (List (ℕ × Completion)) DeskFault) → List Completion
all_completions_in c [] = []
all_completions_in c (r ∷ rs) = completions_in c r ++ all_completions_in c rs

-- where c is opened, fewer than 64 others are open
abbrev pub MeetsRoom : ℕ → Desk → Happening → Type 0
MeetsRoom c d (opened n) = n ≡ c → len (remove d.connections c) < CONNECTION_LIMIT
MeetsRoom c d (arrived n piece) = Unit {0}
MeetsRoom c d (ended n) = Unit {0}
MeetsRoom c d (published made) = Unit {0}

-- whenever c is opened
abbrev pub FindsRoom : ℕ → Desk → List Happening → Type 0
FindsRoom c d [] = Unit {0}
FindsRoom c d (h ∷ hs) = MeetsRoom c d h × FindsRoom c (step d h).desk hs
