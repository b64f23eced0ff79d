-- A desk as a machine over what happens: what is in force, and what is left of each open connection.
-- Source: this project.
use Rattle.std.specs.FinMap.{FinMap, empty, get, insert, len, remove}
use Rattle.std.specs.Ordering.{nat_cmp}
use Rattle.std.specs.Prelude.{ℕ, List, [], ◌∷◌, Option, Some, None, Result, Ok, Err, if◌then◌else◌, nat_lt}
use Rattle.osm_gate.specs.Connections.{Rest, requests_next, open_rest}
use Rattle.http_messages.specs.Requests.{Request}
use Rattle.osm_keys.specs.Publications.{Publication}
use Rattle.osm_index.specs.declared.apply_fault.ApplyFault.{ApplyFault}
use Rattle.osm_desk.specs.Happenings.{Happening, arrived, ended, opened, published}
use Rattle.osm_desk.specs.declared.desk_fault.DeskFault.{DeskFault}
use Rattle.osm_desk.specs.declared.desk_fault.DeskFault.TheVariants.{AlreadyOpen, NoRoom, NotOpen, Refused}
use Rattle.osm_desk.specs.declared.limits.TheConstants.{CONNECTION_LIMIT}

-- what is left of each open connection, by its number
abbrev pub Connections : Type 0
Connections = FinMap nat_cmp Rest

pub record Desk : Type 0 where
  pub publication : Publication
  pub connections : Connections

-- some requests that a piece completes, and the publication in force at that time
pub record Completion : Type 0 where
  pub requests : List Request
  pub publication : Publication

-- the completions of connections, by their numbers, and the desk after that
pub record Step : Type 0 where
  pub reply : Result (List (ℕ × Completion)) DeskFault
  pub desk : Desk

-- a desk without connections
abbrev pub fresh_desk : Publication → Desk
fresh_desk p = record { publication = p; connections = empty }

-- a refusal changes nothing
abbrev pub refuse : Desk → DeskFault → Step
refuse d fault = record { reply = Err fault; desk = d }

abbrev pub silent_step : Publication → Connections → Step
silent_step p connections = record { reply = Ok []; desk = record { publication = p; connections = connections } }

abbrev pub open_step : Desk → ℕ → Option Rest → Step
open_step d n (Some rest) = refuse d AlreadyOpen
open_step d n None =
    if nat_lt (len d.connections) CONNECTION_LIMIT then silent_step d.publication (insert d.connections n (open_rest []))
    else refuse d NoRoom

abbrev pub arrive_step : Desk → ℕ → List ℕ → Option Rest → Step
arrive_step d n piece None = refuse d NotOpen
arrive_step d n piece (Some rest) = record {
  reply = Ok ((n, record { requests = (requests_next rest piece).complete; publication = d.publication }) ∷ []);
  desk = record { publication = d.publication; connections = insert d.connections n (requests_next rest piece).rest };
}

abbrev pub end_step : Desk → ℕ → Option Rest → Step
end_step d n None = refuse d NotOpen
end_step d n (Some rest) = silent_step d.publication (remove d.connections n)

abbrev pub publish_step : Desk → Result Publication ApplyFault → Step
publish_step d (Err fault) = refuse d (Refused fault)
publish_step d (Ok p) = silent_step p d.connections

-- one step: an open connection of this number is D1 before the limit is D3
abbrev pub step : Desk → Happening → Step
step d (opened n) = open_step d n (get d.connections n)
step d (arrived n piece) = arrive_step d n piece (get d.connections n)
step d (ended n) = end_step d n (get d.connections n)
step d (published made) = publish_step d made

-- the replies to one happening after the other
abbrev pub replies : Desk → List Happening → List (Result (List (ℕ × Completion)) DeskFault)
replies d [] = []
replies d (h ∷ hs) = (step d h).reply ∷ replies (step d h).desk hs
