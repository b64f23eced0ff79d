-- How what is read of a connection is cut into pieces: after each empty line, where a head may end, and so that a piece
-- completes one request at most.
-- Source: this project; where a head ends is that of http_messages.
use Rattle.std.specs.Prelude.{◌≡◌, ◌≤◌, ℕ, List, Option, Some, None, length, zero, suc}
use Rattle.http_messages.specs.HeadEnds.{head_length}
use Rattle.osm_gate.specs.Connections.{Rest, requests_next}

abbrev pub cut_or : ℕ → Option ℕ → ℕ
cut_or all None = all
cut_or all (Some n) = n

-- the length of what comes up to the first empty line, and with it; of all bytes where there is none
abbrev pub cut_length : List ℕ → ℕ
cut_length bytes = cut_or (length bytes) (head_length bytes)

-- nothing comes after an empty line
abbrev pub IsCut : List ℕ → Type 0
IsCut piece = cut_length piece ≡ length piece

-- it completes one request at most
abbrev pub CompletesOne : Rest → List ℕ → Type 0
CompletesOne rest piece = length (requests_next rest piece).complete ≤ 1

-- it has at most as many bytes as are wanted; where 0 are, as many as come up to an empty line
abbrev pub IsWanted : ℕ → List ℕ → Type 0
IsWanted zero piece = IsCut piece
IsWanted (suc n) piece = length piece ≤ suc n
