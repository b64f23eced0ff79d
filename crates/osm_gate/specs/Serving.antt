-- What was read of a connection, piece by piece, and what was written to it.
-- Source: this project; what readers and writers tell of their bytes is std's.
use Rattle.std.specs.Prelude.{◌≡◌, ◌⊎◌, ◌<◌, ◌≤◌, ◌-◌, ℕ, Bool, true, false, List, ◌++◌, Option, IfSome, Result, Ok, Err, codes, length, take}
use Rattle.std.specs.Io.KnownBytes.{Appends, Consumes, IsAtEnd}
use Rattle.std.specs.List.{All, concat}
use Rattle.osm_keys.specs.Publications.{Publication}
use Rattle.osm_gate.specs.Connections.{RespondsTo, requests_in}
use Rattle.http_messages.specs.ResponseTexts.{response_text}
use Rattle.osm_gate.specs.Responses.{refusal}
use Rattle.byte_io.specs.Written.{AppendsFront}
use Rattle.osm_gate.specs.declared.gate_fault.GateFault.{GateFault}
use Rattle.osm_gate.specs.declared.gate_fault.GateFault.TheVariants.{Endless, Memory, Reader, Writer}

-- the bytes that a reader still has, before a call and after it, and those that a writer has, as far as they tell
pub record Exchange : Type 0 where
  pub unread : Option (List ℕ)
  pub left : Option (List ℕ)
  pub before : Option (List ℕ)
  pub after : Option (List ℕ)

-- the same of a reader and a writer that tell their bytes so
abbrev pub exchange_of : {R W : Type 0} → (remaining : R → Option (List ℕ)) → (contents : W → Option (List ℕ)) → (was is : R) → (old new : W) → Exchange
exchange_of remaining contents was is old new = record { unread = remaining was; left = remaining is; before = contents old; after = contents new }

-- the fixed response where memory runs out
unfoldable pub no_memory : List ℕ
no_memory = response_text (refusal true 503 (codes "no memory"))

-- ---- what was read

-- a read gives so many bytes at most, and a byte at least, but at the end
abbrev pub longest_piece : ℕ
longest_piece = 8192

abbrev pub IsPiece : List ℕ → Type 0
IsPiece piece = (0 < length piece) × (length piece ≤ longest_piece)

-- so many reads are made of a connection at most
abbrev pub most_reads : ℕ
most_reads = 1048576

-- the connection has ended after these pieces: no further bytes have a response
abbrev pub is_closed_by : List (List ℕ) → Bool
is_closed_by pieces = (requests_in (concat pieces)).rest.is_closed

-- the pieces before the last one
abbrev pub but_last : List (List ℕ) → List (List ℕ)
but_last pieces = take (length pieces - 1) pieces

-- these pieces were read, one after the other
pub record AreRead (unread left : Option (List ℕ)) (pieces : List (List ℕ)) : Type 0 where
  pub sized : All IsPiece pieces
  pub few : length pieces ≤ most_reads
  -- the last of them was read while the connection was open, and so all of them were
  pub still_open : is_closed_by (but_last pieces) ≡ false
  pub consumed : Consumes unread left (concat pieces)

-- ---- what was written

-- such pieces were read, and their requests have their responses
abbrev pub HasResponded : Publication → Exchange → (List (List ℕ) → Type 0) → Type 0
HasResponded p e P = (pieces : List (List ℕ)) × (text : List ℕ) × AreRead e.unread e.left pieces × P pieces
    × RespondsTo p (concat pieces) text × Appends e.before e.after text

-- the connection ended with the last piece, or the input ended before so many reads were made that no further one is
abbrev pub HasEnd : Exchange → List (List ℕ) → Type 0
HasEnd e pieces = (is_closed_by pieces ≡ true) ⊎ ((is_closed_by pieces ≡ false) × (length pieces < most_reads) × IsAtEnd e.left)

-- a further read is to be made
abbrev pub IsReading : List (List ℕ) → Type 0
IsReading pieces = (is_closed_by pieces ≡ false) × (length pieces < most_reads)

-- a further read would be to be made, if there weren't so many
abbrev pub IsEndless : List (List ℕ) → Type 0
IsEndless pieces = (is_closed_by pieces ≡ false) × (length pieces ≡ most_reads)

-- what was read before the last piece has its responses, and after them it was said that memory runs out; it may run out
-- before anything is read
abbrev pub HasGivenUp : Publication → Exchange → Type 0
HasGivenUp p e = (pieces : List (List ℕ)) × (text : List ℕ) × AreRead e.unread e.left pieces
    × RespondsTo p (concat (but_last pieces)) text × Appends e.before e.after (text ++ no_memory)

-- a beginning was written of the responses to what was read, or of those to what was read before the last piece and of what
-- is said where memory runs out
abbrev pub HasBegun : Publication → Exchange → Type 0
HasBegun p e = (pieces : List (List ℕ)) × (text : List ℕ) × AreRead e.unread e.left pieces
    × ((RespondsTo p (concat pieces) text × AppendsFront e.before e.after text)
    ⊎ (RespondsTo p (concat (but_last pieces)) text × AppendsFront e.before e.after (text ++ no_memory)))

-- what was read and written, where it breaks off so
abbrev pub HasBrokenOff : Publication → Exchange → GateFault → Type 0
HasBrokenOff p e Reader = HasResponded p e IsReading
HasBrokenOff p e Writer = HasBegun p e
HasBrokenOff p e Memory = HasGivenUp p e
HasBrokenOff p e Endless = HasResponded p e IsEndless

-- and where it ends so
abbrev pub HasEnded : Publication → Exchange → Result (Unit {0}) GateFault → Type 0
HasEnded p e (Ok done) = HasResponded p e (HasEnd e)
HasEnded p e (Err fault) = HasBrokenOff p e fault

-- the whole input has its responses, whether or not all of it was read
abbrev pub HasServed : Publication → Exchange → Type 0
HasServed p e = IfSome e.unread (λ input. (text : List ℕ) × RespondsTo p input text × Appends e.before e.after text)
