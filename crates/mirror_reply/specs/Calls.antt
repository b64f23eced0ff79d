-- What was called at a dial, and how it ended.
-- Source: this project.
use Rattle.std.specs.Prelude.{◌≡◌, ℕ, ◌<◌, ◌≤◌, Bool, List, [], ◌∷◌, ◌++◌, Option, Some, None, option_map, length, take}
use Rattle.mirror_reply.specs.declared.dial.Receipt.{Receipt}
use Rattle.mirror_reply.specs.declared.dial.Receipt.TheVariants.{Broken, Ended, Got}

-- a connection was opened, or not; these bytes were sent, or none could be; these bytes were received, none come any more,
-- or none came
pub data Call : Type 0 where
  opened : Bool → Call
  sent : List ℕ → Call
  unsent : Call
  received : List ℕ → Call
  ended : Call
  broken : Call

abbrev pub noted : Call → Option (List Call) → Option (List Call)
noted call log = option_map (λ calls. call ∷ calls) log

abbrev pub Sends : List ℕ → Option (List Call) → Option (List Call) → Option ℕ → Type 0
Sends bytes old new None = new ≡ noted unsent old
Sends bytes old new (Some n) = (n ≤ length bytes) × (new ≡ noted (sent (take n bytes)) old)

abbrev pub Receives : List ℕ → Option (List Call) → Option (List Call) → Receipt → Type 0
Receives piece old new (Got n) = (0 < n) × (n ≤ length piece) × (new ≡ noted (received (take n piece)) old)
Receives piece old new Ended = new ≡ noted ended old
Receives piece old new Broken = new ≡ noted broken old

-- the bytes that were sent, and those that were received, of calls that are listed with the newest first
abbrev pub bytes_sent : List Call → List ℕ
bytes_sent [] = []
bytes_sent (opened is ∷ before) = bytes_sent before
bytes_sent (sent bytes ∷ before) = bytes_sent before ++ bytes
bytes_sent (unsent ∷ before) = bytes_sent before
bytes_sent (received bytes ∷ before) = bytes_sent before
bytes_sent (ended ∷ before) = bytes_sent before
bytes_sent (broken ∷ before) = bytes_sent before

abbrev pub bytes_received : List Call → List ℕ
bytes_received [] = []
bytes_received (opened is ∷ before) = bytes_received before
bytes_received (sent bytes ∷ before) = bytes_received before
bytes_received (unsent ∷ before) = bytes_received before
bytes_received (received bytes ∷ before) = bytes_received before ++ bytes
bytes_received (ended ∷ before) = bytes_received before
bytes_received (broken ∷ before) = bytes_received before
