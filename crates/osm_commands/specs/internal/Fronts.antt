-- The front of a file, which is read no further than a byte beyond a limit.
use Rattle.std.specs.Global.{Vec}
use Rattle.std.specs.Io.KnownBytes.{IsAtEnd}
use Rattle.std.specs.List.{concat}
use Rattle.std.specs.Prelude.{◌≡◌, ◌<◌, ◌≤◌, ◌+◌, ◌⊎◌, ℕ, List, Option, Result, Ok, Err, length}
use Rattle.osm_commands.specs.WholeFiles.{BreaksOff, HasRead, HasReadUpTo, most_reads}
use Rattle.osm_commands.specs.declared.command_fault.CommandFault.{CommandFault}
use Rattle.osm_commands.specs.declared.command_fault.CommandFault.TheVariants.{TooLarge}

-- reading ends at the end of the file, within the limit, or with the first byte beyond the limit
abbrev pub EndsFront : (limit : ℕ) (left : Option (List ℕ)) → List (List ℕ) → Type 0
EndsFront limit left pieces = ((length pieces < most_reads) × IsAtEnd left × (length (concat pieces) ≤ limit))
    ⊎ ((length pieces ≤ most_reads) × (length (concat pieces) ≡ limit + 1))

-- how reading ends: the bytes are all pieces
abbrev pub IsFrontRead : (limit : ℕ) (unread left : Option (List ℕ)) → Result (Vec ℕ) CommandFault → Type 0
IsFrontRead limit unread left (Ok bytes) = HasRead unread left (λ pieces. (bytes.items ≡ concat pieces) × EndsFront limit left pieces)
IsFrontRead limit unread left (Err fault) = BreaksOff (HasReadUpTo (limit + 1) unread left) fault

-- a front of more bytes than the limit is told as too large, and any other as it is
abbrev pub IsLimited : (limit : ℕ) (front result : Result (Vec ℕ) CommandFault) → Type 0
IsLimited limit (Ok bytes) result = ((limit < length bytes.items) × (result ≡ Err TooLarge)) ⊎ ((length bytes.items ≤ limit) × (result ≡ Ok bytes))
IsLimited limit (Err fault) result = result ≡ Err fault
