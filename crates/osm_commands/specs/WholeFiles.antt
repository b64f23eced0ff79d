-- Files that are read piece by piece: whole, up to a limit, or as a query is.
-- Source: this project; what a reader tells of its bytes is std's.
use Rattle.std.specs.Global.{Vec}
use Rattle.std.specs.Io.KnownBytes.{Consumes, IsAtEnd}
use Rattle.std.specs.List.{All, concat}
use Rattle.std.specs.Prelude.{◌≡◌, ◌<◌, ◌≤◌, ◌+◌, ◌⊎◌, ℕ, List, Option, Some, None, Result, Ok, Err, length, ⊤}
use Rattle.osm_commands.specs.declared.command_fault.CommandFault.{CommandFault}
use Rattle.osm_commands.specs.declared.command_fault.CommandFault.TheVariants.{Opl, Query, Endless, TooLarge, Work, Clash, TooMany, Apply, Memory, Device}

-- a read gives so many bytes at most, and a byte at least, but at the end
abbrev pub longest_piece : ℕ
longest_piece = 65536

abbrev pub IsPiece : List ℕ → Type 0
IsPiece piece = (0 < length piece) × (length piece ≤ longest_piece)

-- so many reads are made of a file at most
abbrev pub most_reads : ℕ
most_reads = 4294967296

-- these pieces were read, one after the other
pub record AreRead (unread left : Option (List ℕ)) (pieces : List (List ℕ)) : Type 0 where
  pub sized : All IsPiece pieces
  pub consumed : Consumes unread left (concat pieces)

-- such pieces were read
abbrev pub HasRead : (unread left : Option (List ℕ)) → (List (List ℕ) → Type 0) → Type 0
HasRead unread left P = (pieces : List (List ℕ)) × AreRead unread left pieces × P pieces

-- such pieces were read, and no more bytes than this
abbrev pub HasReadUpTo : ℕ → (unread left : Option (List ℕ)) → (List (List ℕ) → Type 0) → Type 0
HasReadUpTo most unread left P = HasRead unread left (λ pieces. (length (concat pieces) ≤ most) × P pieces)

-- no more bytes than this were taken of the file
abbrev pub TakesAtMost : ℕ → (unread left : Option (List ℕ)) → Type 0
TakesAtMost most unread left = (bytes : List ℕ) × Consumes unread left bytes × (length bytes ≤ most)

-- How reading a file breaks off, where such pieces were read: a read failed, or so many gave a piece that no further one
-- is made, or memory ran out.
abbrev pub BreaksOff : ((List (List ℕ) → Type 0) → Type 0) → CommandFault → Type 0
BreaksOff Has (Opl load) = ⊥
BreaksOff Has (Query refused) = ⊥
BreaksOff Has Endless = Has (λ pieces. length pieces ≡ most_reads)
BreaksOff Has TooLarge = ⊥
BreaksOff Has Work = ⊥
BreaksOff Has Clash = ⊥
BreaksOff Has TooMany = ⊥
BreaksOff Has (Apply refused) = ⊥
BreaksOff Has Memory = Has (λ pieces. length pieces ≤ most_reads)
BreaksOff Has Device = Has (λ pieces. length pieces < most_reads)

-- ---- the whole file

-- it ends where a further read found the end, and the bytes are all pieces
abbrev pub IsReadSo : (unread left : Option (List ℕ)) → Result (Vec ℕ) CommandFault → Type 0
IsReadSo unread left (Ok bytes) = HasRead unread left (λ pieces. (length pieces < most_reads) × IsAtEnd left × (bytes.items ≡ concat pieces))
IsReadSo unread left (Err fault) = BreaksOff (HasRead unread left) fault

-- ---- a file that may be too large

-- the file has more bytes than the limit, where there is one
abbrev pub IsTooLarge : Option ℕ → List ℕ → Type 0
IsTooLarge None bytes = ⊥
IsTooLarge (Some limit) bytes = limit < length bytes

-- the file was read up to a limit: to its end, or to the first byte beyond the limit, and then it is too large
abbrev pub IsLimitedRead : ℕ → (unread left : Option (List ℕ)) → Result (Vec ℕ) CommandFault → Type 0
IsLimitedRead limit unread left (Ok bytes) = IsReadSo unread left (Ok bytes) × (length bytes.items ≤ limit)
IsLimitedRead limit unread left (Err TooLarge) = HasRead unread left (λ pieces. (length pieces ≤ most_reads) × (length (concat pieces) ≡ limit + 1))
IsLimitedRead limit unread left (Err fault) = BreaksOff (HasReadUpTo (limit + 1) unread left) fault

-- the same where there may be no limit
abbrev pub IsReadWithin : Option ℕ → (unread left : Option (List ℕ)) → Result (Vec ℕ) CommandFault → Type 0
IsReadWithin None unread left result = IsReadSo unread left result
IsReadWithin (Some limit) unread left result = IsLimitedRead limit unread left result

-- no more bytes are taken of the file than the limit and one
abbrev pub TakesWithin : Option ℕ → (unread left : Option (List ℕ)) → Type 0
TakesWithin None unread left = ⊤
TakesWithin (Some limit) unread left = TakesAtMost (limit + 1) unread left

-- ---- a query's file

-- so many bytes a query has at most
abbrev pub longest_query : ℕ
longest_query = 65536

-- the bytes are more than a query has
abbrev pub IsTooLong : List ℕ → Type 0
IsTooLong bytes = longest_query < length bytes

-- the bytes read as the file does: they are the file's, or both are too long
abbrev pub ReadsAs : (bytes file : List ℕ) → Type 0
ReadsAs bytes file = (bytes ≡ file) ⊎ (IsTooLong bytes × IsTooLong file)

-- the file was read to its end, or to the first byte that is too much
abbrev pub IsQueryRead : (unread left : Option (List ℕ)) → Type 0
IsQueryRead unread left = IsAtEnd left ⊎ ((bytes : List ℕ) × Consumes unread left bytes × (length bytes ≡ longest_query + 1))
