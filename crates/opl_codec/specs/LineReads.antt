-- The lines of a reader, read one after the other.
-- Source: this project.
use Rattle.std.specs.Prelude.{◌≡◌, ℕ, Bool, true, ◌+◌, ◌<◌, ◌≤◌, ◌^◌, ◌⊎◌, List, [], ◌∷◌, ◌++◌, Option, Some, None, Result, Ok, Err, length}
use Rattle.std.specs.List.{AllByRecursion}
use Rattle.std.specs.Io.KnownBytes.{Consumes, IsAtEnd}
use Rattle.osm_model.specs.Bytes.{line_feed}
use Rattle.byte_io.specs.Pieces.{pieces}
use Rattle.opl_codec.specs.LineChanges.{IsSkipped, Spells}
use Rattle.opl_codec.specs.LineFaults.{StandsAt}
use Rattle.opl_codec.specs.declared.cause.OplCause.TheVariants as causes
use Rattle.opl_codec.specs.declared.change.Change.{Change}
use Rattle.opl_codec.specs.declared.fault.LoadFault.{LoadFault}
use Rattle.opl_codec.specs.declared.fault.OplFault.{OplFault}
use Rattle.opl_codec.specs.declared.line.TheConstants.{LONGEST_LINE}

-- a place between the lines of a reader: how many lines were read, how many bytes they have, the bytes
-- after them, where the reader tells its bytes, and whether the reader was found to be at its end
pub record LinePlace : Type 0 where
  pub lines : ℕ
  pub taken : ℕ
  pub left : Option (List ℕ)
  pub is_ended : Bool

-- the end of the reader
pub record IsEnd (at : LinePlace) : Type 0 where
  pub found : at.is_ended ≡ true
  pub none : IsAtEnd at.left

-- the place that was reached, and the fault that is answered from now on
pub record LineRead : Type 0 where
  pub at : LinePlace
  pub fault : Option LoadFault

-- the text is these lines, each with its LF
abbrev pub AreEnded : List ℕ → List (List ℕ) → Type 0
AreEnded text lines = pieces line_feed text ≡ lines ++ [] ∷ []

-- the text is this line with its LF, which the last line of a reader may lack
abbrev pub IsWholeLine : List ℕ → List ℕ → LinePlace → Type 0
IsWholeLine text line new = AreEnded text (line ∷ []) ⊎ ((pieces line_feed text ≡ line ∷ []) × IsEnd new)

-- from one place to the next these bytes were taken
pub record Takes (old new : LinePlace) (bytes : List ℕ) : Type 0 where
  pub read : Consumes old.left new.left bytes
  pub taken : new.taken ≡ old.taken + length bytes

-- these lines with their LF say nothing
pub record AreSkipped (text : List ℕ) (lines : List (List ℕ)) : Type 0 where
  pub ended : AreEnded text lines
  pub none : AllByRecursion IsSkipped lines

-- skipped lines, and then a line that says this change and has this number
pub record Says (old new : LinePlace) (number : ℕ) (change : Change) : Type 0 where
  pub front : List ℕ
  pub skipped : List (List ℕ)
  pub text : List ℕ
  pub line : List ℕ
  pub takes : Takes old new (front ++ text)
  pub before : AreSkipped front skipped
  pub whole : IsWholeLine text line new
  pub says : Spells line change
  pub number_is : number ≡ old.lines + length skipped + 1
  pub counted : new.lines ≡ number

-- skipped lines to the end
pub record Ends (old new : LinePlace) : Type 0 where
  pub text : List ℕ
  pub skipped : List (List ℕ)
  pub takes : Takes old new text
  pub lines : AreEnded text skipped ⊎ (pieces line_feed text ≡ skipped)
  pub none : AllByRecursion IsSkipped skipped
  pub end : IsEnd new

-- the line says nothing, and yet isn't skipped; the cause stands at its byte
pub record IsRefused (line : List ℕ) (fault : OplFault) : Type 0 where
  pub unskipped : ¬ (IsSkipped line)
  pub unspelled : (change : Change) → ¬ (Spells line change)
  pub stands : StandsAt line fault.cause fault.byte

-- the line has too many bytes already, whether it ends or not
abbrev pub IsTooLong : List ℕ → OplFault → Type 0
IsTooLong line fault = (fault ≡ record { cause = causes.LineTooLong; byte = LONGEST_LINE }) × (LONGEST_LINE < length line)

-- the reader failed, or after 2^32 bytes or more it had no end
abbrev pub IsUnread : ℕ → OplFault → Type 0
IsUnread taken fault =
    (fault ≡ record { cause = causes.ReaderFailed; byte = 0 }) ⊎ ((fault ≡ record { cause = causes.Endless; byte = 0 }) × (2 ^ 32 ≤ taken))

-- why a line isn't told: all of it is refused, or the beginning that was read of it is too long, or
-- the reader gave no more than this beginning
abbrev pub StopsLine : List ℕ → List ℕ → LinePlace → OplFault → Type 0
StopsLine text line new fault =
    (IsWholeLine text line new × IsRefused line fault)
    ⊎ ((pieces line_feed text ≡ line ∷ []) × (IsTooLong line fault ⊎ IsUnread new.taken fault))

-- skipped lines, and then the line with the fault
pub record Stops (old new : LinePlace) (load : LoadFault) : Type 0 where
  pub front : List ℕ
  pub skipped : List (List ℕ)
  pub text : List ℕ
  pub line : List ℕ
  pub takes : Takes old new (front ++ text)
  pub before : AreSkipped front skipped
  pub number_is : load.line ≡ old.lines + length skipped + 1
  pub why : StopsLine text line new load.fault

-- out of memory
abbrev pub no_memory : LoadFault
no_memory = record { line = 0; fault = record { cause = causes.Memory; byte = 0 } }

-- what comes next
abbrev pub IsNext : LinePlace → LinePlace → Result (Option (ℕ × Change)) LoadFault → Type 0
IsNext old new (Ok None) = Ends old new
IsNext old new (Ok (Some told)) = Says old new told.0 told.1
IsNext old new (Err load) = (load ≡ no_memory) ⊎ Stops old new load
