-- A reader's bytes that were read and not yet told.
-- Source: this project.
use Rattle.std.specs.Global.{Vec}
use Rattle.std.specs.Prelude.{◌≡◌, ◌≢◌, ℕ, ◌+◌, ◌*◌, ◌≤◌, ◌⊎◌, true, false, if◌then◌else◌, List, [], ◌∷◌, Option, Some, None, Result, Ok, Err, MatchOption, length}
use Rattle.std.specs.List.{AllByRecursion}
use Rattle.std.specs.Io.KnownBytes.{IsAtEnd}
use Rattle.osm_model.specs.Bytes.{line_feed}
use Rattle.byte_io.specs.Pieces.{pieces}
use Rattle.opl_codec.specs.LineChanges.{IsSkipped, Spells}
use Rattle.opl_codec.specs.LineFields.{is_comment}
use Rattle.opl_codec.specs.LineReaders.{unread}
use Rattle.opl_codec.specs.LineReads.{AreEnded, IsEnd, IsRefused, IsWholeLine, LinePlace, StopsLine, Takes, no_memory}
use Rattle.opl_codec.specs.internal.Loading.{IsTold}
use Rattle.opl_codec.specs.declared.change.Change.{Change}
use Rattle.opl_codec.specs.declared.fault.LoadFault.{LoadFault}
use Rattle.opl_codec.specs.declared.fault.OplFault.{OplFault}
use Rattle.opl_codec.specs.declared.line_buffer.LineBuffer.{LineBuffer}
use Rattle.opl_codec.specs.declared.line_buffer.Step.{Step}
use Rattle.byte_io.specs.declared.piece_reader.TheConstants.{PIECE_LIMIT, READ_LIMIT}
use Rattle.opl_codec.specs.declared.line_buffer.Step.TheVariants as steps

-- what always holds of a buffer that goes on
pub record IsSound (b : LineBuffer) : Type 0 where
  pub within : b.from ≤ length b.pieces.last
  pub short : length b.pieces.last ≤ PIECE_LIMIT
  pub counted : b.lines + length b.pending.items + length (unread b) ≤ b.total
  pub few : b.total ≤ PIECE_LIMIT * b.pieces.reads
  pub reads : b.pieces.reads ≤ READ_LIMIT
  pub many : b.is_ended ≡ false → b.pieces.reads ≤ b.total
  pub ended : b.is_ended ≡ true → unread b ≡ []

-- what the line says: nothing where it is skipped
abbrev pub SaysOrSkipped : List ℕ → Option Change → Type 0
SaysOrSkipped line found = MatchOption found (IsSkipped line) (Spells line)

-- what is told of a line that isn't read
abbrev pub IsFaultOf : List ℕ → OplFault → Type 0
IsFaultOf line fault = (fault ≡ no_memory.fault) ⊎ IsRefused line fault

-- the comment that is kept after a line, where this one was before it; nothing is kept of a line that is none, and an
-- empty line leaves what there is
abbrev pub comment_after : List ℕ → List ℕ → List ℕ
comment_after kept [] = kept
comment_after kept (byte ∷ bytes) = if is_comment (byte ∷ bytes) then byte ∷ bytes else []

-- the comment is this one; there is none where nothing was kept
abbrev pub IsKept : List ℕ → Option (Vec ℕ) → Type 0
IsKept kept found = MatchOption found (kept ≡ []) (λ comment. (comment.items ≡ kept) × (kept ≢ []))

-- one line more was read, and the one comment is kept after the other
pub record TakesLine (old new : LinePlace) (kept comment : List ℕ) (found : Option Change) : Type 0 where
  pub text : List ℕ
  pub line : List ℕ
  pub takes : Takes old new text
  pub whole : IsWholeLine text line new
  pub says : SaysOrSkipped line found
  pub counted : new.lines ≡ old.lines + 1
  pub comment_is : comment ≡ comment_after kept line

-- the line after those that were read has this fault
pub record StopsNext (old new : LinePlace) (load : LoadFault) : Type 0 where
  pub text : List ℕ
  pub line : List ℕ
  pub takes : Takes old new text
  pub number_is : load.line ≡ old.lines + 1
  pub why : StopsLine text line new load.fault

-- the buffer goes on with the next line of a reader that has these bytes left
pub record GoesOn (known : Option (List ℕ)) (b : LineBuffer) : Type 0 where
  pub sound : IsSound b
  pub empty : b.pending.items ≡ []
  pub end : b.is_ended ≡ true → IsAtEnd known

-- what comes next of a reader, and the comments that are kept before and after that
abbrev pub IsStep : LinePlace → LinePlace → List ℕ → List ℕ → Result Step LoadFault → Type 0
IsStep old new kept comment (Ok (steps.Line found)) = TakesLine old new kept comment found
IsStep old new kept comment (Ok steps.End) = Takes old new [] × IsEnd new × (new.lines ≡ old.lines) × (comment ≡ kept)
IsStep old new kept comment (Err load) = (load ≡ no_memory) ⊎ StopsNext old new load

-- a reader that told no fault yet goes on
abbrev pub GoesOnUnless : Option LoadFault → Option (List ℕ) → LineBuffer → Type 0
GoesOnUnless None known b = GoesOn known b
GoesOnUnless (Some load) known b = IsTold b load

-- skipped lines alone were read
pub record SkippedTo (old new : LinePlace) : Type 0 where
  pub text : List ℕ
  pub skipped : List (List ℕ)
  pub takes : Takes old new text
  pub lines : AreEnded text skipped ⊎ ((pieces line_feed text ≡ skipped) × IsEnd new)
  pub none : AllByRecursion IsSkipped skipped
  pub counted : AreEnded text skipped → new.lines ≡ old.lines + length skipped
