-- What the command `changes` writes, and when it writes nothing.
-- Source: this project.
use Rattle.std.specs.List.{AllByRecursion}
use Rattle.std.specs.Prelude.{◌≡◌, ◌≢◌, ◌⊎◌, ◌∷◌, ◌++◌, [], ℕ, List, Option, Ok, Err, ⊤}
use Rattle.byte_io.specs.Pieces.{Lacks}
use Rattle.osm_model.specs.Bytes.{line_feed}
use Rattle.osm_model.specs.Elements.{Element}
use Rattle.opl_codec.specs.Files.{HoldsChanges, StopsChanges}
use Rattle.opl_codec.specs.declared.cause.OplCause.TheVariants as causes
use Rattle.opl_codec.specs.declared.change.Change.{Change}
use Rattle.opl_codec.specs.declared.fault.LoadFault.{LoadFault}
use Rattle.osm_keys.specs.Publications.{Publication}
use Rattle.osm_keys.specs.declared.edition.Edition.TheVariants.{Two}
use Rattle.osm_desk.specs.AnnouncedRoots.{Announces, AnnouncesSome, root_digits, root_words}
use Rattle.osm_desk.specs.Made.{IsMade}
use Rattle.osm_commands.specs.Ask.{HoldsTrees}
use Rattle.osm_commands.specs.Files.{IsEndless}
use Rattle.osm_commands.specs.TreeRoots.{ExplainsTrees, IsOutsideOrTrees, IsPublicationIn, IsUnheld, publication_line}
use Rattle.osm_commands.specs.Written.{HasBegun, HasGained, IsUntouched, Output, Writing}
use Rattle.osm_commands.specs.declared.command_fault.CommandFault.{CommandFault}
use Rattle.osm_commands.specs.declared.command_fault.CommandFault.TheVariants.{Apply, Endless, Opl}

-- ---- the text that is written

-- the text is empty, or its last line has its line feed
abbrev pub IsEnded : List ℕ → Type 0
IsEnded text = (text ≡ []) ⊎ ((front : List ℕ) × (text ≡ front ++ line_feed ∷ []))

-- the text without the root line that it ends with, where it ends with one, and without the empty lines after that
abbrev pub IsWithoutRootLine : (text kept : List ℕ) → Type 0
IsWithoutRootLine text kept =
    ((¬ AnnouncesSome text) × (kept ≡ text))
    ⊎ ((announced : List ℕ) × (after : List ℕ) × Announces text announced × (text ≡ kept ++ ((root_words ++ announced) ++ after))
    × Lacks line_feed announced × IsEnded kept × AllByRecursion (λ byte. byte ≡ line_feed) after)

-- the text, with a line feed at its end where it lacks one
abbrev pub IsWithLineEnd : (text ended : List ℕ) → Type 0
IsWithLineEnd text ended = (IsEnded text × (ended ≡ text)) ⊎ ((¬ IsEnded text) × (ended ≡ text ++ line_feed ∷ []))

-- the text, byte for byte, and after it this line as its root line, in place of the one that it ended with
pub record HasRootLine (text line written : List ℕ) : Type 0 where
  pub kept : List ℕ
  pub ended : List ℕ
  pub without : IsWithoutRootLine text kept
  pub line_end : IsWithLineEnd kept ended
  pub is : written ≡ ended ++ (root_words ++ line)

-- the changes that the text holds make the one publication of the other
pub record IsGivenBy (text : List ℕ) (p q : Publication) : Type 0 where
  pub changes : List Change
  pub holds : HoldsChanges text changes
  pub made : IsMade p changes (Ok q)

-- of the set that the file holds, in edition 2 with this sequence number, the changes that the text holds make the publication,
-- and the text that is written announces its root
pub record IsWritten (file : List ℕ) (sequence : ℕ) (text : List ℕ) (q : Publication) (written : List ℕ) : Type 0 where
  pub p : Publication
  pub published : IsPublicationIn file (Two sequence) p
  pub given : IsGivenBy text p q
  pub line : HasRootLine text (publication_line q) written
  -- so a reader of it finds the same changes, and the root announced
  pub holds : HoldsChanges written given.changes
  pub announced : Announces written (root_digits q)

-- ---- when nothing is written

-- no changes were read of the text: its first line that can't be read is told with the byte in it, or the line within which
-- it was found to be too long
pub record HoldsNoChanges (text : List ℕ) (load : LoadFault) : Type 0 where
  pub left : Option (List ℕ)
  pub stops : StopsChanges text left load
  pub unfailed : load.fault.cause ≢ causes.ReaderFailed
  pub real : load.fault.cause ≢ causes.Memory

-- why each fault comes: the set's file, of which this is left, is looked at first, then its trees, then the changes' file, and
-- then what its changes make
abbrev pub ExplainsChanging : (file : List ℕ) (left : Option (List ℕ)) (sequence : ℕ) (text : List ℕ) → CommandFault → Type 0
ExplainsChanging file left sequence text (Opl load) = IsUnheld file left load ⊎ (HoldsTrees file (Two sequence) × HoldsNoChanges text load)
ExplainsChanging file left sequence text (Apply refused) =
    (p : Publication) × (changes : List Change) × IsPublicationIn file (Two sequence) p × HoldsChanges text changes × IsMade p changes (Err refused)
ExplainsChanging file left sequence text Endless = HoldsTrees file (Two sequence) × IsEndless text
ExplainsChanging file left sequence text fault = ExplainsTrees file left (Two sequence) fault

-- the fault lies outside the files' bytes (a reader never ended, or memory or a device failed), or the trees of this set can't be
-- made, or these changes of it are refused
abbrev pub IsOutsideChanging : (file : List ℕ) (set : List Element) (sequence : ℕ) (changes : List Change) → CommandFault → Type 0
IsOutsideChanging file set sequence changes (Apply refused) =
    (p : Publication) × IsPublicationIn file (Two sequence) p × IsMade p changes (Err refused)
IsOutsideChanging file set sequence changes Endless = ⊤
IsOutsideChanging file set sequence changes fault = IsOutsideOrTrees set (Two sequence) fault

-- ---- as far as it went

-- Two texts are written in turn, each to a writer of its own: the second only after the first is whole.
pub data AppendBoth (first second : Writing) : Type 0 where
  UpToFirst : HasBegun first.output first.text → IsUntouched second.output → AppendBoth first second
  UpToSecond : HasGained first.output first.text → HasBegun second.output second.text → AppendBoth first second

-- the two writers have gained nothing, or, in this order, the change file and the root's line, as far as it went
abbrev pub IsBegunChanging : (file : List ℕ) (sequence : ℕ) (text : List ℕ) (announced root : Output) → Type 0
IsBegunChanging file sequence text announced root =
    (IsUntouched announced × IsUntouched root)
    ⊎ ((q : Publication) × (written : List ℕ) × IsWritten file sequence text q written
    × AppendBoth (record { text = written; output = announced }) (record { text = publication_line q; output = root }))
