-- What a file says: the set of the objects that its lines are, or the changes, in order.
-- Source: Osmium's OPL manual: one object a line, or one change; lines end with LF.
use Rattle.std.specs.Global.{Vec}
use Rattle.std.specs.List.{find}
use Rattle.std.specs.Prelude.{◌≡◌, ◌⊎◌, ℕ, ◌+◌, not, if◌then◌else◌, List, [], ◌∷◌, ◌++◌, length, reverse, filter, Option, Some, None, option_and_then, option_map}
use Rattle.std.specs.List.Sorted.{IsPermutation}
use Rattle.std.specs.Io.KnownBytes.{Consumes}
use Rattle.osm_model.specs.Bytes.{line_feed}
use Rattle.osm_model.specs.Elements.{Element}
use Rattle.osm_model.specs.Sets.{HasDistinctReferences, IsObjectSet}
use Rattle.osm_model.specs.declared.reference.Ref.{Ref}
use Rattle.byte_io.specs.Pieces.{pieces}
use Rattle.opl_codec.specs.Fields.{Each}
use Rattle.opl_codec.specs.LineChanges.{is_skipped, Spells, SpellsObject}
use Rattle.opl_codec.specs.LineFields.{is_comment, is_some_text}
use Rattle.opl_codec.specs.LineReads.{IsRefused, IsUnread}
use Rattle.opl_codec.specs.declared.cause.OplCause.{OplCause}
use Rattle.opl_codec.specs.declared.cause.OplCause.TheVariants as causes
use Rattle.opl_codec.specs.declared.change.Change.{Change}
use Rattle.opl_codec.specs.declared.change_file.ChangeFile.{ChangeFile}
use Rattle.opl_codec.specs.declared.change.Change.TheVariants as changes
use Rattle.opl_codec.specs.declared.fault.LoadFault.{LoadFault}
use Rattle.opl_codec.specs.declared.fault.OplFault.{OplFault}

-- the lines that say something
abbrev pub without_skipped : List (List ℕ) → List (List ℕ)
without_skipped lines = filter (λ line. not (is_skipped line)) lines

-- the lines of a file that say something; its last line may lack its LF
abbrev pub unskipped_lines : List ℕ → List (List ℕ)
unskipped_lines file = without_skipped (pieces line_feed file)

-- the file's lines are the objects of the set, each once, in any order
pub record HoldsSet (file : List ℕ) (objects : List Element) : Type 0 where
  pub written : List Element
  pub each : Each SpellsObject (unskipped_lines file) written
  pub order : IsPermutation written objects
  pub set : IsObjectSet objects

-- the reader failed, it never ended, or memory ran out
abbrev pub IsReaderOrMemory : OplCause → Type 0
IsReaderOrMemory cause = (cause ≡ causes.ReaderFailed) ⊎ ((cause ≡ causes.Endless) ⊎ (cause ≡ causes.Memory))

-- these lines put these objects, no two of one reference
pub record PutSet (lines : List (List ℕ)) (objects : List Element) : Type 0 where
  pub each : Each SpellsObject (without_skipped lines) objects
  pub apart : HasDistinctReferences objects

-- after lines that put these objects this line can't be read: it has a fault, it deletes an object, or
-- it puts one that an earlier line puts
abbrev pub IsAtFault : List Element → List ℕ → OplFault → Type 0
IsAtFault objects line fault =
    IsRefused line fault
    ⊎ (((fault ≡ record { cause = causes.Deleted; byte = 0 }) × ((name : Ref) × Spells line (changes.Delete name)))
    ⊎ ((fault ≡ record { cause = causes.OutsideModel; byte = 0 }) × ((o : Element) × SpellsObject line o × (¬ (HasDistinctReferences (objects ++ o ∷ []))))))

-- the reader gave no more of the file than these lines and the beginning of the next
pub record IsCutOff (file : List ℕ) (left : Option (List ℕ)) (before : List (List ℕ)) (fault : OplFault) : Type 0 where
  pub given : List ℕ
  pub begun : List ℕ
  pub read : Consumes (Some file) left given
  pub cut : pieces line_feed given ≡ before ++ begun ∷ []
  pub why : IsUnread (length given) fault

-- why a file, of which this is left, isn't read: the lines before this one put something, and then this line is at
-- fault, or the reader failed or didn't end in it
pub record StopsAt {X : Type 0} (Put : List (List ℕ) → X → Type 0) (AtFault : X → List ℕ → OplFault → Type 0)
    (file : List ℕ) (left : Option (List ℕ)) (load : LoadFault) : Type 0 where
  pub before : List (List ℕ)
  pub line : List ℕ
  pub after : List (List ℕ)
  pub found : X
  pub lines_are : pieces line_feed file ≡ before ++ line ∷ after
  pub number_is : load.line ≡ length before + 1
  pub put : Put before found
  pub why : AtFault found line load.fault ⊎ IsCutOff file left before load.fault

-- why no set is read of a file
abbrev pub StopsFile : List ℕ → Option (List ℕ) → LoadFault → Type 0
StopsFile file left load = StopsAt PutSet IsAtFault file left load

-- the lines that say something are these changes, in order
abbrev pub SpellsChanges : List (List ℕ) → List Change → Type 0
SpellsChanges lines changes = Each Spells (without_skipped lines) changes

-- the lines of the file are these changes, in order
abbrev pub HoldsChanges : List ℕ → List Change → Type 0
HoldsChanges file changes = SpellsChanges (pieces line_feed file) changes

-- a line that is no change and isn't skipped
abbrev pub IsNoChange : List Change → List ℕ → OplFault → Type 0
IsNoChange _ line fault = IsRefused line fault

-- why no changes are read of a file
abbrev pub StopsChanges : List ℕ → Option (List ℕ) → LoadFault → Type 0
StopsChanges file left load = StopsAt SpellsChanges IsNoChange file left load

-- ---- the comment that a file ends with

-- the last of the lines that isn't empty
abbrev pub last_line : List (List ℕ) → Option (List ℕ)
last_line lines = find is_some_text (reverse lines)

-- the line, where it is a comment
abbrev pub if_comment : List ℕ → Option (List ℕ)
if_comment line = if is_comment line then Some line else None

-- the last line of the file that isn't empty, without its LF, where it is a comment
abbrev pub end_comment : List ℕ → Option (List ℕ)
end_comment file = option_and_then if_comment (last_line (pieces line_feed file))

-- the file holds these changes, and ends with this comment
pub record HoldsChangeFile (file : List ℕ) (found : ChangeFile) : Type 0 where
  pub changes : HoldsChanges file found.changes.items
  pub comment : end_comment file ≡ option_map (λ (comment : Vec ℕ). comment.items) found.end_comment
