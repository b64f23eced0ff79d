-- A file that is being read, line by line.
-- Source: this project.
use Rattle.std.specs.Prelude.{◌≡◌, ◌⊎◌, ℕ, ◌+◌, false, List, [], ◌∷◌, ◌++◌, length, Option, MatchOption, option_and_then, unwrap_or}
use Rattle.std.specs.BTreeSet.{BTreeSet, contains}
use Rattle.std.specs.Io.KnownBytes.{Consumes, IsAtEnd}
use Rattle.std.specs.List.{IsDistinct}
use Rattle.std.specs.List.Sorted.{IsStrictlySortedBy}
use Rattle.std.specs.Ordering.{eq_by_cmp}
use Rattle.std.specs.Set.{is_member}
use Rattle.osm_model.specs.Bytes.{line_feed}
use Rattle.osm_model.specs.Elements.{Element, ref_cmp}
use Rattle.osm_model.specs.Sets.{HasDistinctReferences}
use Rattle.osm_model.specs.declared.reference.Ref.{Ref}
use Rattle.byte_io.specs.Pieces.{pieces}
use Rattle.opl_codec.specs.Files.{SpellsChanges, if_comment, last_line}
use Rattle.opl_codec.specs.LineReads.{AreEnded, IsEnd, LinePlace, Takes, no_memory}
use Rattle.opl_codec.specs.LineReaders.{unread}
use Rattle.opl_codec.specs.declared.cause.OplCause.{OplCause}
use Rattle.opl_codec.specs.declared.cause.OplCause.TheVariants as causes
use Rattle.opl_codec.specs.declared.change.Change.{Change}
use Rattle.opl_codec.specs.declared.change.Change.TheVariants as changes
use Rattle.opl_codec.specs.declared.fault.LoadFault.{LoadFault}
use Rattle.opl_codec.specs.declared.fault.OplFault.{OplFault}
use Rattle.opl_codec.specs.declared.line_buffer.LineBuffer.{LineBuffer}
use Rattle.opl_codec.specs.declared.references.References.{References}

-- no two of these references are one
abbrev pub AreApart : List Ref → Type 0
AreApart names = IsDistinct (eq_by_cmp ref_cmp) names

-- the set has just these references
abbrev pub HasJust : BTreeSet Ref → List Ref → Type 0
HasJust set names = (name : Ref) → contains ref_cmp set name ≡ is_member (eq_by_cmp ref_cmp) names name

-- these are the references that were added, no two of them one: they rise, or all of them are kept
pub record Knows (r : References) (names : List Ref) : Type 0 where
  pub apart : AreApart names
  pub kept : MatchOption r.kept (IsStrictlySortedBy ref_cmp names) (λ set. HasJust set names)

-- the reader failed, or it never ended
abbrev pub IsReader : OplCause → Type 0
IsReader cause = (cause ≡ causes.ReaderFailed) ⊎ (cause ≡ causes.Endless)

-- out of memory is told of no line, and where the reader gave no more, all its bytes were looked at
pub record IsTold (b : LineBuffer) (load : LoadFault) : Type 0 where
  pub memory : load.fault.cause ≡ causes.Memory → load ≡ no_memory
  pub reader : IsReader load.fault.cause → unread b ≡ []

-- the beginning of a reader that has these bytes
abbrev pub start : Option (List ℕ) → LinePlace
start known = record { lines = 0; taken = 0; left = known; is_ended = false }

-- from the first place to the second, all lines were read, and this is what they put
pub record ReadsTo {X : Type 0} (Put : List (List ℕ) → X → Type 0) (old new : LinePlace) (found : X) : Type 0 where
  pub text : List ℕ
  pub lines : List (List ℕ)
  pub takes : Takes old new text
  pub lines_are : AreEnded text lines ⊎ ((pieces line_feed text ≡ lines) × IsEnd new)
  pub counted : new.lines ≡ old.lines + length lines
  pub put : Put lines found

-- the bytes of a reader are lines, and this is what they put
pub record ReadsAll {X : Type 0} (Put : List (List ℕ) → X → Type 0) (known : Option (List ℕ)) (found : X) : Type 0 where
  pub left : Option (List ℕ)
  pub text : List ℕ
  pub read : Consumes known left text
  pub end : IsAtEnd left
  pub put : Put (pieces line_feed text) found

-- these objects, after which the change is put, are one more
pub record Puts (old new : List Element) (change : Change) : Type 0 where
  pub object : Element
  pub change_is : change ≡ changes.Put object
  pub more : new ≡ old ++ object ∷ []

-- after these objects the change can't be put: it deletes an object, or it puts one of a known reference
abbrev pub IsUnput : List Element → Change → OplFault → Type 0
IsUnput objects change fault =
    ((fault ≡ record { cause = causes.Deleted; byte = 0 }) × ((name : Ref) × (change ≡ changes.Delete name)))
    ⊎ ((fault ≡ record { cause = causes.OutsideModel; byte = 0 }) × ((o : Element) × (change ≡ changes.Put o) × (¬ (HasDistinctReferences (objects ++ o ∷ [])))))

-- the comment that the lines end with, or nothing
abbrev pub comment_in : List (List ℕ) → List ℕ
comment_in lines = unwrap_or (option_and_then if_comment (last_line lines)) []

-- the lines are these changes, and end with this comment
pub record SpellsFile (lines : List (List ℕ)) (found : List Change × List ℕ) : Type 0 where
  pub changes : SpellsChanges lines found.0
  pub comment : found.1 ≡ comment_in lines
