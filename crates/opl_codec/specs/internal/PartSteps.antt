-- What one field adds to the parts of a line: words of the reader's own clauses.
-- Source: this project.
use Rattle.std.specs.Prelude.{◌≡◌, ◌≢◌, ℕ, ◌+◌, Bool, List, [], ◌∷◌, ◌++◌, None, is_some}
use Rattle.osm_model.specs.declared.kind.Kind.{Kind}
use Rattle.opl_codec.specs.Fields.{field, letter_of}
use Rattle.opl_codec.specs.LineLetters.{IsLetterOf}
use Rattle.opl_codec.specs.LineParts.{IsSpelled, Says}
use Rattle.opl_codec.specs.declared.cause.OplCause.TheVariants as causes
use Rattle.opl_codec.specs.declared.fault.OplFault.{OplFault}
use Rattle.opl_codec.specs.declared.line_letter.LineLetter.{LineLetter}
use Rattle.opl_codec.specs.declared.line_letter.LineLetter.TheVariants as letters
use Rattle.opl_codec.specs.declared.line_parts.LineParts.{LineParts}
use Rattle.opl_codec.specs.declared.value_fault.ValueFault.{ValueFault}
use Rattle.opl_codec.specs.declared.value_fault.ValueFault.TheVariants as faults

-- the part of this letter is there
abbrev pub is_said : LineLetter → LineParts → Bool
is_said letters.Version p = is_some p.version
is_said letters.Visible p = is_some p.visible
is_said letters.Changeset p = is_some p.changeset
is_said letters.Stamp p = is_some p.stamp
is_said letters.Uid p = is_some p.uid
is_said letters.User p = is_some p.user
is_said letters.Tags p = is_some p.tags
is_said letters.Lon p = is_some p.lon
is_said letters.Lat p = is_some p.lat
is_said letters.Nodes p = is_some p.nodes
is_said letters.Members p = is_some p.members

-- the part of this letter is as it was
abbrev pub IsKept : LineLetter → LineParts → LineParts → Type 0
IsKept letters.Version old new = new.version ≡ old.version
IsKept letters.Visible old new = new.visible ≡ old.visible
IsKept letters.Changeset old new = new.changeset ≡ old.changeset
IsKept letters.Stamp old new = new.stamp ≡ old.stamp
IsKept letters.Uid old new = new.uid ≡ old.uid
IsKept letters.User old new = new.user ≡ old.user
IsKept letters.Tags old new = new.tags ≡ old.tags
IsKept letters.Lon old new = new.lon ≡ old.lon
IsKept letters.Lat old new = new.lat ≡ old.lat
IsKept letters.Nodes old new = new.nodes ≡ old.nodes
IsKept letters.Members old new = new.members ≡ old.members

-- the text after this letter spells its part, and the others are as they were
pub record IsStep (letter : LineLetter) (text : List ℕ) (old new : LineParts) : Type 0 where
  pub spelled : IsSpelled letter text new
  pub others : (other : LineLetter) → other ≢ letter → IsKept other old new

-- one more field was taken after these: its letter is one of this kind of object, and a new one
pub record IsTaken (kind : Kind) (done : List (List ℕ)) (f : List ℕ) (new : LineParts) : Type 0 where
  pub known : IsLetterOf kind (letter_of f)
  pub fresh : field (letter_of f) done ≡ None
  pub says : Says (done ++ f ∷ []) new

-- the fault of a line whose field begins at this byte
abbrev pub fault_at : ValueFault → ℕ → OplFault
fault_at faults.Form byte = record { cause = causes.BadValue; byte = byte }
fault_at (faults.Escape at) byte = record { cause = causes.BadEscape; byte = byte + 1 + at }
fault_at faults.NodeLocation byte = record { cause = causes.LocatedNode; byte = byte }
fault_at faults.Limit byte = record { cause = causes.OutsideModel; byte = byte }
fault_at faults.Memory byte = record { cause = causes.Memory; byte = 0 }
