-- Why a line is refused, and at which byte: each cause with its place, apart from how the line is read.
-- Source: this project.
use Rattle.std.specs.Prelude.{◌≡◌, ◌≢◌, ℕ, ◌+◌, ◌<◌, ◌≤◌, ◌⊎◌, ℤ, Bool, true, false, List, [], ◌∷◌, length, drop, Option, Some, None}
use Rattle.std.specs.Str.{IsUtf8, IsValidUpTo}
use Rattle.osm_model.specs.CanonicalLine.{canonical_line, kind_letter}
use Rattle.osm_model.specs.Elements.{Element, reference}
use Rattle.osm_model.specs.Limits.{IsMadeOf, IsShort}
use Rattle.osm_model.specs.Moments.{Moment}
use Rattle.osm_model.specs.declared.axis.Axis.TheVariants as axes
use Rattle.osm_model.specs.declared.kind.Kind.{Kind}
use Rattle.osm_model.specs.declared.kind.Kind.TheVariants as kinds
use Rattle.osm_model.specs.declared.limits.TheConstants.{LINE_LIMIT}
use Rattle.opl_codec.specs.Fields.{field, letter_of}
use Rattle.opl_codec.specs.LineFields.{content, fields, FieldAt}
use Rattle.opl_codec.specs.LineLetters.{belongs, letter_byte}
use Rattle.opl_codec.specs.LineParts.{IsBodyOf, meta_of, tags_of}
use Rattle.opl_codec.specs.LineChanges.{SpellsParts}
use Rattle.opl_codec.specs.Members.{MembersFault}
use Rattle.opl_codec.specs.Texts.{SpellsText}
use Rattle.opl_codec.specs.ValueFaults.{CoordinateFault, NodesFault, TagsFault, TextFault}
use Rattle.opl_codec.specs.Values.{SpellsNumber, SpellsStamp, SpellsVersion, SpellsVisible}
use Rattle.opl_codec.specs.declared.cause.OplCause.{OplCause}
use Rattle.opl_codec.specs.declared.cause.OplCause.TheVariants as causes
use Rattle.opl_codec.specs.declared.line.TheConstants.{LONGEST_LINE}
use Rattle.opl_codec.specs.declared.line_letter.LineLetter.{LineLetter}
use Rattle.opl_codec.specs.declared.line_letter.LineLetter.TheVariants as letters
use Rattle.opl_codec.specs.declared.line_parts.LineParts.{LineParts}
use Rattle.opl_codec.specs.declared.value_fault.ValueFault.{ValueFault}
use Rattle.opl_codec.specs.declared.value_fault.ValueFault.TheVariants as faults

-- the only fault is that the text isn't of its form
abbrev pub OnlyForm : Type 0 → ValueFault → Type 0
OnlyForm unspelled faults.Form = unspelled
OnlyForm unspelled (faults.Escape at) = ⊥
OnlyForm unspelled faults.NodeLocation = ⊥
OnlyForm unspelled faults.Limit = ⊥
OnlyForm unspelled faults.Memory = ⊥

-- the text is no text of its form, or too long
abbrev pub UserFault : List ℕ → ValueFault → Type 0
UserFault text faults.Limit = (user : List ℕ) × SpellsText text user × (¬ (IsShort user))
UserFault text fault = TextFault text fault

-- the text after this letter is no value, for this reason
abbrev pub FieldFault : LineLetter → List ℕ → ValueFault → Type 0
FieldFault letters.Version text fault = OnlyForm ((version : ℕ) → SpellsVersion text version → ⊥) fault
FieldFault letters.Visible text fault = OnlyForm ((visible : Bool) → SpellsVisible text visible → ⊥) fault
FieldFault letters.Changeset text fault = OnlyForm ((changeset : ℤ) → SpellsNumber text changeset → ⊥) fault
FieldFault letters.Stamp text fault = OnlyForm ((stamp : Option Moment) → SpellsStamp text stamp → ⊥) fault
FieldFault letters.Uid text fault = OnlyForm ((uid : ℤ) → SpellsNumber text uid → ⊥) fault
FieldFault letters.User text fault = UserFault text fault
FieldFault letters.Tags text fault = TagsFault text fault
FieldFault letters.Lon text fault = CoordinateFault axes.Lon text fault
FieldFault letters.Lat text fault = CoordinateFault axes.Lat text fault
FieldFault letters.Nodes text fault = NodesFault text fault
FieldFault letters.Members text fault = MembersFault text fault

-- a field that begins at this byte has this fault; its letter is one of this kind of object
pub record HasFault (line : List ℕ) (at : ℕ) (fault : ValueFault) : Type 0 where
  pub kind : Kind
  pub of_kind : letter_of line ≡ kind_letter kind
  pub f : List ℕ
  pub there : FieldAt (content line) f at
  pub letter : LineLetter
  pub letter_is : letter_byte letter ≡ letter_of f
  pub belongs : belongs kind letter ≡ true
  pub is : FieldFault letter (drop 1 f) fault

-- what stands after the letter of the first field
abbrev pub text_of_first : List (List ℕ) → List ℕ
text_of_first [] = []
text_of_first (first ∷ rest) = drop 1 first

-- the first field is the letter of a kind and an id
pub record HasName (line : List ℕ) : Type 0 where
  pub kind : Kind
  pub letter : letter_of line ≡ kind_letter kind
  pub id : ℤ
  pub id_is : SpellsNumber (text_of_first (fields (content line))) id

-- the line has none of the first four faults: too long, not UTF-8, no letter, no id
pub record BeginsRight (line : List ℕ) : Type 0 where
  pub short : length line ≤ LONGEST_LINE
  pub utf8 : IsUtf8 line
  pub named : HasName line

-- the canonical line of the object that the line says is over its limit
pub record HasLongLine (line : List ℕ) : Type 0 where
  pub o : Element
  pub parts : LineParts
  pub spelled : SpellsParts line (reference o) parts
  pub visible : parts.visible ≢ Some false
  pub body_is : IsBodyOf parts o.body
  pub made : IsMadeOf o o.id (meta_of parts) (tags_of parts) o.body
  pub long : LINE_LIMIT < length (canonical_line o)

-- the line is that of a node that isn't deleted, and has no location
pub record HasNoLocation (line : List ℕ) : Type 0 where
  pub id : ℤ
  pub parts : LineParts
  pub spelled : SpellsParts line (record { kind = kinds.Node; id = id }) parts
  pub visible : parts.visible ≢ Some false
  pub missing : ((z : ℤ) → parts.lon ≡ Some (Some z) → ⊥) ⊎ ((z : ℤ) → parts.lat ≡ Some (Some z) → ⊥)

-- a field that begins at this byte is one of another kind of object
abbrev pub IsOfOtherKind : List ℕ → ℕ → Type 0
IsOfOtherKind line byte = (f : List ℕ) × FieldAt (content line) f byte × (kind : Kind) × (letter : LineLetter) × (letter_of line ≡ kind_letter kind) × (letter_byte letter ≡ letter_of f) × (belongs kind letter ≡ false)

-- the cause is there, at this byte of the line
abbrev pub StandsAt : List ℕ → OplCause → ℕ → Type 0
StandsAt line causes.UnknownObject byte = (byte ≡ 0) × ((kind : Kind) → letter_of line ≢ kind_letter kind)
StandsAt line causes.BadId byte = (byte ≡ 1) × ((kind : Kind) × (letter_of line ≡ kind_letter kind)) × ((id : ℤ) → SpellsNumber (text_of_first (fields (content line))) id → ⊥)
StandsAt line causes.UnknownField byte = (f : List ℕ) × FieldAt (content line) f byte × ((letter : LineLetter) → letter_byte letter ≢ letter_of f)
StandsAt line causes.FieldTwice byte = (f : List ℕ) × (there : FieldAt (content line) f byte) × (field (letter_of f) (drop 1 (fields there.front)) ≢ None)
StandsAt line causes.OtherKind byte = IsOfOtherKind line byte
StandsAt line causes.BadValue byte = HasFault line byte faults.Form
StandsAt line causes.BadEscape byte = (at place : ℕ) × HasFault line at (faults.Escape place) × (byte ≡ at + 1 + place)
StandsAt line causes.NotUtf8 byte = (¬ (IsUtf8 line)) × IsValidUpTo line byte
StandsAt line causes.NoLocation byte = (byte ≡ length (content line)) × HasNoLocation line
StandsAt line causes.Deleted byte = ⊥
StandsAt line causes.LocatedNode byte = HasFault line byte faults.NodeLocation
StandsAt line causes.LineTooLong byte = (byte ≡ LONGEST_LINE) × (LONGEST_LINE < length line)
StandsAt line causes.OutsideModel byte = HasFault line byte faults.Limit ⊎ ((byte ≡ 0) × HasLongLine line)
StandsAt line causes.ReaderFailed byte = ⊥
StandsAt line causes.Endless byte = ⊥
StandsAt line causes.Memory byte = (byte ≡ 0) × ((at : ℕ) × HasFault line at faults.Memory)
