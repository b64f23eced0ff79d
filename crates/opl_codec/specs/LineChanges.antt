-- What a line says: that an object is put, or that one is deleted.
-- Source: Osmium's OPL manual; what is skipped, and the limits, is this project's.
use Rattle.std.specs.Prelude.{◌≡◌, ◌≢◌, ℕ, ◌≤◌, nat_le, Bool, true, false, ◌&&◌, ◌||◌, List, ◌∷◌, length, Some}
use Rattle.std.specs.List.{AllByRecursion, list_all}
use Rattle.std.specs.List.Sorted.{IsPermutation}
use Rattle.std.specs.Str.{IsUtf8}
use Rattle.osm_model.specs.CanonicalLine.{kind_letter}
use Rattle.osm_model.specs.Elements.{Element, reference}
use Rattle.osm_model.specs.Limits.{IsElement}
use Rattle.osm_model.specs.declared.reference.Ref.{Ref}
use Rattle.opl_codec.specs.Fields.{letter_of, IsOnce}
use Rattle.opl_codec.specs.LineFields.{content, fields, is_blank, is_comment}
use Rattle.opl_codec.specs.LineLetters.{IsLetterOf}
use Rattle.opl_codec.specs.LineParts.{Says, IsBodyOf, meta_of, tags_of}
use Rattle.opl_codec.specs.Values.{SpellsNumber}
use Rattle.opl_codec.specs.declared.change.Change.{Change}
use Rattle.opl_codec.specs.declared.change.Change.TheVariants as changes
use Rattle.opl_codec.specs.declared.line.TheConstants.{LONGEST_LINE}
use Rattle.opl_codec.specs.declared.line_parts.LineParts.{LineParts}

-- a line that says nothing: it is empty or has only blanks, or it is a comment
abbrev pub is_skipped : List ℕ → Bool
is_skipped line = nat_le (length line) LONGEST_LINE && (is_comment line || list_all is_blank (content line))

abbrev pub IsSkipped : List ℕ → Type 0
IsSkipped line = is_skipped line ≡ true

-- the line names this object, and its further fields, in any order, say these parts
pub record SpellsParts (line : List ℕ) (name : Ref) (p : LineParts) : Type 0 where
  pub short : length line ≤ LONGEST_LINE
  pub utf8 : IsUtf8 line
  pub begins : letter_of line ≡ kind_letter name.kind
  pub id_text : List ℕ
  pub rest : List (List ℕ)
  pub fields_are : fields (content line) ≡ (kind_letter name.kind ∷ id_text) ∷ rest
  pub id_is : SpellsNumber id_text name.id
  pub known : AllByRecursion (λ f. IsLetterOf name.kind (letter_of f)) rest
  pub once : IsOnce rest
  pub says : Says rest p

-- the line is this object, which keeps its limits
pub record SpellsObject (line : List ℕ) (o : Element) : Type 0 where
  pub parts : LineParts
  pub spelled : SpellsParts line (reference o) parts
  pub visible : parts.visible ≢ Some false
  pub meta_is : o.meta ≡ meta_of parts
  pub tags_are : IsPermutation (tags_of parts) o.tags
  pub body_is : IsBodyOf parts o.body
  pub element : IsElement o

-- the line says that the object of this name is deleted
pub record SpellsDeleted (line : List ℕ) (name : Ref) : Type 0 where
  pub parts : LineParts
  pub spelled : SpellsParts line name parts
  pub deleted : parts.visible ≡ Some false

-- the line says this change
abbrev pub Spells : List ℕ → Change → Type 0
Spells line (changes.Put o) = SpellsObject line o
Spells line (changes.Delete name) = SpellsDeleted line name
