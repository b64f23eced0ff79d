-- What was read of a line: words of the reader's own clauses.
-- Source: this project.
use Rattle.std.specs.Prelude.{◌≡◌, ℕ, List, [], ◌∷◌}
use Rattle.std.specs.List.{AllByRecursion}
use Rattle.osm_model.specs.CanonicalLine.{kind_letter}
use Rattle.osm_model.specs.declared.reference.Ref.{Ref}
use Rattle.opl_codec.specs.Fields.{letter_of, IsOnce}
use Rattle.opl_codec.specs.LineFields.{fields}
use Rattle.opl_codec.specs.LineLetters.{IsLetterOf}
use Rattle.opl_codec.specs.LineParts.{Says}
use Rattle.opl_codec.specs.Values.{SpellsNumber}
use Rattle.opl_codec.specs.internal.FieldCuts.{HasRead}
use Rattle.opl_codec.specs.declared.line_parts.LineParts.{LineParts}

-- the text begins with this name, and this is left after it
pub record IsNamed (text : List ℕ) (name : Ref) (left : List ℕ) : Type 0 where
  pub id_text : List ℕ
  pub id_is : SpellsNumber id_text name.id
  pub read : HasRead text (kind_letter name.kind ∷ id_text) [] left

-- the fields of the text are this name, and further ones that say these parts
pub record AreRead (text : List ℕ) (name : Ref) (p : LineParts) : Type 0 where
  pub id_text : List ℕ
  pub rest : List (List ℕ)
  pub fields_are : fields text ≡ (kind_letter name.kind ∷ id_text) ∷ rest
  pub id_is : SpellsNumber id_text name.id
  pub known : AllByRecursion (λ f. IsLetterOf name.kind (letter_of f)) rest
  pub once : IsOnce rest
  pub says : Says rest p

-- so far the fields of the text are this name, and further ones that say these parts; this is left
pub record AreReadSoFar (text : List ℕ) (name : Ref) (p : LineParts) (left : List ℕ) : Type 0 where
  pub id_text : List ℕ
  pub done : List (List ℕ)
  pub read : HasRead text (kind_letter name.kind ∷ id_text) done left
  pub id_is : SpellsNumber id_text name.id
  pub known : AllByRecursion (λ f. IsLetterOf name.kind (letter_of f)) done
  pub once : IsOnce done
  pub says : Says done p
