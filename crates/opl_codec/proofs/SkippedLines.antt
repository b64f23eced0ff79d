-- A skipped line is short, and names no object.
use Rattle.std.proofs.Common.{◌≡◌, ◌≢◌, ℕ, ◌≤◌, List, [], ◌∷◌, length, Bool, true, false, ◌&&◌, ◌||◌, refl, sym, ◌∙◌, arith, inl, inr}
use Rattle.std.specs.Prelude.{◌⊎◌, nat_le}
use Rattle.std.specs.List.{list_all}
use Rattle.std.proofs.lemmas.Bool.{eqb-true, leb-true}
use Rattle.osm_model.specs.CanonicalLine.{kind_letter}
use Rattle.osm_model.specs.declared.kind.Kind.{Kind}
use Rattle.osm_model.specs.declared.kind.Kind.TheVariants as kinds
use Rattle.osm_model.specs.declared.reference.Ref.{Ref}
use Rattle.opl_codec.specs.Fields.{letter_of}
use Rattle.opl_codec.specs.LineChanges.{IsSkipped, SpellsParts}
use Rattle.opl_codec.specs.LineFields.{content, is_blank, is_comment}
use Rattle.opl_codec.specs.declared.line.TheConstants.{LONGEST_LINE}
use Rattle.opl_codec.specs.declared.line_parts.LineParts.{LineParts}
use Rattle.opl_codec.specs.internal.FieldCuts.{AreBlanks}
use Rattle.opl_codec.proofs.LineFields.{no_fields}

both : (a b : Bool) → (a && b) ≡ true → (a ≡ true) × (b ≡ true)
both true b e = (refl, e)
both false b e = absurd (let f : false ≡ true = e in cc)

either : (a b : Bool) → (a || b) ≡ true → (a ≡ true) ⊎ (b ≡ true)
either true b e = inl refl
either false b e = inr e

are_blanks : (text : List ℕ) → list_all is_blank text ≡ true → AreBlanks text
are_blanks [] e = tt
are_blanks (byte ∷ text) e = let parts = both (is_blank byte) (list_all is_blank text) e in (parts.0, are_blanks text parts.1)

no_hash : (kind : Kind) → kind_letter kind ≢ 35
no_hash kinds.Node e = absurd (omega (arith, e))
no_hash kinds.Way e = absurd (omega (arith, e))
no_hash kinds.Rel e = absurd (omega (arith, e))

not_comment : (line : List ℕ) (kind : Kind) → letter_of line ≡ kind_letter kind → is_comment line ≡ true → ⊥
not_comment [] kind begins e = let f : false ≡ true = e in cc
not_comment (byte ∷ line) kind begins e = no_hash kind (sym begins ∙ eqb-true byte 35 e)

not_blank : (line : List ℕ) (name : Ref) (p : LineParts) → SpellsParts line name p → list_all is_blank (content line) ≡ true → ⊥
not_blank line name p h e = let none : [] ≡ (kind_letter name.kind ∷ h.id_text) ∷ h.rest = sym (no_fields (content line) (are_blanks (content line) e)) ∙ h.fields_are in cc

pub skipped_is_short : (line : List ℕ) → IsSkipped line → length line ≤ LONGEST_LINE
skipped_is_short line skipped = leb-true (length line) LONGEST_LINE ((both (nat_le (length line) LONGEST_LINE) (is_comment line || list_all is_blank (content line)) skipped).0)

pub skipped_has_no_parts : (line : List ℕ) (name : Ref) (p : LineParts) → IsSkipped line → SpellsParts line name p → ⊥
skipped_has_no_parts line name p skipped h =
    let says_nothing = (both (nat_le (length line) LONGEST_LINE) (is_comment line || list_all is_blank (content line)) skipped).1 in
    elim (either (is_comment line) (list_all is_blank (content line)) says_nothing) [
      | inl comment ↦ not_comment line name.kind h.begins comment
      | inr blank ↦ not_blank line name p h blank
    ]
