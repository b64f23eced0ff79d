-- The name with which a line begins, and the fields after it.
use Rattle.std.proofs.Common.{◌≡◌, ◌≢◌, ℕ, ◌-◌, ◌≤◌, List, [], ◌∷◌, ◌++◌, length, get_or, take, drop, true, false, cond, ◌==◌, if◌then◌else◌, Some, None, refl, sym, ◌∙◌, ap, subst, arith, ℤ}
use Rattle.std.specs.List.{AllByRecursion}
use Rattle.std.specs.Str.{IsUtf8}
use Rattle.std.proofs.lemmas.Bool.{eqb-true}
use Rattle.std.proofs.lemmas.List.{take_all}
use Rattle.std.proofs.lemmas.Bool.Decides.{nat_tests}
use Rattle.osm_model.specs.CanonicalLine.{kind_letter}
use Rattle.osm_model.specs.declared.kind.Kind.{Kind}
use Rattle.osm_model.specs.declared.kind.Kind.TheVariants as kinds
use Rattle.osm_model.specs.declared.reference.Ref.{Ref}
use Rattle.opl_codec.specs.Fields.{field, letter_of, IsOnce}
use Rattle.opl_codec.specs.LineChanges.{SpellsParts}
use Rattle.opl_codec.specs.LineFaults.{HasName, text_of_first}
use Rattle.opl_codec.specs.LineFields.{content, fields, is_blank}
use Rattle.opl_codec.specs.LineLetters.{IsLetterOf, letter_byte}
use Rattle.opl_codec.specs.LineParts.{Says}
use Rattle.opl_codec.specs.Values.{SpellsNumber}
use Rattle.opl_codec.specs.internal.FieldCuts.{AreBlanks, HasRead, IsNextField}
use Rattle.opl_codec.specs.internal.LineReads.{IsNamed, AreRead, AreReadSoFar}
use Rattle.opl_codec.specs.internal.PartSteps.{IsTaken}
use Rattle.opl_codec.specs.declared.line.TheConstants.{LONGEST_LINE}
use Rattle.opl_codec.specs.declared.line_parts.LineParts.{LineParts}
use Rattle.opl_codec.proofs.LineFields.{fields_apart, first_is, read_first, read_all, read_more}
use Rattle.opl_codec.proofs.LineSteps.{byte_ascii, field_cut}
use Rattle.opl_codec.proofs.ReadFields.{field_appended}

-- ---- the first byte
no_zero : (kind : Kind) → kind_letter kind ≢ 0
no_zero kinds.Node e = absurd (omega (arith, e))
no_zero kinds.Way e = absurd (omega (arith, e))
no_zero kinds.Rel e = absurd (omega (arith, e))

no_return : (kind : Kind) → kind_letter kind ≢ 13
no_return kinds.Node e = absurd (omega (arith, e))
no_return kinds.Way e = absurd (omega (arith, e))
no_return kinds.Rel e = absurd (omega (arith, e))

no_blank : (kind : Kind) → is_blank (kind_letter kind) ≡ false
no_blank kinds.Node = refl
no_blank kinds.Way = refl
no_blank kinds.Rel = refl

-- the letter of a line is that of its content
pub content_letter : (line : List ℕ) (kind : Kind) → letter_of (content line) ≡ kind_letter kind → letter_of line ≡ kind_letter kind
content_letter [] kind e = e
content_letter (b ∷ []) kind e = elim (b == 13) as (λ t. letter_of (if t then [] else b ∷ []) ≡ kind_letter kind → b ≡ kind_letter kind) [
  | true ↦ λ h. absurd (no_zero kind (sym h))
  | false ↦ λ h. h
] e
content_letter (b ∷ n ∷ bytes) kind e = e

line_letter : (line : List ℕ) (kind : Kind) → letter_of line ≡ kind_letter kind → letter_of (content line) ≡ kind_letter kind
line_letter [] kind e = e
line_letter (b ∷ []) kind e = elim (b == 13) as (λ t. (b == 13) ≡ t → letter_of (if t then [] else b ∷ []) ≡ kind_letter kind) [
  | true ↦ λ is. absurd (no_return kind (sym e ∙ eqb-true b 13 is))
  | false ↦ λ is. e
] refl
line_letter (b ∷ n ∷ bytes) kind e = e

-- the content begins with no letter of an object: so does the line
pub unnamed : (line text : List ℕ) → text ≡ content line → ((kind : Kind) → letter_of text ≢ kind_letter kind) → (kind : Kind) → letter_of line ≢ kind_letter kind
unnamed line text is none kind e = none kind (ap letter_of is ∙ line_letter line kind e)

pub blanks_unnamed : (text : List ℕ) → AreBlanks text → (kind : Kind) → letter_of text ≢ kind_letter kind
blanks_unnamed [] are kind e = no_zero kind (sym e)
blanks_unnamed (x ∷ text) are kind e = let f : true ≡ false = sym are.0 ∙ (ap is_blank e ∙ no_blank kind) in cc

blank_first : (blanks rest : List ℕ) → AreBlanks blanks → length blanks ≢ 0 → (kind : Kind) → letter_of (blanks ++ rest) ≢ kind_letter kind
blank_first [] rest are some kind e = some refl
blank_first (x ∷ blanks) rest are some kind e = let f : true ≡ false = sym are.0 ∙ (ap is_blank e ∙ no_blank kind) in cc

pub gap_unnamed : (text : List ℕ) (gap : ℕ) (f rest : List ℕ) → IsNextField text gap f rest → gap ≢ 0 → (kind : Kind) → letter_of text ≢ kind_letter kind
gap_unnamed text gap f rest next some kind e = blank_first next.blanks (f ++ rest) next.are_blanks (λ none. some (sym next.gap_is ∙ none)) kind (ap letter_of (sym next.text_is) ∙ e)

module _ (text : List ℕ) (gap : ℕ) (f rest : List ℕ) (letter : ℕ) (digits : List ℕ) (next : IsNextField text gap f rest) (none : gap ≡ 0) (f_is : f ≡ letter ∷ digits) where
  at_start : IsNextField text 0 (letter ∷ digits) rest
  at_start = subst (λ g. IsNextField text 0 g rest) f_is (subst (λ n. IsNextField text n f rest) none next)

  no_blanks : (blanks : List ℕ) → length blanks ≡ 0 → blanks ≡ []
  no_blanks [] e = refl
  no_blanks (x ∷ blanks) e = absurd (omega arith)

  text_letter : letter_of text ≡ letter
  text_letter = ap letter_of (at_start.text_is ∙ ap (λ b. b ++ ((letter ∷ digits) ++ rest)) (no_blanks at_start.blanks at_start.gap_is))

  -- the first byte is no letter of an object
  pub other_letter : ((kind : Kind) → letter ≢ kind_letter kind) → (kind : Kind) → letter_of text ≢ kind_letter kind
  other_letter other kind e = other kind (sym text_letter ∙ e)

  module _ (line : List ℕ) (text_is : text ≡ content line) (kind : Kind) (letter_is : letter ≡ kind_letter kind) where
    pub begins : letter_of line ≡ kind_letter kind
    begins = content_letter line kind (ap letter_of (sym text_is) ∙ (text_letter ∙ letter_is))

    pub named : (id : ℤ) → SpellsNumber digits id → IsNamed text (record { kind = kind; id = id }) rest
    named id is = record {
      id_text = digits;
      id_is = is;
      read = subst (λ l. HasRead text (l ∷ digits) [] rest) letter_is (read_first text (letter ∷ digits) rest at_start);
    }

    first_text : text_of_first (fields (content line)) ≡ digits
    first_text = ap (λ t. text_of_first (fields t)) (sym text_is) ∙ ap text_of_first (first_is text 0 (letter ∷ digits) rest at_start)

    pub bad_id : ((id : ℤ) → SpellsNumber digits id → ⊥) → (id : ℤ) → SpellsNumber (text_of_first (fields (content line))) id → ⊥
    bad_id none id is = none id (subst (λ t. SpellsNumber t id) first_text is)

-- a field's first byte and what follows it
pub cut_first : (f bytes : List ℕ) → bytes ≡ f → 1 ≤ length bytes → f ≡ get_or bytes 0 0 ∷ take (length bytes - 1) (drop 1 bytes)
cut_first f [] is some = absurd (omega arith)
cut_first f (x ∷ bytes) is some = sym is ∙ ap (λ t. x ∷ t) (sym (take_all (length (x ∷ bytes) - 1) bytes (omega arith)))

-- ---- each letter once
not_first : (x c : ℕ) (text : List ℕ) (done : List (List ℕ)) → field c ((x ∷ text) ∷ done) ≡ None → ((x == c) ≡ false) × (field c done ≡ None)
not_first x c text done none = elim (x == c) as (λ b. cond b (Some text) (field c done) ≡ None → (b ≡ false) × (field c done ≡ None)) [
  | true ↦ λ h. cc
  | false ↦ λ h. (refl, h)
] none

flipped : (x c : ℕ) → (x == c) ≡ false → (c == x) ≡ false
flipped x c e = grind (arith, nat_tests)

not_here : (c x : ℕ) (u : List ℕ) → (x == c) ≡ false → field x ((c ∷ u) ∷ []) ≡ None
not_here c x u e = rw (flipped x c e) refl

abbrev Known : Kind → List (List ℕ) → Type 0
Known kind done = AllByRecursion (λ f. IsLetterOf kind (letter_of f)) done

once_more : (kind : Kind) (done : List (List ℕ)) (c : ℕ) (u : List ℕ) → IsOnce done → field c done ≡ None → Known kind done → IsOnce (done ++ (c ∷ u) ∷ [])
once_more kind [] c u once none known = (refl, tt)
once_more kind ([] ∷ done) c u once none known = absurd (let low = (byte_ascii known.0.0).0 in omega (arith, known.0.1))
once_more kind ((x ∷ text) ∷ done) c u once none known =
    let parts = not_first x c text done none in
    (field_appended x done ((c ∷ u) ∷ []) once.0 ∙ not_here c x u parts.0, once_more kind done c u once.1 parts.1 known.1)

known_more : (kind : Kind) (done : List (List ℕ)) (f : List ℕ) → Known kind done → IsLetterOf kind (letter_of f) → Known kind (done ++ f ∷ [])
known_more kind [] f known is = (is, tt)
known_more kind (g ∷ done) f known is = (known.0, known_more kind done f known.1 is)

-- ---- field by field
pub so_far : (text : List ℕ) (name : Ref) (p : LineParts) (left : List ℕ) → IsNamed text name left → Says [] p → AreReadSoFar text name p left
so_far text name p left h says = record { id_text = h.id_text; done = []; read = h.read; id_is = h.id_is; known = tt; once = tt; says = says }

pub further : (text : List ℕ) (name : Ref) (p new : LineParts) (left : List ℕ) (gap : ℕ) (f rest : List ℕ) (h : AreReadSoFar text name p left) → IsNextField left gap f rest → IsTaken name.kind h.done f new → AreReadSoFar text name new rest
further text name p new left gap f rest h next taken = record {
  id_text = h.id_text;
  done = h.done ++ f ∷ [];
  read = read_more text (kind_letter name.kind ∷ h.id_text) h.done left h.read gap f rest next;
  id_is = h.id_is;
  known = known_more name.kind h.done f h.known taken.known;
  once = subst (λ g. IsOnce (h.done ++ g ∷ [])) (sym cut) (once_more name.kind h.done (letter_byte taken.known.0) (drop 1 f) h.once (subst (λ b. field b h.done ≡ None) (sym taken.known.1) taken.fresh) h.known);
  says = taken.says;
}
  where
    cut : f ≡ letter_byte taken.known.0 ∷ drop 1 f
    cut = field_cut taken.known.0 f taken.known.1

pub all_read : (text : List ℕ) (name : Ref) (p : LineParts) (left : List ℕ) → AreReadSoFar text name p left → AreBlanks left → AreRead text name p
all_read text name p left h blanks = record {
  id_text = h.id_text;
  rest = h.done;
  fields_are = read_all text (kind_letter name.kind ∷ h.id_text) h.done left h.read blanks;
  id_is = h.id_is;
  known = h.known;
  once = h.once;
  says = h.says;
}

-- what was read so far has a name
pub has_name : (line : List ℕ) (name : Ref) (p : LineParts) (left : List ℕ) → letter_of line ≡ kind_letter name.kind → AreReadSoFar (content line) name p left → HasName line
has_name line name p left letter h = record {
  kind = name.kind;
  letter = letter;
  id = name.id;
  id_is = subst (λ t. SpellsNumber t name.id) (sym first) h.id_is;
}
  where
    first : text_of_first (fields (content line)) ≡ h.id_text
    first = ap text_of_first (ap fields h.read.text_is ∙ (fields_apart h.read.front left h.read.starts ∙ ap (λ fs. fs ++ fields left) h.read.fields_are))

-- the parts of the content are those of the line
pub line_parts : (line text : List ℕ) (name : Ref) (p : LineParts) → length line ≤ LONGEST_LINE → IsUtf8 line → text ≡ content line → letter_of line ≡ kind_letter name.kind → AreRead text name p → SpellsParts line name p
line_parts line text name p short utf8 text_is begins h = record {
  short = short;
  utf8 = utf8;
  begins = begins;
  id_text = h.id_text;
  rest = h.rest;
  fields_are = ap fields (sym text_is) ∙ h.fields_are;
  id_is = h.id_is;
  known = h.known;
  once = h.once;
  says = h.says;
}

-- the content is no longer than the line
pub content_within : (line : List ℕ) → length (content line) ≤ length line
content_within [] = omega arith
content_within (b ∷ []) = elim (b == 13) as (λ t. length (if t then [] else b ∷ []) ≤ 1) [ true ↦ omega arith | false ↦ omega arith ]
content_within (b ∷ n ∷ bytes) = omega (arith, content_within (n ∷ bytes))
