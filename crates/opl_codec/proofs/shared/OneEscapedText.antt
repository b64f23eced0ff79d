-- The canonical spelling of a text is the one spelling whose characters are in canonical form.
use Rattle.std.proofs.Common.{◌≡◌, ◌≢◌, ℕ, ◌<◌, Bool, true, false, ◌&&◌, if◌then◌else◌, List, [], ◌∷◌, ◌++◌, map, flat_map, refl, sym, subst, ◌∙◌, ap, arith}
use Rattle.std.specs.Char.{encode_utf8, IsScalar}
use Rattle.std.specs.List.{AllByRecursion}
use Rattle.std.specs.Str.{IsUtf8, chars}
use Rattle.std.specs.Str.Parse.{digits_value}
use Rattle.std.proofs.lemmas.Bool.Decides.{nat_tests}
use Rattle.std.proofs.lemmas.Str.{chars-encodes, encode_ascii, encodes-chars, scalars-chars}
use lib.Utf8.{scalar, scalars, encodes}
use Rattle.osm_model.specs.CanonicalLine.{is_literal, hex, escaped, escaped_char}
use Rattle.osm_model.specs.Limits.{HasNoNul}
use Rattle.opl_codec.specs.Canonical.{IsCanonicalCharacter, IsCanonicalText}
use Rattle.opl_codec.specs.Texts.{Character, Itself, Escape, IsCharacter, spelling, meaning}
use Rattle.opl_codec.proofs.OneHex.{hex_canonical, one_hex}
use Rattle.opl_codec.proofs.TextsEscaped.{NoNul, both_first, both_second, escape_of, first_some, literal_ascii, literal_free, rest_some, value_is}

-- ---- characters in canonical form
-- the code point of a character
code : Character → ℕ
code (Itself byte) = byte
code (Escape digits) = digits_value 16 digits

escaped_as : (c : ℕ) (b : Bool) → is_literal c ≡ b → escaped_char c ≡ (if b then c ∷ [] else (37 ∷ hex c) ++ 37 ∷ [])
escaped_as c b e = ap (λ (t : Bool). if t then c ∷ [] else (37 ∷ hex c) ++ 37 ∷ []) e

one_spelling : (c : Character) → IsCharacter c → IsCanonicalCharacter c → spelling c ≡ escaped_char (code c)
unfolding code
one_spelling (Itself byte) is canonical = sym (escaped_as byte true canonical)
one_spelling (Escape digits) is canonical = sym (escaped_as (digits_value 16 digits) false canonical.0 ∙ ap (λ ds. (37 ∷ ds) ++ 37 ∷ []) (one_hex digits is canonical.1))

meaning_is : (c : Character) → IsCanonicalCharacter c → meaning c ≡ encode_utf8 (code c)
unfolding code
meaning_is (Itself byte) canonical = sym (encode_ascii byte (literal_ascii byte canonical))
meaning_is (Escape digits) canonical = refl

ascii_scalar : (c : ℕ) → c < 128 → scalar c ≡ true
ascii_scalar c small = grind (arith, nat_tests)

code_scalar : (c : Character) → IsCharacter c → IsCanonicalCharacter c → scalar (code c) ≡ true
unfolding code
code_scalar (Itself byte) is canonical = ascii_scalar byte (literal_ascii byte canonical)
code_scalar (Escape digits) is canonical = is.character

-- ---- texts
all_spellings : (cs : List Character) → AllByRecursion IsCharacter cs → AllByRecursion IsCanonicalCharacter cs → flat_map spelling cs ≡ flat_map escaped_char (map code cs)
all_spellings [] are canonical = refl
all_spellings (c ∷ cs) are canonical = ap (λ s. s ++ flat_map spelling cs) (one_spelling c are.0 canonical.0) ∙ ap (λ s. escaped_char (code c) ++ s) (all_spellings cs are.1 canonical.1)

all_meanings : (cs : List Character) → AllByRecursion IsCanonicalCharacter cs → flat_map meaning cs ≡ encodes (map code cs)
all_meanings [] canonical = refl
all_meanings (c ∷ cs) canonical = ap (λ s. s ++ flat_map meaning cs) (meaning_is c canonical.0) ∙ ap (λ s. encode_utf8 (code c) ++ s) (all_meanings cs canonical.1)

all_scalars : (cs : List Character) → AllByRecursion IsCharacter cs → AllByRecursion IsCanonicalCharacter cs → scalars (map code cs) ≡ true
all_scalars [] are canonical = refl
all_scalars (c ∷ cs) are canonical = ap (λ b. b && scalars (map code cs)) (code_scalar c are.0 canonical.0) ∙ all_scalars cs are.1 canonical.1

pub one_escaped_text : (spelled text : List ℕ) → IsCanonicalText spelled text → spelled ≡ escaped text
unfolding escaped
one_escaped_text spelled text h =
    let cs = h.spells.characters in
    let points : chars text ≡ map code cs = ap chars (h.spells.text_is ∙ all_meanings cs h.canonical) ∙ chars-encodes (map code cs) (all_scalars cs h.spells.are h.canonical) in
    h.spells.spelled_is ∙ (all_spellings cs h.spells.are h.canonical ∙ ap (flat_map escaped_char) (sym points))

-- ---- the canonical spelling is in this form
character_of : ℕ → Bool → Character
character_of c true = Itself c
character_of c false = Escape (hex c)

-- what is said of a code point's character
record IsWritten (c : ℕ) (character : Character) : Type 0 where
  is : IsCharacter character
  canonical : IsCanonicalCharacter character
  spelled : spelling character ≡ escaped_char c
  means : meaning character ≡ encode_utf8 c

written : (c : ℕ) (b : Bool) → is_literal c ≡ b → IsScalar c → c ≢ 0 → IsWritten c (character_of c b)
unfolding character_of
written c true literal is some = record {
  is = literal_free c literal;
  canonical = literal;
  spelled = sym (escaped_as c true literal);
  means = sym (encode_ascii c (literal_ascii c literal));
}
written c false literal is some = record {
  is = escape_of c is some;
  canonical = (ap is_literal (value_is c is) ∙ literal, hex_canonical c is);
  spelled = sym (escaped_as c false literal);
  means = ap encode_utf8 (value_is c is);
}

-- the characters of a text in canonical form
record AreWritten (cs : List ℕ) : Type 0 where
  characters : List Character
  are : AllByRecursion IsCharacter characters
  canonical : AllByRecursion IsCanonicalCharacter characters
  spelled : flat_map escaped_char cs ≡ flat_map spelling characters
  means : encodes cs ≡ flat_map meaning characters

all_written : (cs : List ℕ) → scalars cs ≡ true → NoNul (encodes cs) → AreWritten cs
all_written [] are none = record { characters = []; are = tt; canonical = tt; spelled = refl; means = refl }
all_written (c ∷ cs) are none =
    let first = written c (is_literal c) refl (both_first (scalar c) (scalars cs) are) (first_some c (encodes cs) none) in
    let rest = all_written cs (both_second (scalar c) (scalars cs) are) (rest_some (encode_utf8 c) (encodes cs) none) in
    record {
      characters = character_of c (is_literal c) ∷ rest.characters;
      are = (first.is, rest.are);
      canonical = (first.canonical, rest.canonical);
      spelled = ap (λ s. s ++ flat_map escaped_char cs) (sym first.spelled) ∙ ap (λ s. spelling (character_of c (is_literal c)) ++ s) rest.spelled;
      means = ap (λ s. s ++ encodes cs) (sym first.means) ∙ ap (λ s. meaning (character_of c (is_literal c)) ++ s) rest.means;
    }

pub escaped_canonical : (text : List ℕ) → IsUtf8 text → HasNoNul text → IsCanonicalText (escaped text) text
unfolding escaped HasNoNul
escaped_canonical text utf8 none =
    let same : encodes (chars text) ≡ text = encodes-chars text utf8 in
    let w = all_written (chars text) (scalars-chars text utf8) (subst NoNul (sym same) none) in
    record {
      spells = record { characters = w.characters; are = w.are; spelled_is = w.spelled; text_is = sym same ∙ w.means };
      canonical = w.canonical;
    }
