-- Texts that stand as they are.
use Rattle.std.proofs.Common.{◌≡◌, ℕ, ◌<◌, ◌≤◌, List, [], ◌∷◌, ◌++◌, flat_map, Bool, true, false, ◌&&◌, inl, inr, ◌⊎◌, refl, sym, ap, ap₂, ◌∙◌, arith}
use Rattle.std.specs.List.{list_all}
use Rattle.std.specs.Prelude.{encode_utf8}
use Rattle.std.specs.Str.{IsUtf8, chars}
use Rattle.std.proofs.lemmas.Bool.{cases_lt, true≢false, ne_eqb, le-leb, and_parts, not-true, or_parts, eqb-false, ltb-false}
use Rattle.std.proofs.lemmas.Str.{encode_ascii, encodes-chars}
use lib.Utf8.{encode, encodes}
use Rattle.json.specs.Print.{escape_byte, escape}
use Rattle.json.specs.Run.{is_plain}
use Rattle.json.proofs.Printed.Strings.{escape_byte_plain}
use Rattle.osm_forms.specs.XmlText.{xml_character, xml_text}
use Rattle.osm_forms.specs.internal.PlainBytes.{is_plain_byte}

-- ---- JSON

pub plain_byte : (b : ℕ) → is_plain b ≡ true → escape_byte b ≡ b ∷ []
plain_byte b plain =
    let none = or_parts _ _ (not-true _ plain) in
    let marks = or_parts _ _ none.0 in
    escape_byte_plain b (eqb-false b 34 marks.0) (eqb-false b 92 marks.1) (ltb-false b 32 none.1)

pub escape-plain : (text : List ℕ) → list_all is_plain text ≡ true → escape text ≡ text
escape-plain [] all = refl
escape-plain (b ∷ text) all =
    let both = and_parts (is_plain b) (list_all is_plain text) all in
    ap₂ (λ x y. x ++ y) (plain_byte b both.0) (escape-plain text both.1)

-- ---- XML

all-append : (p : ℕ → Bool) (xs ys : List ℕ) → list_all p (xs ++ ys) ≡ true → (list_all p xs ≡ true) × (list_all p ys ≡ true)
all-append p [] ys all = (refl, all)
all-append p (x ∷ xs) ys all =
    let both = and_parts (p x) (list_all p (xs ++ ys)) all in
    let rest = all-append p xs ys both.1 in
    (ap₂ (λ a b. a && b) both.0 rest.0, rest.1)

module _ (c : ℕ) (plain : list_all is_plain_byte (encode c) ≡ true) where
  other : (n : ℕ) → list_all is_plain_byte (encode n) ≡ false → c ≡ n → ⊥
  other n marked e = true≢false (sym plain ∙ (ap (λ k. list_all is_plain_byte (encode k)) e ∙ marked))

  no_control : c < 32 → ⊥
  no_control small =
      let byte = ap (list_all is_plain_byte) (encode_ascii c (omega arith)) in
      let first = and_parts (is_plain_byte c) true (sym byte ∙ plain) in
      let none = or_parts _ _ (not-true _ first.0) in
      let large : 32 ≤ c = ltb-false c 32 none.0 in
      omega (arith, large)

  xml_character-plain : xml_character c ≡ encode_utf8 c
  unfolding encode
  xml_character-plain = go (cases_lt c 32)
    where
      go : (c < 32) ⊎ (32 ≤ c) → xml_character c ≡ encode_utf8 c
      go (inl small) = absurd (no_control small)
      go (inr from) =
          rw (
            ne_eqb c 38 (other 38 refl),
            ne_eqb c 60 (other 60 refl),
            ne_eqb c 62 (other 62 refl),
            ne_eqb c 34 (other 34 refl),
            ne_eqb c 9 (λ e. omega arith),
            ne_eqb c 10 (λ e. omega arith),
            ne_eqb c 13 (λ e. omega arith),
            le-leb 32 c from,
            ne_eqb c 0xFFFE (other 0xFFFE refl),
            ne_eqb c 0xFFFF (other 0xFFFF refl),
          )

characters-plain : (cs : List ℕ) → list_all is_plain_byte (encodes cs) ≡ true → flat_map xml_character cs ≡ encodes cs
characters-plain [] all = refl
characters-plain (c ∷ cs) all =
    let both = all-append is_plain_byte (encode c) (encodes cs) all in
    ap₂ (λ x y. x ++ y) (xml_character-plain c both.0) (characters-plain cs both.1)

pub xml_text-plain : (text : List ℕ) → IsUtf8 text → list_all is_plain_byte text ≡ true → xml_text text ≡ text
unfolding xml_text
xml_text-plain text utf8 all =
    let whole = encodes-chars text utf8 in
    characters-plain (chars text) (ap (list_all is_plain_byte) whole ∙ all) ∙ whole
