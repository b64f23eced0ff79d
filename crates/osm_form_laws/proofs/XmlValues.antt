-- The texts of attribute values spell their characters.
use Rattle.std.proofs.Common.{◌≡◌, ◌≢◌, ℕ, ◌<◌, ◌≤◌, List, [], ◌∷◌, ◌++◌, map, flat_map, true, inl, inr, ◌⊎◌, refl, sym, ap, ap₂, subst, arith}
use Rattle.std.specs.Char.{IsScalar}
use Rattle.std.specs.List.{AllByRecursion}
use Rattle.std.specs.Prelude.{encode_utf8}
use Rattle.std.specs.Str.{IsUtf8, chars}
use Rattle.std.proofs.lemmas.Bool.{and_parts, cases_eq, cases_lt, le-leb, lt-leb, ne_eqb}
use Rattle.std.proofs.lemmas.Str.{encode_ascii, scalars-chars}
use lib.Utf8.{scalar_cases, scalars}
use Rattle.osm_form_laws.specs.XmlDocuments.{Beyond, High, IsWritten, IsXmlCharacter, Itself, Ampersand, CarriageReturn, GreaterThan, LessThan, LineFeed, Low, Numbered, Quote, SpellsValue, Tab, Written, meaning, spelling}
use Rattle.osm_forms.specs.XmlText.{replacement, xml_character, xml_text}
use Rattle.osm_form_laws.specs.XmlTrees.{held, held_characters}

-- ---- one character

-- how a character is written
record Writes (c : ℕ) : Type 0 where
  written : Written
  is : IsWritten written
  spelled : spelling written ≡ xml_character c
  meant : meaning written ≡ held c

replaced : (c : ℕ) → xml_character c ≡ encode_utf8 replacement → held c ≡ replacement → Writes c
replaced c spelled meant = record {
  written = Itself replacement;
  is = (High (omega arith) (omega arith), λ e. omega (arith, e), λ e. omega (arith, e), λ e. omega (arith, e), omega arith);
  spelled = sym spelled;
  meant = sym meant;
}

named_38 : Writes 38
named_38 = record { written = Ampersand; is = tt; spelled = refl; meant = refl }

named_60 : Writes 60
named_60 = record { written = LessThan; is = tt; spelled = refl; meant = refl }

named_62 : Writes 62
named_62 = record { written = GreaterThan; is = tt; spelled = refl; meant = refl }

named_34 : Writes 34
named_34 = record { written = Quote; is = tt; spelled = refl; meant = refl }

numbered_9 : Writes 9
numbered_9 = record { written = Numbered (57 ∷ []); is = ((λ e. let f : ◌≡◌ {A = List ℕ} (57 ∷ []) [] = e in cc, (omega arith, tt)), Tab refl); spelled = refl; meant = refl }

numbered_10 : Writes 10
numbered_10 = record { written = Numbered (49 ∷ 48 ∷ []); is = ((λ e. let f : ◌≡◌ {A = List ℕ} (49 ∷ 48 ∷ []) [] = e in cc, (omega arith, (omega arith, tt))), LineFeed refl); spelled = refl; meant = refl }

numbered_13 : Writes 13
numbered_13 = record { written = Numbered (49 ∷ 51 ∷ []); is = ((λ e. let f : ◌≡◌ {A = List ℕ} (49 ∷ 51 ∷ []) [] = e in cc, (omega arith, (omega arith, tt))), CarriageReturn refl); spelled = refl; meant = refl }

module _ (c : ℕ) (scalar : IsScalar c) (a : c ≢ 38) (b : c ≢ 60) (d : c ≢ 62) (f : c ≢ 34) (g : c ≢ 9) (h : c ≢ 10) (k : c ≢ 13) where
  control : c < 32 → Writes c
  control small =
      replaced c
      (rw (ne_eqb c 38 a, ne_eqb c 60 b, ne_eqb c 62 d, ne_eqb c 34 f, ne_eqb c 9 g, ne_eqb c 10 h, ne_eqb c 13 k, lt-leb 32 c small))
      (rw (ne_eqb c 38 a, ne_eqb c 60 b, ne_eqb c 62 d, ne_eqb c 34 f, ne_eqb c 9 g, ne_eqb c 10 h, ne_eqb c 13 k, lt-leb 32 c small))

  character : 32 ≤ c → c ≢ 0xFFFE → c ≢ 0xFFFF → IsXmlCharacter c
  character from l m = elim (scalar_cases c scalar) [ inl low ↦ Low from (omega arith) | inr high ↦ higher high.0 (omega (arith, high.1)) (cases_lt c 0x1_0000) ]
    where
      higher : 0xE000 ≤ c → c ≤ 0x10_FFFF → (c < 0x1_0000) ⊎ (0x1_0000 ≤ c) → IsXmlCharacter c
      higher low top (inl small) = High low (omega arith)
      higher low top (inr large) = Beyond large top

  itself : 32 ≤ c → c ≢ 0xFFFE → c ≢ 0xFFFF → Writes c
  itself from l m = record {
    written = Itself c;
    is = (character from l m, a, b, f, from);
    spelled = sym (rw (ne_eqb c 38 a, ne_eqb c 60 b, ne_eqb c 62 d, ne_eqb c 34 f, ne_eqb c 9 g, ne_eqb c 10 h, ne_eqb c 13 k, le-leb 32 c from, ne_eqb c 0xFFFE l, ne_eqb c 0xFFFF m));
    meant = sym (rw (ne_eqb c 38 a, ne_eqb c 60 b, ne_eqb c 62 d, ne_eqb c 34 f, ne_eqb c 9 g, ne_eqb c 10 h, ne_eqb c 13 k, le-leb 32 c from, ne_eqb c 0xFFFE l, ne_eqb c 0xFFFF m));
  }

  unreferred : Writes c
  unreferred = go (cases_lt c 32) (cases_eq c 0xFFFE) (cases_eq c 0xFFFF)
    where
      go : (c < 32) ⊎ (32 ≤ c) → (c ≡ 0xFFFE) ⊎ (c ≡ 0xFFFE → ⊥) → (c ≡ 0xFFFF) ⊎ (c ≡ 0xFFFF → ⊥) → Writes c
      go (inl small) l m = control small
      go (inr from) (inl e) m = subst Writes (sym e) (replaced 0xFFFE refl refl)
      go (inr from) (inr l) (inl e) = subst Writes (sym e) (replaced 0xFFFF refl refl)
      go (inr from) (inr l) (inr m) = itself from l m

writes : (c : ℕ) → IsScalar c → Writes c
writes c scalar = go (cases_eq c 38) (cases_eq c 60) (cases_eq c 62) (cases_eq c 34) (cases_eq c 9) (cases_eq c 10) (cases_eq c 13)
  where
    go : (c ≡ 38) ⊎ (c ≡ 38 → ⊥) → (c ≡ 60) ⊎ (c ≡ 60 → ⊥) → (c ≡ 62) ⊎ (c ≡ 62 → ⊥) → (c ≡ 34) ⊎ (c ≡ 34 → ⊥) → (c ≡ 9) ⊎ (c ≡ 9 → ⊥) → (c ≡ 10) ⊎ (c ≡ 10 → ⊥) → (c ≡ 13) ⊎ (c ≡ 13 → ⊥) → Writes c
    go (inl e) b d f g h k = subst Writes (sym e) named_38
    go (inr a) (inl e) d f g h k = subst Writes (sym e) named_60
    go (inr a) (inr b) (inl e) f g h k = subst Writes (sym e) named_62
    go (inr a) (inr b) (inr d) (inl e) g h k = subst Writes (sym e) named_34
    go (inr a) (inr b) (inr d) (inr f) (inl e) h k = subst Writes (sym e) numbered_9
    go (inr a) (inr b) (inr d) (inr f) (inr g) (inl e) k = subst Writes (sym e) numbered_10
    go (inr a) (inr b) (inr d) (inr f) (inr g) (inr h) (inl e) = subst Writes (sym e) numbered_13
    go (inr a) (inr b) (inr d) (inr f) (inr g) (inr h) (inr k) = unreferred c scalar a b d f g h k

-- ---- texts

more_written : (c : ℕ) (cs : List ℕ) → Writes c → SpellsValue (flat_map xml_character cs) (map held cs) → SpellsValue (flat_map xml_character (c ∷ cs)) (map held (c ∷ cs))
more_written c cs one rest = record {
  written = one.written ∷ rest.written;
  are = (one.is, rest.are);
  text_is = ap₂ (λ x y. x ++ y) (sym one.spelled) rest.text_is;
  characters_are = ap₂ (λ x xs. x ∷ xs) (sym one.meant) rest.characters_are;
}

characters_spelled : (cs : List ℕ) → scalars cs ≡ true → SpellsValue (flat_map xml_character cs) (map held cs)
characters_spelled [] all = record { written = []; are = tt; text_is = refl; characters_are = refl }
characters_spelled (c ∷ cs) all = let both = and_parts _ _ all in more_written c cs (writes c both.0) (characters_spelled cs both.1)

pub text_spelled : (text : List ℕ) → IsUtf8 text → SpellsValue (xml_text text) (held_characters text)
unfolding xml_text
text_spelled text utf8 = characters_spelled (chars text) (scalars-chars text utf8)

-- ---- values of plain ASCII

-- from `-` to `z`, and not `<`
abbrev pub IsPlain : ℕ → Type 0
IsPlain b = (45 ≤ b) × (b ≤ 122) × (b ≢ 60)

pub plain_spelled : (text : List ℕ) → AllByRecursion IsPlain text → SpellsValue text text
plain_spelled [] all = record { written = []; are = tt; text_is = refl; characters_are = refl }
plain_spelled (b ∷ text) all =
    let rest = plain_spelled text all.1 in
    let is = all.0 in
    record {
      written = Itself b ∷ rest.written;
      are = ((Low (omega (arith, is.0)) (omega (arith, is.1)), λ e. omega (arith, is.0), is.2, λ e. omega (arith, is.0), omega (arith, is.0)), rest.are);
      text_is = ap₂ (λ x y. x ++ y) (sym (encode_ascii b (omega (arith, is.1)))) rest.text_is;
      characters_are = ap (λ xs. b ∷ xs) rest.characters_are;
    }
