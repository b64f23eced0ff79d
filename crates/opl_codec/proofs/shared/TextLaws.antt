-- Laws of spelled texts.
use Rattle.std.proofs.Common.{◌≡◌, ◌≢◌, ℕ, ◌<◌, true, false, ◌==◌, List, [], ◌∷◌, ◌++◌, flat_map, length, refl, sym, subst, ◌∙◌, ap, arith, append-nil, ◌⊎◌, inl, inr}
use Rattle.std.specs.Char.{digit_value}
use Rattle.std.specs.List.{AllByRecursion}
use Rattle.std.specs.Str.{IsUtf8}
use Rattle.std.specs.Str.Parse.{AllDigits}
use Rattle.std.proofs.lemmas.Bool.Decides.{nat_tests, eqb_tells}
use Rattle.osm_model.specs.Bytes.{at_sign, carriage_return, comma, equals_sign, line_feed, percent, space, tab}
use Rattle.osm_model.specs.CanonicalLine.{escaped}
use Rattle.osm_model.specs.Limits.{HasNoNul}
use Rattle.byte_io.specs.Pieces.{Lacks}
use Rattle.opl_codec.specs.Texts.{is_free, Character, Itself, Escape, IsCharacter, spelling, SpellsText, IsText, TextMisfit, BadEscapeIn}
use Rattle.osm_model.proofs.shared.Each.{all_append, all_weaker}
use Rattle.opl_codec.proofs.TextsParts.{StopsText, same_texts}
use Rattle.opl_codec.proofs.TextsEscaped.{escaped_text, escaped_no_at}
use Rattle.opl_codec.proofs.TextsClean.{no_nul}

-- a spelled text is one text
pub one_text : (s a b : List ℕ) → SpellsText s a → SpellsText s b → a ≡ b
one_text s a b h k = (same_texts s s a b [] [] h k tt tt refl).means

-- texts before a place where no text goes on are one
whole_or_stop : (s front stop : List ℕ) → s ≡ front ++ stop → IsText front → StopsText stop → IsText s → [] ≡ stop
whole_or_stop s front stop is text stops whole = (same_texts s front whole.0 text.0 [] stop whole.1 text.1 tt stops (append-nil s ∙ is)).rest

no_more : (byte : ℕ) (rest : List ℕ) → [] ≡ byte ∷ rest → ⊥
no_more byte rest e = cc

-- a text has no misfit, and no bad escape
pub not_misfit : (s : List ℕ) → TextMisfit s → IsText s → ⊥
not_misfit s h whole = no_more h.byte h.rest (whole_or_stop s h.front (h.byte ∷ h.rest) h.spelled_is h.text (h.misfit, λ e _. h.no_escape e) whole)

percent_not_free : is_free 37 ≢ true
percent_not_free e = cc

pub not_bad_escape : (s : List ℕ) (at : ℕ) → BadEscapeIn s at → IsText s → ⊥
not_bad_escape s at h whole = no_more 37 h.rest (whole_or_stop s h.front (37 ∷ h.rest) h.spelled_is h.text (percent_not_free, λ _ begins. h.bad begins) whole)

-- nor both
pub not_both : (s : List ℕ) (at : ℕ) → TextMisfit s → BadEscapeIn s at → ⊥
not_both s at h k =
    let same = same_texts h.front k.front h.text.0 k.text.0 (h.byte ∷ h.rest) (37 ∷ k.rest) h.text.1 k.text.1 (h.misfit, λ e _. h.no_escape e) (percent_not_free, λ _ begins. k.bad begins) (sym h.spelled_is ∙ k.spelled_is) in
    let tails : h.byte ∷ h.rest ≡ 37 ∷ k.rest = same.rest in
    h.no_escape (cc)

-- a bad escape has one place
pub one_place : (s : List ℕ) (at other : ℕ) → BadEscapeIn s at → BadEscapeIn s other → at ≡ other
one_place s at other h k =
    let same = same_texts h.front k.front h.text.0 k.text.0 (37 ∷ h.rest) (37 ∷ k.rest) h.text.1 k.text.1 (percent_not_free, λ _ begins. h.bad begins) (percent_not_free, λ _ begins. k.bad begins) (sym h.spelled_is ∙ k.spelled_is) in
    sym h.place ∙ (ap length same.spelled ∙ k.place)

-- two texts before bytes that no text has
pub record SameBefore (a b x y : List ℕ) (m n : ℕ) : Type 0 where
  pub text : a ≡ b
  pub byte : m ≡ n
  pub rest : x ≡ y

pub text_before : (a b x y : List ℕ) (m n : ℕ) → IsText a → IsText b → is_free m ≢ true → m ≢ percent → is_free n ≢ true → n ≢ percent → a ++ m ∷ x ≡ b ++ n ∷ y → SameBefore a b x y m n
text_before a b x y m n h k m_misfit m_other n_misfit n_other e =
    let same = same_texts a b h.0 k.0 (m ∷ x) (n ∷ y) h.1 k.1 (m_misfit, λ is _. m_other is) (n_misfit, λ is _. n_other is) e in
    let tails : m ∷ x ≡ n ∷ y = same.rest in
    record { text = same.spelled; byte = cc; rest = cc }

-- a text before such a byte isn't the front of a text
pub text_whole : (a b x : List ℕ) (m : ℕ) → IsText a → IsText b → is_free m ≢ true → m ≢ percent → a ++ m ∷ x ≡ b → ⊥
text_whole a b x m h k misfit other e = no_more m x (whole_or_stop b a (m ∷ x) (sym e) h (misfit, λ is _. other is) k)

-- ---- bytes that no text has

-- a byte of a spelled text
abbrev pub IsTextByte : ℕ → Type 0
IsTextByte byte = (is_free byte ≡ true) ⊎ (byte ≡ percent)

digit_free : (byte : ℕ) → digit_value byte < 16 → is_free byte ≡ true
digit_free byte h = grind (arith, nat_tests)

digits_free : (digits : List ℕ) → AllDigits 16 digits → AllByRecursion IsTextByte digits
digits_free [] all = tt
digits_free (d ∷ digits) all = (inl (digit_free d all.0), digits_free digits all.1)

character_bytes : (c : Character) → IsCharacter c → AllByRecursion IsTextByte (spelling c)
character_bytes (Itself byte) is = (inl is, tt)
character_bytes (Escape digits) is = (inr refl, all_append IsTextByte digits (37 ∷ []) (digits_free digits is.hexadecimal) (inr refl, tt))

characters_bytes : (cs : List Character) → AllByRecursion IsCharacter cs → AllByRecursion IsTextByte (flat_map spelling cs)
characters_bytes [] are = tt
characters_bytes (c ∷ cs) are = all_append IsTextByte (spelling c) (flat_map spelling cs) (character_bytes c are.0) (characters_bytes cs are.1)

-- each byte of a spelled text stands for itself or is a `%`
pub text_bytes : (s : List ℕ) → IsText s → AllByRecursion IsTextByte s
text_bytes s is = subst (AllByRecursion IsTextByte) (sym is.1.spelled_is) (characters_bytes is.1.characters is.1.are)

other_byte : (byte : ℕ) → is_free byte ≢ true → byte ≢ percent → (other : ℕ) → IsTextByte other → (other == byte) ≡ false
other_byte byte misfit no_escape other is = elim (eqb_tells other byte) [
  | inl same ↦ absurd (elim is [ inl free ↦ misfit (subst (λ b. is_free b ≡ true) same.1 free) | inr mark ↦ no_escape (sym same.1 ∙ mark) ])
  | inr differs ↦ differs.0
]

pub lacks : (byte : ℕ) → is_free byte ≢ true → byte ≢ percent → (s : List ℕ) → IsText s → Lacks byte s
lacks byte misfit no_escape s is = all_weaker IsTextByte (λ other. (other == byte) ≡ false) s (other_byte byte misfit no_escape) (text_bytes s is)

-- no text has a comma, an `=`, a space, a tab, LF or CR
pub lacks_comma : (s : List ℕ) → IsText s → Lacks comma s
lacks_comma = lacks comma (λ e. cc) (λ e. absurd (omega (arith, e)))

pub lacks_equals : (s : List ℕ) → IsText s → Lacks equals_sign s
lacks_equals = lacks equals_sign (λ e. cc) (λ e. absurd (omega (arith, e)))

pub lacks_space : (s : List ℕ) → IsText s → Lacks space s
lacks_space = lacks space (λ e. cc) (λ e. absurd (omega (arith, e)))

pub lacks_tab : (s : List ℕ) → IsText s → Lacks tab s
lacks_tab = lacks tab (λ e. cc) (λ e. absurd (omega (arith, e)))

pub lacks_line_feed : (s : List ℕ) → IsText s → Lacks line_feed s
lacks_line_feed = lacks line_feed (λ e. cc) (λ e. absurd (omega (arith, e)))

pub lacks_carriage_return : (s : List ℕ) → IsText s → Lacks carriage_return s
lacks_carriage_return = lacks carriage_return (λ e. cc) (λ e. absurd (omega (arith, e)))

-- ---- the canonical spelling

-- the canonical spelling of a text is one of its spellings
pub escaped_spells : (text : List ℕ) → IsUtf8 text → HasNoNul text → SpellsText (escaped text) text
escaped_spells = escaped_text

-- and has no `@`
pub escaped_lacks_at : (text : List ℕ) → Lacks at_sign (escaped text)
escaped_lacks_at = escaped_no_at

-- a spelled text has no NUL
pub text_clean : (spelled text : List ℕ) → SpellsText spelled text → HasNoNul text
text_clean = no_nul
