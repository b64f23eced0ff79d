-- Texts one after another.
use Rattle.std.proofs.Common.{◌≡◌, ◌≢◌, ℕ, zero, suc, ◌+◌, ◌<◌, ◌≤◌, true, List, [], ◌∷◌, ◌++◌, flat_map, length, take, drop, get_or, refl, sym, subst, ◌∙◌, ap, arith, append_assoc, append-nil, length-append}
use Rattle.std.specs.Char.{encode_utf8}
use Rattle.std.specs.List.{AllByRecursion}
use Rattle.std.specs.Str.Parse.{digits_value}
use Rattle.std.proofs.lemmas.Grind.{flat_map-append}
use Rattle.std.proofs.lemmas.List.{take_more, take_at, take-append-drop, drop_more, drop_all, take_all, length-take-le}
use Rattle.opl_codec.specs.Texts.{is_free, IsEscape, Character, Itself, Escape, IsCharacter, spelling, meaning, SpellsText, IsText, BeginsEscape, BadEscapeIn, TextMisfit}
use Rattle.opl_codec.specs.internal.TextParts.{EndsText, IsTextFront}
use Rattle.osm_model.proofs.shared.Each.{all_append}
use Rattle.opl_codec.proofs.TextsParts.{free_not_percent, digits_apart}

pub spells_none : SpellsText [] []
spells_none = record { characters = []; are = tt; spelled_is = refl; text_is = refl }

pub spells_byte : (byte : ℕ) → is_free byte ≡ true → SpellsText (byte ∷ []) (byte ∷ [])
spells_byte byte free = record { characters = Itself byte ∷ []; are = (free, tt); spelled_is = refl; text_is = refl }

pub spells_escape : (digits : List ℕ) → IsEscape digits → SpellsText (37 ∷ (digits ++ 37 ∷ [])) (encode_utf8 (digits_value 16 digits))
spells_escape digits is = record {
  characters = Escape digits ∷ [];
  are = (is, tt);
  spelled_is = sym (append-nil (37 ∷ (digits ++ 37 ∷ [])));
  text_is = sym (append-nil (encode_utf8 (digits_value 16 digits)));
}

pub spells_append : (a b v w : List ℕ) → SpellsText a v → SpellsText b w → SpellsText (a ++ b) (v ++ w)
spells_append a b v w h k = record {
  characters = h.characters ++ k.characters;
  are = all_append IsCharacter h.characters k.characters h.are k.are;
  spelled_is = ap (λ s. s ++ b) h.spelled_is ∙ (ap (λ s. flat_map spelling h.characters ++ s) k.spelled_is ∙ sym (flat_map-append spelling h.characters k.characters));
  text_is = ap (λ s. s ++ w) h.text_is ∙ (ap (λ s. flat_map meaning h.characters ++ s) k.text_is ∙ sym (flat_map-append meaning h.characters k.characters));
}

-- one more byte that stands for itself
pub text_more : (bytes : List ℕ) (i : ℕ) → i < length bytes → IsText (take i bytes) → is_free (get_or bytes i 0) ≡ true → IsText (take (i + 1) bytes)
text_more bytes i lt text free =
    let byte = get_or bytes i 0 in
    subst IsText (sym (take_more bytes i 0 lt)) (text.0 ++ byte ∷ [], spells_append (take i bytes) (byte ∷ []) text.0 (byte ∷ []) text.1 (spells_byte byte free))

-- a text and an escape after it
pub escape_more : (bytes : List ℕ) (i n : ℕ) → i < length bytes → IsText (take i bytes) → get_or bytes i 0 ≡ 37
    → n < length (drop (i + 1) bytes) → get_or (drop (i + 1) bytes) n 0 ≡ 37 → IsEscape (take n (drop (i + 1) bytes)) → IsText (take (i + (n + 2)) bytes)
escape_more bytes i n lt text begins within ends escape =
    let after = drop (i + 1) bytes in
    let digits = take n after in
    let front = take i bytes in
    let spelled = 37 ∷ (digits ++ 37 ∷ []) in
    let tail = drop (n + 1) after in
    let cut : after ≡ digits ++ 37 ∷ tail = sym (take-append-drop n after) ∙ ap (λ r. digits ++ r) (drop_more after n 0 within ∙ ap (λ b. b ∷ tail) ends) in
    let following : drop i bytes ≡ spelled ++ tail = drop_more bytes i 0 lt ∙ (ap (λ b. b ∷ after) begins ∙ ap (λ r. 37 ∷ r) (cut ∙ sym (append_assoc digits (37 ∷ []) tail))) in
    let whole : bytes ≡ (front ++ spelled) ++ tail = sym (take-append-drop i bytes) ∙ (ap (λ r. front ++ r) following ∙ sym (append_assoc front spelled tail)) in
    let front_len : length front ≡ i = length-take-le i bytes (omega arith) in
    let digits_len : length digits ≡ n = length-take-le n after (omega arith) in
    let long : length (front ++ spelled) ≡ i + (n + 2) = omega (arith, length-append front spelled, length-append digits (37 ∷ []), front_len, digits_len) in
    let taken : take (i + (n + 2)) bytes ≡ front ++ spelled = ap (take (i + (n + 2))) whole ∙ take_at (front ++ spelled) tail (i + (n + 2)) long in
    let value = encode_utf8 (digits_value 16 digits) in
    subst IsText (sym taken) (text.0 ++ value, spells_append front spelled text.0 value text.1 (spells_escape digits escape))

-- a text, and a `%` after it that begins no escape
pub bad_escape : (bytes : List ℕ) (i : ℕ) → i < length bytes → IsText (take i bytes) → get_or bytes i 0 ≡ 37 → (BeginsEscape (drop (i + 1) bytes) → ⊥) → BadEscapeIn bytes i
bad_escape bytes i lt text begins bad = record {
  front = take i bytes;
  rest = drop (i + 1) bytes;
  spelled_is = sym (take-append-drop i bytes) ∙ ap (λ r. take i bytes ++ r) (drop_more bytes i 0 lt ∙ ap (λ b. b ∷ drop (i + 1) bytes) begins);
  place = length-take-le i bytes (omega arith);
  text = text;
  bad = bad;
}

-- a text, and a byte after it that no text has
pub ends_text : (bytes : List ℕ) (i : ℕ) → i < length bytes → is_free (get_or bytes i 0) ≢ true → get_or bytes i 0 ≢ 37 → EndsText (drop i bytes)
ends_text bytes i lt misfit other = subst EndsText (sym (drop_more bytes i 0 lt)) (misfit, other)

pub end_ends : (bytes : List ℕ) (i : ℕ) → length bytes ≤ i → EndsText (drop i bytes)
end_ends bytes i le = subst EndsText (sym (drop_all i bytes le)) tt

-- ---- texts taken apart

literal_characters : (cs : List Character) (len : ℕ) → AllByRecursion IsCharacter cs → ((k : ℕ) → k < len → get_or (flat_map spelling cs) k 0 ≢ 37)
    → SpellsText (take len (flat_map spelling cs)) (take len (flat_map spelling cs)) × IsText (drop len (flat_map spelling cs))
literal_characters cs zero are none = (spells_none, (flat_map meaning cs, record { characters = cs; are = are; spelled_is = refl; text_is = refl }))
literal_characters [] (suc len) are none = (spells_none, ([], spells_none))
literal_characters (Itself byte ∷ cs) (suc len) are none =
    let more : flat_map spelling (Itself byte ∷ cs) ≡ byte ∷ flat_map spelling cs = refl in
    let rest = literal_characters cs len are.1 (λ k lt e. none (suc k) (omega (arith, lt)) e) in
    let front = take len (flat_map spelling cs) in
    (spells_append (byte ∷ []) front (byte ∷ []) front (spells_byte byte are.0) rest.0, rest.1)
literal_characters (Escape digits ∷ cs) (suc len) are none = absurd (none 0 (omega arith) refl)

-- bytes of a text before its first `%` stand for themselves, and what comes after them is a text
pub literal_front : (text : List ℕ) (len : ℕ) → IsText text → ((k : ℕ) → k < len → get_or text k 0 ≢ 37) → SpellsText (take len text) (take len text) × IsText (drop len text)
literal_front text len is none =
    let spelled = is.1.spelled_is in
    let P : List ℕ → Type 0 = λ s. SpellsText (take len s) (take len s) × IsText (drop len s) in
    let Q : List ℕ → Type 0 = λ s. (k : ℕ) → k < len → get_or s k 0 ≢ 37 in
    subst P (sym spelled) (literal_characters is.1.characters len is.1.are (subst Q spelled none))

pub all_literal : (text : List ℕ) → IsText text → ((k : ℕ) → k < length text → get_or text k 0 ≢ 37) → SpellsText text text
all_literal text is none = subst (λ s. SpellsText s s) (take_all (length text) text (omega arith)) (literal_front text (length text) is none).0

-- a text that begins with an escape
pub record BeginsText (after : List ℕ) : Type 0 where
  pub digits : List ℕ
  pub rest : List ℕ
  pub parts : after ≡ digits ++ 37 ∷ rest
  pub escape : IsEscape digits
  pub text : IsText rest

begins_character : (cs : List Character) (after : List ℕ) → AllByRecursion IsCharacter cs → 37 ∷ after ≡ flat_map spelling cs → BeginsText after
begins_character [] after are e = absurd (no_list after e)
  where
    no_list : (s : List ℕ) → 37 ∷ s ≡ [] → ⊥
    no_list s e = cc
begins_character (Itself byte ∷ cs) after are e = absurd (free_not_percent byte are.0 (let same : 37 ≡ byte = cc in sym same))
begins_character (Escape digits ∷ cs) after are e =
    let tails : after ≡ (digits ++ 37 ∷ []) ++ flat_map spelling cs = cc in
    record {
      digits = digits;
      rest = flat_map spelling cs;
      parts = tails ∙ append_assoc digits (37 ∷ []) (flat_map spelling cs);
      escape = are.0;
      text = (flat_map meaning cs, record { characters = cs; are = are.1; spelled_is = refl; text_is = refl });
    }

pub begins_text : (after : List ℕ) → IsText (37 ∷ after) → BeginsText after
begins_text after is = begins_character is.1.characters after is.1.are is.1.spelled_is

-- the first `%` of a text begins an escape
pub first_escape : (text : List ℕ) (len : ℕ) → IsText text → len < length text → get_or text len 0 ≡ 37 → ((k : ℕ) → k < len → get_or text k 0 ≢ 37) → BeginsText (drop (len + 1) text)
first_escape text len is lt here none =
    let following : drop len text ≡ 37 ∷ drop (len + 1) text = drop_more text len 0 lt ∙ ap (λ b. b ∷ drop (len + 1) text) here in
    begins_text (drop (len + 1) text) (subst IsText following (literal_front text len is none).1)

-- a text up to its first escape and with it, and what comes after that
pub record OneStep (text rest : List ℕ) (len n : ℕ) : Type 0 where
  pub left : IsText rest
  pub means : (t : List ℕ) → SpellsText rest t → SpellsText text (take len text ++ (encode_utf8 (digits_value 16 (take n (drop (len + 1) text))) ++ t))

pub one_step : (text after rest : List ℕ) (len n : ℕ) → IsText text → len < length text → get_or text len 0 ≡ 37 → ((k : ℕ) → k < len → get_or text k 0 ≢ 37)
    → after ≡ drop (len + 1) text → rest ≡ drop (n + 1) after → n < length after → get_or after n 0 ≡ 37 → IsEscape (take n after) → OneStep text rest len n
one_step text after rest len n is lt here none after_is rest_is within ends escape =
    let found = first_escape text len is lt here none in
    let digits = take n after in
    let front = take len text in
    let cut : after ≡ digits ++ 37 ∷ rest = sym (take-append-drop n after) ∙ ap (λ r. digits ++ r) (drop_more after n 0 within ∙ (ap (λ b. b ∷ drop (n + 1) after) ends ∙ ap (λ r. 37 ∷ r) (sym rest_is))) in
    let same = digits_apart digits found.digits rest found.rest escape.hexadecimal found.escape.hexadecimal (sym cut ∙ (after_is ∙ found.parts)) in
    let spelled = 37 ∷ (digits ++ 37 ∷ []) in
    let following : drop len text ≡ spelled ++ rest = drop_more text len 0 lt ∙ (ap (λ b. b ∷ drop (len + 1) text) here ∙ ap (λ r. 37 ∷ r) (sym after_is ∙ (cut ∙ sym (append_assoc digits (37 ∷ []) rest)))) in
    let whole : text ≡ front ++ (spelled ++ rest) = sym (take-append-drop len text) ∙ ap (λ r. front ++ r) following in
    let literal : SpellsText front front = (literal_front text len is none).0 in
    let value = encode_utf8 (digits_value 16 digits) in
    let means : (t : List ℕ) → SpellsText rest t → SpellsText text (front ++ (value ++ t))
    = λ t h. subst (λ s. SpellsText s (front ++ (value ++ t))) (sym whole) (spells_append front (spelled ++ rest) front (value ++ t) literal (spells_append spelled rest value t (spells_escape digits escape) h)) in
    record {
      left = subst IsText (sym same.1) found.text;
      means = subst (λ (s : List ℕ). (t : List ℕ) → SpellsText rest t → SpellsText text (front ++ (encode_utf8 (digits_value 16 (take n s)) ++ t))) after_is means;
    }

-- ---- how far a text goes

-- a text that goes to the end is the whole
pub front_whole : (bytes : List ℕ) (len : ℕ) → IsTextFront bytes len → len ≡ length bytes → IsText bytes
front_whole bytes len front whole = subst IsText (take_all len bytes (omega arith)) front.text

-- one that doesn't has a byte after it that no text has
pub front_misfit : (bytes : List ℕ) (len : ℕ) → IsTextFront bytes len → len ≢ length bytes → TextMisfit bytes
front_misfit bytes len front other =
    let within : len ≤ length bytes = front.within in
    let lt : len < length bytes = omega (arith, within, other) in
    let following = drop_more bytes len 0 lt in
    let stop : EndsText (get_or bytes len 0 ∷ drop (len + 1) bytes) = subst EndsText following front.ends in
    record {
      front = take len bytes;
      byte = get_or bytes len 0;
      rest = drop (len + 1) bytes;
      spelled_is = sym (take-append-drop len bytes) ∙ ap (λ r. take len bytes ++ r) following;
      text = front.text;
      misfit = stop.0;
      no_escape = stop.1;
    }
