-- The canonical spelling of a text is one of its spellings.
use Rattle.std.proofs.Common.{◌≡◌, ◌≢◌, ℕ, zero, suc, ◌+◌, ◌*◌, ◌/◌, ◌%◌, ◌^◌, ◌<◌, ◌≤◌, Bool, true, false, cond, ltb, ◌==◌, ◌&&◌, if◌then◌else◌, List, [], ◌∷◌, ◌++◌, flat_map, length, get_or, refl, sym, subst, ◌∙◌, ap, arith, lit<, length-append, inl, inr}
use Rattle.std.specs.Char.{digit_value, digit_char, encode_utf8, IsScalar}
use Rattle.std.specs.Str.{IsUtf8, chars}
use Rattle.std.specs.Str.Parse.{AllDigits, digits_value, digits_value_after}
use Rattle.std.proofs.lemmas.Bool.Decides.{nat_tests}
use Rattle.std.proofs.lemmas.Str.{encode_ascii, digit_value-digit_char, encodes-chars, scalars-chars, byte_from_char, length-encode, len_utf8_bounds}
use Rattle.std.proofs.lemmas.List.{get_or-append-add}
use Rattle.std.proofs.Math.Arith.{mod-mul}
use Rattle.std.proofs.Math.Nat.{pow-succ', one-le-pow, mod-eq_of_lt, add-mul, mul_assoc}
use lib.Utf8.{scalar, scalars, encodes, scalar_cases}
use Rattle.osm_model.specs.CanonicalLine.{is_literal, hex, hex_digits, hex_places, escaped, escaped_char}
use Rattle.osm_model.specs.Limits.{HasNoNul}
use Rattle.byte_io.specs.Pieces.{Lacks}
use Rattle.opl_codec.specs.Texts.{is_free, IsEscape, SpellsText}
use Rattle.osm_model.proofs.shared.Each.{all_append}
use Rattle.opl_codec.proofs.TextsJoined.{spells_none, spells_byte, spells_escape, spells_append}

-- ---- the digits of a code point

pub length_digits : (k n : ℕ) → length (hex_digits k n) ≡ k
length_digits zero n = refl
length_digits (suc k) n = omega (arith, length_digits k n)

digit_is : (n k : ℕ) → digit_value (digit_char (n / 16 ^ k % 16)) ≡ n / 16 ^ k % 16
digit_is n k = digit_value-digit_char (n / 16 ^ k % 16) (omega arith)

all_digits : (k n : ℕ) → AllDigits 16 (hex_digits k n)
all_digits zero n = tt
all_digits (suc k) n = (omega (arith, digit_is n k), all_digits k n)

value_of : (k n m : ℕ) → digits_value_after 16 m (hex_digits k n) ≡ m * 16 ^ k + n % 16 ^ k
value_of zero n m = omega arith
value_of (suc k) n m =
    let digit = n / 16 ^ k % 16 in
    let step : digits_value_after 16 (m * 16 + digit_value (digit_char digit)) (hex_digits k n) ≡ (m * 16 + digit_value (digit_char digit)) * 16 ^ k + n % 16 ^ k = value_of k n (m * 16 + digit_value (digit_char digit)) in
    let cut : n % (16 * 16 ^ k) ≡ digit * 16 ^ k + n % 16 ^ k = mod-mul n {m = 16} {c = 16 ^ k} (lit< tt) (one-le-pow k 16 (lit< tt)) in
    let whole : n % 16 ^ suc k ≡ digit * 16 ^ k + n % 16 ^ k = ap (λ p. n % p) (pow-succ' 16 k) ∙ cut in
    let up : m * 16 ^ suc k ≡ (m * 16) * 16 ^ k = ap (λ p. m * p) (pow-succ' 16 k) ∙ sym (mul_assoc m 16 (16 ^ k)) in
    let parts : (m * 16 + digit) * 16 ^ k ≡ (m * 16) * 16 ^ k + digit * 16 ^ k = add-mul (m * 16) digit (16 ^ k) in
    let said : digits_value_after 16 (m * 16 + digit_value (digit_char digit)) (hex_digits k n) ≡ (m * 16 + digit) * 16 ^ k + n % 16 ^ k = step ∙ ap (λ d. (m * 16 + d) * 16 ^ k + n % 16 ^ k) (digit_is n k) in
    omega (arith, whole, up, parts, said)

enough : (c : ℕ) (b2 b3 b4 b5 : Bool) → ltb c 0x100 ≡ b2 → ltb c 0x1000 ≡ b3 → ltb c 0x1_0000 ≡ b4 → ltb c 0x10_0000 ≡ b5 → c < 0x100_0000
    → c < 16 ^ cond b2 2 (cond b3 3 (cond b4 4 (cond b5 5 6)))
enough c true b3 b4 b5 e2 e3 e4 e5 small = grind (arith, nat_tests, e2)
enough c false true b4 b5 e2 e3 e4 e5 small = grind (arith, nat_tests, e3)
enough c false false true b5 e2 e3 e4 e5 small = grind (arith, nat_tests, e4)
enough c false false false true e2 e3 e4 e5 small = grind (arith, nat_tests, e5)
enough c false false false false e2 e3 e4 e5 small = omega arith

pub few : (b2 b3 b4 b5 : Bool) → (cond b2 2 (cond b3 3 (cond b4 4 (cond b5 5 6))) ≤ 6) × (2 ≤ cond b2 2 (cond b3 3 (cond b4 4 (cond b5 5 6))))
few true b3 b4 b5 = (omega arith, omega arith)
few false true b4 b5 = (omega arith, omega arith)
few false false true b5 = (omega arith, omega arith)
few false false false true = (omega arith, omega arith)
few false false false false = (omega arith, omega arith)

pub scalar_small : (c : ℕ) → IsScalar c → c < 0x100_0000
scalar_small c is = elim (scalar_cases c is) [ inl low ↦ omega (arith, low) | inr high ↦ omega (arith, high.1) ]

nothing : (p r : ℕ) → 0 * p + r ≡ r
nothing p r = omega arith

pub value_is : (c : ℕ) → IsScalar c → digits_value 16 (hex c) ≡ c
unfolding hex
value_is c is =
    let small : c < 16 ^ hex_places c = enough c (ltb c 0x100) (ltb c 0x1000) (ltb c 0x1_0000) (ltb c 0x10_0000) refl refl refl refl (scalar_small c is) in
    let value : digits_value 16 (hex_digits (hex_places c) c) ≡ c % 16 ^ hex_places c = value_of (hex_places c) c 0 ∙ nothing (16 ^ hex_places c) (c % 16 ^ hex_places c) in
    value ∙ mod-eq_of_lt small

pub escape_of : (c : ℕ) → IsScalar c → c ≢ 0 → IsEscape (hex c)
unfolding hex
escape_of c is some =
    let places = few (ltb c 0x100) (ltb c 0x1000) (ltb c 0x1_0000) (ltb c 0x10_0000) in
    let long : length (hex c) ≡ hex_places c = length_digits (hex_places c) c in
    record {
      some = λ none. let zero_len : length (hex c) ≡ 0 = ap length none in omega (arith, zero_len, long, places);
      few = omega (arith, long, places);
      hexadecimal = all_digits (hex_places c) c;
      character = subst IsScalar (sym (value_is c is)) is;
      not_nul = λ e. some (sym (value_is c is) ∙ e);
    }

-- ---- one character, and all

pub literal_ascii : (c : ℕ) → is_literal c ≡ true → c < 128
literal_ascii c e = grind (arith, nat_tests)

pub literal_free : (c : ℕ) → is_literal c ≡ true → is_free c ≡ true
literal_free c e = grind (arith, nat_tests)

one_spelled : (c : ℕ) (b : Bool) → is_literal c ≡ b → IsScalar c → c ≢ 0 → SpellsText (if b then c ∷ [] else (37 ∷ hex c) ++ 37 ∷ []) (encode_utf8 c)
one_spelled c true literal is some = subst (SpellsText (c ∷ [])) (sym (encode_ascii c (literal_ascii c literal))) (spells_byte c (literal_free c literal))
one_spelled c false literal is some = subst (λ v. SpellsText (37 ∷ (hex c ++ 37 ∷ [])) (encode_utf8 v)) (value_is c is) (spells_escape (hex c) (escape_of c is some))

pub both_first : (a b : Bool) → (a && b) ≡ true → a ≡ true
both_first true b e = refl
both_first false b e = cc

pub both_second : (a b : Bool) → (a && b) ≡ true → b ≡ true
both_second true b e = e
both_second false b e = cc

abbrev pub NoNul : List ℕ → Type 0
NoNul bytes = (k d : ℕ) → k < length bytes → get_or bytes k d ≢ 0

pub first_some : (c : ℕ) (rest : List ℕ) → NoNul (encode_utf8 c ++ rest) → c ≢ 0
first_some c rest none e =
    let long : 1 ≤ length (encode_utf8 c) = omega (arith, length-encode c, len_utf8_bounds c) in
    none 0 0 (omega (arith, long, length-append (encode_utf8 c) rest)) (byte_from_char (encode_utf8 c ++ rest) rest c refl (omega arith) ∙ e)

pub rest_some : (front rest : List ℕ) → NoNul (front ++ rest) → NoNul rest
rest_some front rest none k d lt e = none (length front + k) d (omega (arith, lt, length-append front rest)) (get_or-append-add front rest k d ∙ e)

all_spelled : (cs : List ℕ) → scalars cs ≡ true → NoNul (encodes cs) → SpellsText (flat_map escaped_char cs) (encodes cs)
all_spelled [] are none = spells_none
all_spelled (c ∷ cs) are none =
    let first = one_spelled c (is_literal c) refl (both_first (scalar c) (scalars cs) are) (first_some c (encodes cs) none) in
    let rest = all_spelled cs (both_second (scalar c) (scalars cs) are) (rest_some (encode_utf8 c) (encodes cs) none) in
    spells_append (escaped_char c) (flat_map escaped_char cs) (encode_utf8 c) (encodes cs) first rest

pub escaped_text : (text : List ℕ) → IsUtf8 text → HasNoNul text → SpellsText (escaped text) text
unfolding escaped HasNoNul
escaped_text text utf8 none =
    let same : encodes (chars text) ≡ text = encodes-chars text utf8 in
    subst (SpellsText (flat_map escaped_char (chars text))) same (all_spelled (chars text) (scalars-chars text utf8) (subst NoNul (sym same) none))

-- ---- no `@`

digit_no_at : (byte : ℕ) → digit_value byte < 16 → (byte == 64) ≡ false
digit_no_at byte h = grind (arith, nat_tests)

digits_no_at : (digits : List ℕ) → AllDigits 16 digits → Lacks 64 digits
digits_no_at [] all = tt
digits_no_at (d ∷ digits) all = (digit_no_at d all.0, digits_no_at digits all.1)

literal_no_at : (c : ℕ) → is_literal c ≡ true → (c == 64) ≡ false
literal_no_at c e = grind (arith, nat_tests)

hex_no_at : (c : ℕ) → Lacks 64 (hex c)
unfolding hex
hex_no_at c = digits_no_at (hex c) (all_digits (hex_places c) c)

one_no_at : (c : ℕ) (b : Bool) → is_literal c ≡ b → Lacks 64 (if b then c ∷ [] else (37 ∷ hex c) ++ 37 ∷ [])
one_no_at c true literal = (literal_no_at c literal, tt)
one_no_at c false literal = (refl, all_append (λ other. (other == 64) ≡ false) (hex c) (37 ∷ []) (hex_no_at c) (refl, tt))

all_no_at : (cs : List ℕ) → Lacks 64 (flat_map escaped_char cs)
all_no_at [] = tt
all_no_at (c ∷ cs) = all_append (λ other. (other == 64) ≡ false) (escaped_char c) (flat_map escaped_char cs) (one_no_at c (is_literal c) refl) (all_no_at cs)

pub escaped_no_at : (text : List ℕ) → Lacks 64 (escaped text)
unfolding escaped
escaped_no_at text = all_no_at (chars text)
