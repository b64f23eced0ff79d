-- The canonical hexadecimal digits of a code point are the one text of it in lower case without
-- needless zeros.
use Rattle.std.proofs.Common.{◌≡◌, ◌≢◌, ℕ, zero, suc, ◌+◌, ◌-◌, ◌*◌, ◌/◌, ◌%◌, ◌^◌, ◌<◌, ◌≤◌, Bool, true, false, cond, ltb, List, [], ◌∷◌, length, refl, sym, ◌∙◌, ap, subst, arith, inl, inr}
use Rattle.std.specs.Prelude.{◌⊎◌}
use Rattle.std.specs.Char.{digit_value, digit_char, is_ascii_uppercase, IsScalar}
use Rattle.std.specs.List.{AllByRecursion}
use Rattle.std.specs.Str.Parse.{AllDigits, digits_value, digits_value_after}
use Rattle.std.proofs.Math.Nat.{mul-le-mul_right}
use Rattle.std.proofs.lemmas.Bool.Decides.{nat_tests, eqb_tells}
use Rattle.std.proofs.lemmas.Bool.{ltb-false, ltb-true}
use Rattle.std.proofs.lemmas.Int.Digits.{digits_value-lt}
use Rattle.std.proofs.lemmas.Nat.{div-mul-add}
use Rattle.std.proofs.lemmas.Str.{digit_value-digit_char}
use Rattle.osm_model.specs.CanonicalLine.{hex, hex_digits, hex_places}
use Rattle.osm_model.proofs.shared.OneNumeral.{digits_value_after-split}
use Rattle.opl_codec.specs.Canonical.{IsCanonicalHex}
use Rattle.opl_codec.specs.Texts.{IsEscape}
use Rattle.opl_codec.proofs.TextsEscaped.{few, length_digits, scalar_small}

-- no letter in upper case
abbrev IsLower : ℕ → Type 0
IsLower digit = is_ascii_uppercase digit ≡ false

-- ---- the digits of a number
digit_back : (d : ℕ) → digit_value d < 16 → IsLower d → digit_char (digit_value d) ≡ d
digit_back d small lower = grind (arith, nat_tests)

hex_back : (ds : List ℕ) (m : ℕ) → AllDigits 16 ds → AllByRecursion IsLower ds → hex_digits (length ds) (digits_value_after 16 m ds) ≡ ds
hex_back [] m all lower = refl
hex_back (d ∷ ds) m all lower =
    let number : ℕ = digits_value_after 16 (m * 16 + digit_value d) ds in
    let split : number ≡ (m * 16 + digit_value d) * 16 ^ length ds + digits_value 16 ds = digits_value_after-split 16 (m * 16 + digit_value d) ds in
    let front : number / 16 ^ length ds ≡ m * 16 + digit_value d = ap (λ n. n / 16 ^ length ds) split ∙ div-mul-add (m * 16 + digit_value d) (16 ^ length ds) (digits_value 16 ds) (digits_value-lt 16 ds all.1) in
    let digit : number / 16 ^ length ds % 16 ≡ digit_value d = ap (λ n. n % 16) front ∙ last_digit m (digit_value d) all.0 in
    ap (λ c. c ∷ hex_digits (length ds) number) (ap digit_char digit ∙ digit_back d all.0 lower.0) ∙ ap (λ l. d ∷ l) (hex_back ds (m * 16 + digit_value d) all.1 lower.1)
  where
    last_digit : (m d : ℕ) → d < 16 → (m * 16 + d) % 16 ≡ d
    last_digit m d small = omega arith

-- ---- how many digits
-- there are two, or the first one counts
abbrev HasPlaces : ℕ → ℕ → Type 0
HasPlaces k c = (k ≡ 2) ⊎ (16 ^ (k - 1) ≤ c)

places_are : (k c : ℕ) → 2 ≤ k → k ≤ 8 → c < 16 ^ k → c < 0x100_0000 → HasPlaces k c → hex_places c ≡ k
places_are zero c two few below small full = absurd (omega arith)
places_are (suc zero) c two few below small full = absurd (omega arith)
places_are (suc (suc zero)) c two few below small full = grind (arith, nat_tests)
places_are (suc (suc (suc zero))) c two few below small full = elim full [ inl e ↦ absurd (omega arith) | inr low ↦ grind (arith, nat_tests) ]
places_are (suc (suc (suc (suc zero)))) c two few below small full = elim full [ inl e ↦ absurd (omega arith) | inr low ↦ grind (arith, nat_tests) ]
places_are (suc (suc (suc (suc (suc zero))))) c two few below small full = elim full [ inl e ↦ absurd (omega arith) | inr low ↦ grind (arith, nat_tests) ]
places_are (suc (suc (suc (suc (suc (suc zero)))))) c two few below small full = elim full [ inl e ↦ absurd (omega arith) | inr low ↦ grind (arith, nat_tests) ]
places_are (suc (suc (suc (suc (suc (suc (suc zero))))))) c two few below small full = elim full [ inl e ↦ absurd (omega arith) | inr low ↦ absurd (omega arith) ]
places_are (suc (suc (suc (suc (suc (suc (suc (suc zero)))))))) c two few below small full = elim full [ inl e ↦ absurd (omega arith) | inr low ↦ absurd (omega arith) ]
places_are (suc (suc (suc (suc (suc (suc (suc (suc (suc k))))))))) c two few below small full = absurd (omega arith)

zero_digit : (d : ℕ) → digit_value d < 16 → digit_value d ≡ 0 → d ≡ 48
zero_digit d small e = grind (arith, nat_tests)

first_counts : (d : ℕ) (ds : List ℕ) → AllDigits 16 (d ∷ ds) → d ≢ 48 → 16 ^ length ds ≤ digits_value 16 (d ∷ ds)
first_counts d ds all some =
    let positive : 1 ≤ digit_value d = from (digit_value d) refl in
    let scaled : 1 * 16 ^ length ds ≤ digit_value d * 16 ^ length ds = mul-le-mul_right (16 ^ length ds) positive in
    let split : digits_value 16 (d ∷ ds) ≡ digit_value d * 16 ^ length ds + digits_value 16 ds = ap (λ v. digits_value_after 16 v ds) (omega arith) ∙ digits_value_after-split 16 (digit_value d) ds in
    omega (arith, scaled, split)
  where
    from : (v : ℕ) → digit_value d ≡ v → 1 ≤ v
    from zero e = absurd (some (zero_digit d all.0 e))
    from (suc v) e = omega arith

has_places : (ds : List ℕ) → AllDigits 16 ds → IsCanonicalHex ds → HasPlaces (length ds) (digits_value 16 ds)
has_places [] all h = absurd (let two = h.two in omega arith)
has_places (d ∷ ds) all h = elim (eqb_tells d 48) [
  | inl same ↦ inl (let one = h.no_leading_zero ds (ap (λ b. b ∷ ds) same.1) in omega arith)
  | inr other ↦ inr (subst (λ k. 16 ^ k ≤ digits_value 16 (d ∷ ds)) (omega arith) (first_counts d ds all other.1))
]

pub one_hex : (digits : List ℕ) → IsEscape digits → IsCanonicalHex digits → hex (digits_value 16 digits) ≡ digits
unfolding hex
one_hex digits is h =
    let places : hex_places (digits_value 16 digits) ≡ length digits = places_are (length digits) (digits_value 16 digits) h.two is.few (digits_value-lt 16 digits is.hexadecimal) (scalar_small (digits_value 16 digits) is.character) (has_places digits is.hexadecimal h) in
    ap (λ k. hex_digits k (digits_value 16 digits)) places ∙ hex_back digits 0 is.hexadecimal h.lower

-- ---- the digits of a code point are canonical
char_lower : (v : ℕ) → v < 16 → IsLower (digit_char v)
char_lower v small = grind (arith, nat_tests)

all_lower : (k n : ℕ) → AllByRecursion IsLower (hex_digits k n)
all_lower zero n = tt
all_lower (suc k) n = (char_lower (n / 16 ^ k % 16) (omega arith), all_lower k n)

-- a first digit that is written as a zero is one
zero_first : (v : ℕ) → v < 16 → digit_char v ≡ 48 → v ≡ 0
zero_first v small e = sym (digit_value-digit_char v (omega arith)) ∙ ap digit_value e

-- more than two digits don't begin with a zero
no_zero : (c : ℕ) (b2 b3 b4 b5 : Bool) → ltb c 0x100 ≡ b2 → ltb c 0x1000 ≡ b3 → ltb c 0x1_0000 ≡ b4 → ltb c 0x10_0000 ≡ b5 → c < 0x100_0000
    → (rest : List ℕ) → hex_digits (cond b2 2 (cond b3 3 (cond b4 4 (cond b5 5 6)))) c ≡ 48 ∷ rest → length rest ≡ 1
no_zero c true b3 b4 b5 e2 e3 e4 e5 small rest e = omega (arith, ap (λ (ds : List ℕ). length ds) e)
no_zero c false true b4 b5 e2 e3 e4 e5 small rest e = absurd (let none = zero_first (c / 16 ^ 2 % 16) (omega arith) (cc) in let low = ltb-false c 0x100 e2 in let high = ltb-true c 0x1000 e3 in omega arith)
no_zero c false false true b5 e2 e3 e4 e5 small rest e = absurd (let none = zero_first (c / 16 ^ 3 % 16) (omega arith) (cc) in let low = ltb-false c 0x1000 e3 in let high = ltb-true c 0x1_0000 e4 in omega arith)
no_zero c false false false true e2 e3 e4 e5 small rest e = absurd (let none = zero_first (c / 16 ^ 4 % 16) (omega arith) (cc) in let low = ltb-false c 0x1_0000 e4 in let high = ltb-true c 0x10_0000 e5 in omega arith)
no_zero c false false false false e2 e3 e4 e5 small rest e = absurd (let none = zero_first (c / 16 ^ 5 % 16) (omega arith) (cc) in let low = ltb-false c 0x10_0000 e5 in omega arith)

pub hex_canonical : (c : ℕ) → IsScalar c → IsCanonicalHex (hex c)
unfolding hex
hex_canonical c is =
    let places = few (ltb c 0x100) (ltb c 0x1000) (ltb c 0x1_0000) (ltb c 0x10_0000) in
    let long : length (hex c) ≡ hex_places c = length_digits (hex_places c) c in
    record {
      lower = all_lower (hex_places c) c;
      two = omega (arith, long, places);
      no_leading_zero = no_zero c (ltb c 0x100) (ltb c 0x1000) (ltb c 0x1_0000) (ltb c 0x10_0000) refl refl refl refl (scalar_small c is);
    }
