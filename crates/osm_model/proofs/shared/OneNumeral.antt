-- Digits without needless zeros are the decimal text of their number; a sign that isn't needless is
-- that of the number.
use Rattle.std.proofs.Common.{◌≡◌, ◌≢◌, ℕ, zero, suc, ◌+◌, ◌*◌, ◌^◌, ◌<◌, List, [], ◌∷◌, length, get_or, Bool, true, false, ℤ, pos, unsigned_abs, refl, sym, ◌∙◌, ap, arith}
use Rattle.std.specs.Char.{digit_value}
use Rattle.std.specs.Fmt.{decimal}
use Rattle.std.specs.Str.Parse.{AllDigits, digits_value, digits_value_after}
use Rattle.std.proofs.Math.Nat.{mul_assoc, pow-succ', pow-zero}
use Rattle.std.proofs.lemmas.Fmt.{decimal_digit, decimal_is_IsNumeral, decimal-digits_value, first_decimal}
use Rattle.std.proofs.lemmas.Str.Parse.{IsNumeralModel}
use Rattle.osm_model.specs.Canonical.{HasNoLeadingZero}
use Rattle.osm_model.specs.CanonicalDegrees.{is_negative}
use Rattle.osm_model.specs.Degrees.{IsDigits, with_sign}
use Rattle.osm_model.proofs.DecimalValues.{size_with_sign}

own : IsNumeralModel (AllDigits 10) (digits_value 10)
own = record { to = λ ds all. all; from = λ ds all. all; same = λ ds all. refl }

some_len : (digits : List ℕ) → digits ≢ [] → 0 < length digits
some_len [] some = absurd (some refl)
some_len (d ∷ digits) some = omega arith

lone_zero : (digits : List ℕ) → HasNoLeadingZero digits → get_or digits 0 0 ≡ 48 → length digits ≡ 1
lone_zero [] plain is = absurd (omega (arith, is))
lone_zero (d ∷ digits) plain is = ap (λ (rest : List ℕ). suc (length rest)) (plain digits (ap (λ b. b ∷ digits) is))

-- digits without a needless zero are the decimal text of their number
pub one_numeral : (digits : List ℕ) (n : ℕ) → n < 2 ^ 64 → IsDigits digits → HasNoLeadingZero digits → digits_value 10 digits ≡ n → digits ≡ decimal n
one_numeral digits n small are plain value =
    let fits : digits_value 10 digits < 2 ^ 64 = omega (arith, value) in
    sym (decimal-digits_value own digits are.1 (some_len digits are.0) (lone_zero digits plain) fits) ∙ ap decimal value

only_digit : (rest : List ℕ) → decimal 0 ≡ 48 ∷ rest → rest ≡ []
only_digit rest e = let one : decimal 0 ≡ 48 ∷ [] = decimal_digit 0 (omega arith) in let both : 48 ∷ rest ≡ 48 ∷ [] = sym e ∙ one in cc

-- the decimal text of a number has none
pub decimal_plain : (n : ℕ) → n < 2 ^ 64 → HasNoLeadingZero (decimal n)
decimal_plain zero small rest e = only_digit rest e
decimal_plain (suc n) small rest e = absurd (let first : 48 < get_or (decimal (suc n)) 0 0 = first_decimal (suc n) (omega arith) small in omega (arith, first, ap (λ (ds : List ℕ). get_or ds 0 0) e))

pub decimal_digits : (n : ℕ) → n < 2 ^ 64 → IsDigits (decimal n)
decimal_digits n small = let numeral = decimal_is_IsNumeral n small in ((λ none. let long = numeral.0.0 in omega (arith, long, ap (λ (ds : List ℕ). length ds) none)), numeral.0.1)

-- ---- digits after others
after_more : (radix m n : ℕ) (ds : List ℕ) → digits_value_after radix (m + n) ds ≡ m * radix ^ length ds + digits_value_after radix n ds
after_more radix m n [] = let one : m * radix ^ 0 + n ≡ m * 1 + n = ap (λ p. m * p + n) (pow-zero radix) in omega (arith, one)
after_more radix m n (d ∷ ds) =
    let regrouped : (m + n) * radix + digit_value d ≡ m * radix + (n * radix + digit_value d) = omega arith in
    let up : m * radix ^ suc (length ds) ≡ m * radix * radix ^ length ds = ap (λ p. m * p) (pow-succ' radix (length ds)) ∙ sym (mul_assoc m radix (radix ^ length ds)) in
    ap (λ v. digits_value_after radix v ds) regrouped ∙ (after_more radix (m * radix) (n * radix + digit_value d) ds ∙ ap (λ v. v + digits_value_after radix (n * radix + digit_value d) ds) (sym up))

pub digits_value_after-split : (radix m : ℕ) (ds : List ℕ) → digits_value_after radix m ds ≡ m * radix ^ length ds + digits_value radix ds
digits_value_after-split radix m ds = ap (λ v. digits_value_after radix v ds) (omega arith) ∙ after_more radix m 0 ds

-- ---- signs
pub size_is : (negative : Bool) (n : ℕ) (z : ℤ) → with_sign negative n ≡ z → n ≡ unsigned_abs z
size_is negative n z e = sym (size_with_sign negative n) ∙ ap unsigned_abs e

pub sign_is : (negative : Bool) (n : ℕ) (z : ℤ) → with_sign negative n ≡ z → (z ≡ pos 0 → negative ≡ false) → negative ≡ is_negative z
sign_is false n z e plain = ap is_negative e
sign_is true zero z e plain = absurd (let f : true ≡ false = plain (sym e) in cc)
sign_is true (suc n) z e plain = ap is_negative e
