-- The canonical text of degrees reads back as their value.
use Rattle.std.proofs.Common.{◌≡◌, ℕ, ◌+◌, ◌-◌, ◌*◌, ◌/◌, ◌%◌, ◌^◌, ◌<◌, ◌≤◌, List, [], ◌∷◌, ◌++◌, length, Bool, ℤ, pos, negsuc, unsigned_abs, Some, None, refl, ◌∙◌, ap, arith, append-nil}
use Rattle.std.specs.Str.Parse.{AllDigits, digits_value, digits_value_after}
use Rattle.std.specs.Fmt.{decimal}
use Rattle.std.proofs.lemmas.Fmt.{decimal_is_IsNumeral}
use Rattle.osm_model.specs.Degrees.{IsDegrees, sign, with_sign}
use Rattle.osm_model.specs.CanonicalDegrees.{degrees, decimals_of, with_point, is_negative}
use Rattle.osm_model.proofs.shared.Digits.{after_append}
use Rattle.osm_model.proofs.Decimals.{says, short, are_digits}
use Rattle.osm_model.proofs.shared.OneNumeral.{decimal_digits}

-- a whole number and decimals spell the value that they say
spelled : (negative : Bool) (w n : ℕ) (ds : List ℕ) (z : ℤ) → w < 2 ^ 64 → AllDigits 10 ds → length ds ≤ 7
    → digits_value_after 10 w ds * 10 ^ (7 - length ds) ≡ n → with_sign negative n ≡ z → IsDegrees (sign negative ++ (decimal w ++ with_point ds)) z
spelled negative w n [] z fits digits few value is =
    let whole = decimal_is_IsNumeral w fits in
    let all : digits_value 10 (decimal w ++ []) ≡ w = ap (digits_value 10) (append-nil (decimal w)) ∙ whole.1 in
    record {
      parts = record { negative = negative; whole = decimal w; fraction = None };
      spells = record { decimal = record { whole = decimal_digits w fits; fraction = tt }; text_is = refl };
      fine = few;
      value_is = ap (λ m. with_sign negative (m * 10 ^ 7)) all ∙ ap (with_sign negative) value ∙ is;
    }
spelled negative w n (d ∷ ds) z fits digits few value is =
    let whole = decimal_is_IsNumeral w fits in
    let all : digits_value 10 (decimal w ++ d ∷ ds) ≡ digits_value_after 10 w (d ∷ ds) =
    after_append 0 (decimal w) (d ∷ ds) ∙ ap (λ m. digits_value_after 10 m (d ∷ ds)) whole.1 in
    record {
      parts = record { negative = negative; whole = decimal w; fraction = Some (d ∷ ds) };
      spells = record { decimal = record { whole = decimal_digits w fits; fraction = ((λ none. let clash : d ∷ ds ≡ [] = none in cc), digits) }; text_is = refl };
      fine = few;
      value_is = ap (λ m. with_sign negative (m * 10 ^ (7 - length (d ∷ ds)))) all ∙ ap (with_sign negative) value ∙ is;
    }

signed : (z : ℤ) → with_sign (is_negative z) (unsigned_abs z) ≡ z
signed (pos n) = refl
signed (negsuc n) = refl

pub reads_back : (z : ℤ) → unsigned_abs z ≤ 1800000000 → IsDegrees (degrees z) z
unfolding degrees
reads_back z small =
    let below : unsigned_abs z % 10000000 < 10 ^ 7 = omega arith in
    let parts : unsigned_abs z / 10000000 * 10 ^ 7 + unsigned_abs z % 10000000 ≡ unsigned_abs z = omega arith in
    spelled (is_negative z) (unsigned_abs z / 10000000) (unsigned_abs z) (decimals_of 7 (unsigned_abs z % 10000000)) z (omega arith)
    (are_digits 7 (unsigned_abs z % 10000000) below) (short 7 (unsigned_abs z % 10000000))
    (says 7 (unsigned_abs z % 10000000) (unsigned_abs z / 10000000) below ∙ parts) (signed z)
