-- The canonical text of a whole number is the one text of this number without needless bytes.
use Rattle.std.proofs.Common.{◌≡◌, ℕ, suc, ◌^◌, ◌<◌, List, ◌++◌, true, false, ℤ, pos, negsuc, neg_ℤ, unsigned_abs, FitsSigned, refl, ◌∙◌, ap, arith}
use Rattle.std.specs.Fmt.{decimal, signed_decimal}
use Rattle.std.specs.Int.{w64}
use Rattle.std.specs.Str.Parse.{digits_value}
use Rattle.std.proofs.lemmas.Fmt.{decimal_is_IsNumeral}
use Rattle.std.proofs.lemmas.Int.{ints}
use Rattle.osm_model.specs.CanonicalDegrees.{is_negative}
use Rattle.osm_model.specs.Degrees.{sign}
use Rattle.osm_model.proofs.shared.OneNumeral.{decimal_digits, decimal_plain, one_numeral, sign_is, size_is}
use Rattle.opl_codec.specs.Canonical.{IsCanonicalNumber, IsCanonicalVersion}
use Rattle.opl_codec.proofs.shared.CanonicalValues.{version_spells}

-- ---- versions
pub one_version_text : (text : List ℕ) (version : ℕ) → IsCanonicalVersion text version → text ≡ decimal version
one_version_text text version h = let small = h.spelled.2 in one_numeral text version (omega arith) h.spelled.0 h.no_leading_zero h.spelled.1

pub version_canonical : (version : ℕ) → version < 2 ^ 32 → IsCanonicalVersion (decimal version) version
version_canonical version small = record { spelled = version_spells version small; no_leading_zero = decimal_plain version (omega arith) }

-- ---- whole numbers
size_small : (z : ℤ) → FitsSigned w64 z → unsigned_abs z < 2 ^ 64
size_small (pos n) fits = omega (arith, ints)
size_small (negsuc n) fits = omega (arith, ints)

signed_text : (z : ℤ) → sign (is_negative z) ++ decimal (unsigned_abs z) ≡ signed_decimal z
signed_text (pos n) = refl
signed_text (negsuc n) = refl

pub one_number_text : (text : List ℕ) (z : ℤ) → IsCanonicalNumber text z → text ≡ signed_decimal z
one_number_text text z h =
    let i = h.spelled.0 in
    let size = size_is i.negative (digits_value 10 i.digits) z i.value_is in
    let minus = sign_is i.negative (digits_value 10 i.digits) z i.value_is h.no_minus_zero in
    let digits = one_numeral i.digits (unsigned_abs z) (size_small z h.spelled.1) i.digits_are h.no_leading_zero size in
    i.text_is ∙ (ap (λ b. sign b ++ i.digits) minus ∙ (ap (λ ds. sign (is_negative z) ++ ds) digits ∙ signed_text z))

pub number_canonical : (z : ℤ) → FitsSigned w64 z → IsCanonicalNumber (signed_decimal z) z
number_canonical (pos n) fits =
    let small : n < 2 ^ 64 = omega (arith, ints) in
    record {
      spelled = (record { negative = false; digits = decimal n; text_is = refl; digits_are = decimal_digits n small; value_is = ap (λ m. pos m) (decimal_is_IsNumeral n small).1 }, fits);
      no_leading_zero = decimal_plain n small;
      no_minus_zero = λ e. refl;
    }
number_canonical (negsuc n) fits =
    let small : suc n < 2 ^ 64 = omega (arith, ints) in
    record {
      spelled = (record { negative = true; digits = decimal (suc n); text_is = refl; digits_are = decimal_digits (suc n) small; value_is = ap (λ m. neg_ℤ (pos m)) (decimal_is_IsNumeral (suc n) small).1 }, fits);
      no_leading_zero = decimal_plain (suc n) small;
      no_minus_zero = λ e. absurd (let f : negsuc n ≡ pos 0 = e in cc);
    }
