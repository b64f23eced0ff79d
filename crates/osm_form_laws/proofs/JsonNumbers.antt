-- The numbers of objects are numbers of JSON.
use Rattle.std.proofs.Common.{◌≡◌, ◌≢◌, ℕ, zero, suc, ◌-◌, ◌*◌, ◌^◌, ◌<◌, ◌≤◌, List, [], ◌∷◌, ◌++◌, length, get_or, Bool, true, false, ℤ, pos, negsuc, unsigned_abs, FitsSigned, Option, Some, None, refl, sym, ap, ◌∙◌, subst, arith, append-nil}
use Rattle.std.specs.Fmt.{decimal, signed_decimal, sign_text}
use Rattle.std.specs.Int.{w64}
use Rattle.std.specs.Str.Parse.{digits_value}
use Rattle.std.proofs.lemmas.Fmt.{decimal_digit}
use Rattle.std.proofs.lemmas.Int.{ints}
use Rattle.std.specs.Float.Numeral.{Parts, text_of}
use Rattle.json.specs.Print.{IsNumber}
use Rattle.json.specs.Word.{after_number}
use Rattle.json.proofs.Printed.Decimals.{IsNumber-decimal, IsNumber-signed_decimal}
use Rattle.json.proofs.Printed.Floats.{IsNumber-plain}
use Rattle.osm_model.specs.Canonical.{HasNoLeadingZero}
use Rattle.osm_model.specs.CanonicalDegrees.{degrees}
use Rattle.osm_model.specs.Degrees.{Decimal, IsDigits, IsFraction, decimals, point, sign, units, value}
use Rattle.osm_model.proofs.shared.OneDegrees.{degrees_canonical}
use Rattle.osm_model.proofs.shared.OneNumeral.{one_numeral, size_is}

pub signed_number : (z : ℤ) → FitsSigned w64 z → IsNumber (signed_decimal z)
signed_number (pos n) fits = IsNumber-signed_decimal (pos n) (omega (arith, ints))
signed_number (negsuc n) fits = IsNumber-signed_decimal (negsuc n) (omega (arith, ints))

negative_number : (n : ℕ) → n < 2 ^ 63 → IsNumber (45 ∷ decimal n)
unfolding after_number
negative_number zero small = let one : decimal 0 ≡ 48 ∷ [] = decimal_digit 0 (omega arith) in subst (λ ds. IsNumber (45 ∷ ds)) (sym one) refl
negative_number (suc n) small = IsNumber-signed_decimal (negsuc n) (omega arith)

whole_number : (negative : Bool) (n : ℕ) → n < 2 ^ 63 → IsNumber (sign negative ++ decimal n)
whole_number true n small = negative_number n small
whole_number false n small = IsNumber-decimal n (omega arith)

some_len : (digits : List ℕ) → digits ≢ [] → 0 < length digits
some_len [] some = absurd (some refl)
some_len (d ∷ digits) some = omega arith

lone_zero : (digits : List ℕ) → HasNoLeadingZero digits → get_or digits 0 0 ≡ 48 → length digits ≡ 1
lone_zero [] plain is = absurd (omega (arith, is))
lone_zero (d ∷ digits) plain is = ap (λ (rest : List ℕ). suc (length rest)) (plain digits (ap (λ b. b ∷ digits) is))

same_sign : (negative : Bool) → sign negative ≡ sign_text negative
same_sign true = refl
same_sign false = refl

abbrev fraction_parts : List ℕ → List ℕ → Parts
fraction_parts whole digits = record { whole = whole; point = true; fraction = digits; exponent_negative = false; exponent = []; len = length (whole ++ ((46 ∷ digits) ++ [])) }

fraction_text : (negative : Bool) (whole digits : List ℕ) → sign negative ++ (whole ++ 46 ∷ digits) ≡ sign_text negative ++ text_of (fraction_parts whole digits)
fraction_text negative whole digits =
    ap (λ front. front ++ (whole ++ 46 ∷ digits)) (same_sign negative) ∙ ap (λ rest. sign_text negative ++ (whole ++ rest)) (sym (append-nil (46 ∷ digits)))

fraction_number : (negative : Bool) (whole digits : List ℕ) → IsDigits whole → HasNoLeadingZero whole → IsDigits digits → IsNumber (sign negative ++ (whole ++ 46 ∷ digits))
fraction_number negative whole digits are plain more =
    IsNumber-plain _ (
      negative,
      fraction_parts whole digits,
      fraction_text negative whole digits,
      record {
        well_formed = record {
          whole_digits = are.1;
          fraction_digits = more.1;
          exponent_digits = tt;
          no_point = λ e. absurd (let f : true ≡ false = e in cc);
          no_exponent = λ e. refl;
          len_is = refl;
        };
        whole = some_len whole are.0;
        no_leading_zero = lone_zero whole plain;
        fraction = λ e. some_len digits more.0;
        marked = λ e. absurd (let f : true ≡ false = e in cc);
      },
    )

decimal_number : (negative : Bool) (whole : List ℕ) (fraction : Option (List ℕ)) → IsDigits whole → HasNoLeadingZero whole → IsFraction fraction → (fraction ≡ None → digits_value 10 whole < 2 ^ 63)
    → IsNumber (sign negative ++ (whole ++ point fraction))
decimal_number negative whole None are plain more small =
    let fits = small refl in
    let text = one_numeral whole (digits_value 10 whole) (omega (arith, fits)) are plain refl in
    subst (λ ds. IsNumber (sign negative ++ ds)) (sym text ∙ sym (append-nil whole)) (whole_number negative (digits_value 10 whole) fits)
decimal_number negative whole (Some digits) are plain more small = fraction_number negative whole digits are plain more

-- degrees without a fraction are few
whole_small : (d : Decimal) (z : ℤ) → unsigned_abs z ≤ 1800000000 → value d ≡ z → d.fraction ≡ None → digits_value 10 d.whole < 2 ^ 63
whole_small d z within is none =
    let size : units d ≡ unsigned_abs z = size_is d.negative (units d) z is in
    let plain : units d ≡ digits_value 10 d.whole * 10000000 = ap (λ f. digits_value 10 (d.whole ++ decimals f) * 10 ^ (7 - length (decimals f))) none ∙ ap (λ ds. digits_value 10 ds * 10000000) (append-nil d.whole) in
    omega (arith, size, plain, within)

pub degrees_number : (z : ℤ) → unsigned_abs z ≤ 1800000000 → IsNumber (degrees z)
degrees_number z within =
    let h = degrees_canonical z within in
    let d = h.spelled.parts in
    subst IsNumber (sym h.spelled.spells.text_is)
    (decimal_number d.negative d.whole d.fraction h.spelled.spells.decimal.whole h.whole h.spelled.spells.decimal.fraction
    (whole_small d z within h.spelled.value_is))
