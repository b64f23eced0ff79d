-- The canonical text of degrees is the one text of its value without needless bytes.
use Rattle.std.proofs.Common.{◌≡◌, ℕ, ◌+◌, ◌-◌, ◌*◌, ◌/◌, ◌%◌, ◌^◌, ◌<◌, ◌≤◌, List, [], ◌∷◌, ◌++◌, length, false, ℤ, pos, unsigned_abs, Option, Some, None, refl, sym, ◌∙◌, ap, subst, arith}
use Rattle.std.specs.Fmt.{decimal}
use Rattle.std.specs.Str.Parse.{AllDigits, digits_value}
use Rattle.std.proofs.lemmas.Nat.{div-mul-add, mod-mul-add, pow-add}
use Rattle.osm_model.specs.Canonical.{HasNoLeadingZero, HasNoTrailingZero, IsCanonicalDegrees}
use Rattle.osm_model.specs.CanonicalDegrees.{degrees, decimals_of, is_negative, with_point}
use Rattle.osm_model.specs.Degrees.{Decimal, IsDegrees, IsDigits, IsFraction, Spells, decimals, point, sign, units}
use Rattle.osm_model.proofs.Decimals.{are_digits}
use Rattle.osm_model.proofs.OneFraction.{decimals_plain, filled, one_fraction}
use Rattle.osm_model.proofs.shared.Digits.{after_append}
use Rattle.osm_model.proofs.shared.OneDecimal.{one_decimal}
use Rattle.osm_model.proofs.shared.OneNumeral.{decimal_digits, decimal_plain, digits_value_after-split, one_numeral, sign_is, size_is}
use Rattle.osm_model.proofs.shared.ReadBack.{reads_back}

-- ---- the text of a value
-- a fraction of these digits, where there are any
fraction_of : List ℕ → Option (List ℕ)
fraction_of [] = None
fraction_of (d ∷ ds) = Some (d ∷ ds)

-- the parts of the canonical text
parts_of : ℤ → Decimal
parts_of z = record { negative = is_negative z; whole = decimal (unsigned_abs z / 10000000); fraction = fraction_of (decimals_of 7 (unsigned_abs z % 10000000)) }

point_of : (ds : List ℕ) → with_point ds ≡ point (fraction_of ds)
unfolding fraction_of
point_of [] = refl
point_of (d ∷ ds) = refl

decimals_back : (ds : List ℕ) → decimals (fraction_of ds) ≡ ds
unfolding fraction_of
decimals_back [] = refl
decimals_back (d ∷ ds) = refl

fraction_digits : (ds : List ℕ) → AllDigits 10 ds → IsFraction (fraction_of ds)
unfolding fraction_of
fraction_digits [] all = tt
fraction_digits (d ∷ ds) all = ((λ none. let clash : d ∷ ds ≡ [] = none in cc), all)

module _ (z : ℤ) (within : unsigned_abs z ≤ 1800000000) where
  rest_below : unsigned_abs z % 10000000 < 10 ^ 7
  rest_below = omega arith

  spells : Spells (degrees z) (parts_of z)
  unfolding degrees parts_of
  spells = record {
    decimal = record { whole = decimal_digits (unsigned_abs z / 10000000) (omega arith); fraction = fraction_digits (decimals_of 7 (unsigned_abs z % 10000000)) (are_digits 7 (unsigned_abs z % 10000000) rest_below) };
    text_is = ap (λ p. sign (is_negative z) ++ (decimal (unsigned_abs z / 10000000) ++ p)) (point_of (decimals_of 7 (unsigned_abs z % 10000000)));
  }

  same_parts : (h : IsDegrees (degrees z) z) → parts_of z ≡ h.parts
  same_parts h = one_decimal (degrees z) (parts_of z) h.parts spells h.spells

  whole_plain : HasNoLeadingZero (parts_of z).whole
  unfolding parts_of
  whole_plain = decimal_plain (unsigned_abs z / 10000000) (omega arith)

  fraction_plain : HasNoTrailingZero (decimals (parts_of z).fraction)
  unfolding parts_of
  fraction_plain = subst HasNoTrailingZero (sym (decimals_back (decimals_of 7 (unsigned_abs z % 10000000)))) (decimals_plain 7 (unsigned_abs z % 10000000) rest_below)

  no_minus_zero : z ≡ pos 0 → (parts_of z).negative ≡ false
  unfolding parts_of
  no_minus_zero e = ap is_negative e

  pub degrees_canonical : IsCanonicalDegrees (degrees z) z
  degrees_canonical =
      let h = reads_back z within in
      let same = same_parts h in
      record {
        spelled = h;
        whole = subst (λ (d : Decimal). HasNoLeadingZero d.whole) same whole_plain;
        fraction = subst (λ (d : Decimal). HasNoTrailingZero (decimals d.fraction)) same fraction_plain;
        no_minus_zero = λ e. subst (λ (d : Decimal). d.negative ≡ false) same (no_minus_zero e);
      }

-- ---- the one text of a value
fraction_all : (f : Option (List ℕ)) → IsFraction f → AllDigits 10 (decimals f)
fraction_all None h = tt
fraction_all (Some digits) h = h.1

point_is : (f : Option (List ℕ)) → IsFraction f → point f ≡ with_point (decimals f)
point_is None h = refl
point_is (Some []) h = absurd (h.0 refl)
point_is (Some (d ∷ ds)) h = refl

-- a whole part and decimals that say u units
module _ (whole ds : List ℕ) (u : ℕ) (within : u ≤ 1800000000) (whole_is : IsDigits whole) (all : AllDigits 10 ds) (few : length ds ≤ 7) (value : digits_value 10 (whole ++ ds) * 10 ^ (7 - length ds) ≡ u) where
  below : digits_value 10 ds * 10 ^ (7 - length ds) < 10 ^ 7
  below = filled 7 ds all few

  split : u ≡ digits_value 10 whole * 10 ^ 7 + digits_value 10 ds * 10 ^ (7 - length ds)
  split =
      let places : 7 ≡ length ds + (7 - length ds) = omega arith in
      let power : 10 ^ 7 ≡ 10 ^ length ds * 10 ^ (7 - length ds) = ap (λ (e : ℕ). 10 ^ e) places ∙ pow-add 10 (length ds) (7 - length ds) in
      let apart : digits_value 10 (whole ++ ds) ≡ digits_value 10 whole * 10 ^ length ds + digits_value 10 ds = after_append 0 whole ds ∙ digits_value_after-split 10 (digits_value 10 whole) ds in
      regrouped (digits_value 10 whole) (digits_value 10 ds) (10 ^ length ds) (10 ^ (7 - length ds)) (10 ^ 7) power (sym value ∙ ap (λ v. v * 10 ^ (7 - length ds)) apart)
    where
      regrouped : (w v p q r : ℕ) → r ≡ p * q → u ≡ (w * p + v) * q → u ≡ w * r + v * q
      regrouped w v p q r power e = rw (e, power) (omega arith)

  whole_part : u / 10000000 ≡ digits_value 10 whole
  whole_part = ap (λ n. n / 10000000) split ∙ div-mul-add (digits_value 10 whole) 10000000 (digits_value 10 ds * 10 ^ (7 - length ds)) below

  rest_part : u % 10000000 ≡ digits_value 10 ds * 10 ^ (7 - length ds)
  rest_part = ap (λ n. n % 10000000) split ∙ mod-mul-add (digits_value 10 whole) 10000000 (digits_value 10 ds * 10 ^ (7 - length ds)) below

  one_whole : HasNoLeadingZero whole → whole ≡ decimal (u / 10000000)
  one_whole plain = one_numeral whole (u / 10000000) (omega arith) whole_is plain (sym whole_part)

  one_rest : HasNoTrailingZero ds → ds ≡ decimals_of 7 (u % 10000000)
  one_rest plain = one_fraction 7 ds (u % 10000000) all few plain (sym rest_part)

pub one_degrees : (text : List ℕ) (z : ℤ) → unsigned_abs z ≤ 1800000000 → IsCanonicalDegrees text z → text ≡ degrees z
unfolding degrees
one_degrees text z within h =
    let d = h.spelled.parts in
    let is = h.spelled.spells.decimal in
    let all = fraction_all d.fraction is.fraction in
    let size : units d ≡ unsigned_abs z = size_is d.negative (units d) z h.spelled.value_is in
    let minus : d.negative ≡ is_negative z = sign_is d.negative (units d) z h.spelled.value_is h.no_minus_zero in
    let whole = one_whole d.whole (decimals d.fraction) (unsigned_abs z) within is.whole all h.spelled.fine size h.whole in
    let rest = one_rest d.whole (decimals d.fraction) (unsigned_abs z) within is.whole all h.spelled.fine size h.fraction in
    h.spelled.spells.text_is
    ∙ (ap (λ b. sign b ++ (d.whole ++ point d.fraction)) minus
    ∙ (ap (λ w. sign (is_negative z) ++ (w ++ point d.fraction)) whole
    ∙ ap (λ p. sign (is_negative z) ++ (decimal (unsigned_abs z / 10000000) ++ p)) (point_is d.fraction is.fraction ∙ ap with_point rest)))
