-- Numbers, moments and degrees in their canonical spelling: each spells its value, and has only graphic bytes.
use Rattle.std.proofs.Common.{◌≡◌, ℕ, ◌+◌, ◌/◌, ◌%◌, ◌^◌, ◌<◌, ◌≤◌, List, [], ◌∷◌, ◌++◌, Bool, true, false, ◌==◌, ℤ, unsigned_abs, FitsSigned, Option, Some, None, MatchOption, refl, subst, sym, arith}
use Rattle.std.specs.Bool.{⊤}
use Rattle.std.specs.Int.{w64}
use Rattle.std.specs.Char.{digit_value}
use Rattle.std.specs.Fmt.{decimal, signed_decimal}
use Rattle.std.specs.List.{AllByRecursion}
use Rattle.std.specs.Str.Parse.{AllDigits}
use Rattle.std.proofs.lemmas.Bool.Decides.{nat_tests}
use Rattle.std.proofs.lemmas.Fmt.{decimal_is_IsNumeral}
use Rattle.std.proofs.lemmas.Str.Parse.{digit_from_value}
use Rattle.osm_model.specs.Bytes.{at_sign, colon, comma, digit_zero, exclamation_mark, hyphen, tilde}
use Rattle.osm_model.specs.CanonicalDegrees.{degrees}
use Rattle.osm_model.specs.CanonicalLine.{moment, two_digits, four_digits}
use Rattle.osm_model.specs.Degrees.{IsDegrees, IsFraction, sign, point}
use Rattle.osm_model.specs.Letters.{time_mark, zone_mark}
use Rattle.osm_model.specs.Moments.{Moment, IsMoment}
use Rattle.osm_model.proofs.shared.OneNumeral.{decimal_digits}
use Rattle.osm_model.proofs.shared.ReadBack.{reads_back}
use Rattle.byte_io.specs.Pieces.{Lacks}
use Rattle.opl_codec.specs.Fields.{IsInteger}
use Rattle.opl_codec.specs.Values.{SpellsVersion, SpellsNumber, SpellsStamp, SpellsCoordinate}
use Rattle.opl_codec.proofs.TextNumbers.{signed_decimal_spells}
use Rattle.osm_model.proofs.shared.Each.{all_append, all_weaker}

-- from `!` to `~`: no blank, no line end, nothing outside ASCII
abbrev pub IsGraphic : ℕ → Type 0
IsGraphic byte = (exclamation_mark ≤ byte) × (byte ≤ tilde)

-- from `-` to `9`: a minus, a point and the digits are such bytes, a comma and `@` aren't
abbrev pub IsNumeric : ℕ → Type 0
IsNumeric byte = (hyphen ≤ byte) × (byte ≤ digit_zero + 9)

numeric_graphic : (byte : ℕ) → IsNumeric byte → IsGraphic byte
numeric_graphic byte h = (omega (arith, h.0), omega (arith, h.1))

pub are_graphic : (text : List ℕ) → AllByRecursion IsNumeric text → AllByRecursion IsGraphic text
are_graphic text all = all_weaker IsNumeric IsGraphic text numeric_graphic all

not_comma : (byte : ℕ) → IsNumeric byte → (byte == comma) ≡ false
not_comma byte h = let low = h.0 in grind (arith, nat_tests)

pub numeric_lacks_comma : (text : List ℕ) → AllByRecursion IsNumeric text → Lacks comma text
numeric_lacks_comma text all = all_weaker IsNumeric (λ byte. (byte == comma) ≡ false) text not_comma all

not_at : (byte : ℕ) → IsNumeric byte → (byte == at_sign) ≡ false
not_at byte h = let high = h.1 in grind (arith, nat_tests)

pub numeric_lacks_at : (text : List ℕ) → AllByRecursion IsNumeric text → Lacks at_sign text
numeric_lacks_at text all = all_weaker IsNumeric (λ byte. (byte == at_sign) ≡ false) text not_at all

-- ---- bytes of numbers

digit_numeric : (byte : ℕ) → digit_value byte < 10 → IsNumeric byte
digit_numeric byte h = let range = digit_from_value byte h in (omega arith, omega arith)

digits_numeric : (digits : List ℕ) → AllDigits 10 digits → AllByRecursion IsNumeric digits
digits_numeric [] all = tt
digits_numeric (d ∷ digits) all = (digit_numeric d all.0, digits_numeric digits all.1)

sign_numeric : (negative : Bool) → AllByRecursion IsNumeric (sign negative)
sign_numeric true = ((omega arith, omega arith), tt)
sign_numeric false = tt

point_numeric : (fraction : Option (List ℕ)) → IsFraction fraction → AllByRecursion IsNumeric (point fraction)
point_numeric None h = tt
point_numeric (Some digits) h = ((omega arith, omega arith), digits_numeric digits h.1)

pub integer_numeric : (text : List ℕ) (z : ℤ) → IsInteger text z → AllByRecursion IsNumeric text
integer_numeric text z h = subst (AllByRecursion IsNumeric) (sym h.text_is) (all_append IsNumeric (sign h.negative) h.digits (sign_numeric h.negative) (digits_numeric h.digits h.digits_are.1))

pub degrees_numeric : (text : List ℕ) (z : ℤ) → IsDegrees text z → AllByRecursion IsNumeric text
degrees_numeric text z h =
    let d = h.parts in
    let after = all_append IsNumeric d.whole (point d.fraction) (digits_numeric d.whole h.spells.decimal.whole.1) (point_numeric d.fraction h.spells.decimal.fraction) in
    subst (AllByRecursion IsNumeric) (sym h.spells.text_is) (all_append IsNumeric (sign d.negative) (d.whole ++ point d.fraction) (sign_numeric d.negative) after)

-- ---- whole numbers

pub version_spells : (n : ℕ) → n < 2 ^ 32 → SpellsVersion (decimal n) n
version_spells n fits = let small : n < 2 ^ 64 = omega arith in (decimal_digits n small, (decimal_is_IsNumeral n small).1, fits)

pub version_numeric : (n : ℕ) → n < 2 ^ 32 → AllByRecursion IsNumeric (decimal n)
version_numeric n fits = let small : n < 2 ^ 64 = omega arith in digits_numeric (decimal n) (decimal_digits n small).1

pub number_spells : (z : ℤ) → FitsSigned w64 z → SpellsNumber (signed_decimal z) z
number_spells z fits = (signed_decimal_spells z fits, fits)

pub number_numeric : (z : ℤ) → FitsSigned w64 z → AllByRecursion IsNumeric (signed_decimal z)
number_numeric z fits = integer_numeric (signed_decimal z) z (signed_decimal_spells z fits)

-- ---- degrees

pub coordinate_spells : (z : ℤ) → unsigned_abs z ≤ 1800000000 → SpellsCoordinate (degrees z) (Some z)
coordinate_spells z within = reads_back z within

pub coordinate_numeric : (z : ℤ) → unsigned_abs z ≤ 1800000000 → AllByRecursion IsNumeric (degrees z)
coordinate_numeric z within = degrees_numeric (degrees z) z (reads_back z within)

-- ---- moments

pub stamp_spells : (stamp : Option Moment) → MatchOption stamp ⊤ (λ m. IsMoment m) → SpellsStamp (moment stamp) stamp
stamp_spells stamp is = (refl, is)

two_graphic : (n : ℕ) → n < 100 → AllByRecursion IsGraphic (two_digits n)
two_graphic n small = ((omega arith, omega arith), ((omega arith, omega arith), tt))

four_graphic : (n : ℕ) → n < 10000 → AllByRecursion IsGraphic (four_digits n)
four_graphic n small = all_append IsGraphic (two_digits (n / 100)) (two_digits (n % 100)) (two_graphic (n / 100) (omega arith)) (two_graphic (n % 100) (omega arith))

-- two digits after a mark, and before more
abbrev marked : ℕ → ℕ → List ℕ → List ℕ
marked mark n rest = (mark ∷ two_digits n) ++ rest

marked_graphic : (mark n : ℕ) (rest : List ℕ) → IsGraphic mark → n < 100 → AllByRecursion IsGraphic rest → AllByRecursion IsGraphic (marked mark n rest)
marked_graphic mark n rest is small after = (is, all_append IsGraphic (two_digits n) rest (two_graphic n small) after)

-- the time of day with the mark before it
abbrev time_text : Moment → List ℕ
time_text m = marked time_mark m.hour (marked colon m.minute (marked colon m.second (zone_mark ∷ [])))

time_graphic : (m : Moment) → IsMoment m → AllByRecursion IsGraphic (time_text m)
time_graphic m is =
    let second = marked_graphic colon m.second (zone_mark ∷ []) (omega arith, omega arith) (omega (arith, is.second)) ((omega arith, omega arith), tt) in
    let minute = marked_graphic colon m.minute (marked colon m.second (zone_mark ∷ [])) (omega arith, omega arith) (omega (arith, is.minute)) second in
    marked_graphic time_mark m.hour (marked colon m.minute (marked colon m.second (zone_mark ∷ []))) (omega arith, omega arith) (omega (arith, is.hour)) minute

pub stamp_graphic : (stamp : Option Moment) → MatchOption stamp ⊤ (λ m. IsMoment m) → AllByRecursion IsGraphic (moment stamp)
unfolding moment
stamp_graphic None is = tt
stamp_graphic (Some m) is =
    let day = marked_graphic hyphen m.day (time_text m) (omega arith, omega arith) (omega (arith, is.day)) (time_graphic m is) in
    let month = marked_graphic hyphen m.month (marked hyphen m.day (time_text m)) (omega arith, omega arith) (omega (arith, is.month)) day in
    all_append IsGraphic (four_digits m.year) (marked hyphen m.month (marked hyphen m.day (time_text m))) (four_graphic m.year (omega (arith, is.year))) month
