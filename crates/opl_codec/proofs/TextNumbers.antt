-- Numbers and degrees as they stand in a line.
use Rattle.std.proofs.Common.{ℕ, suc, ◌^◌, ◌<◌, Bool, List, ◌++◌, true, false, ℤ, pos, negsuc, neg_ℤ, FitsSigned, Option, Some, None, refl, ap, arith}
use Rattle.std.specs.Int.{w64}
use Rattle.std.specs.Fmt.{decimal, signed_decimal}
use Rattle.std.proofs.lemmas.Fmt.{decimal_is_IsNumeral}
use Rattle.std.proofs.lemmas.Int.{ints}
use Rattle.std.proofs.lemmas.Bool.Decides.{nat_tests}
use Rattle.osm_model.specs.Degrees.{IsDegrees, IsFraction, sign, point}
use Rattle.osm_model.proofs.shared.OneNumeral.{decimal_digits}
use Rattle.byte_io.specs.Pieces.{Lacks}
use Rattle.opl_codec.specs.Fields.{IsInteger}
use Rattle.opl_codec.proofs.TextPieces.{lacks_append, digits_lack}

-- a whole number's text spells it
pub signed_decimal_spells : (z : ℤ) → FitsSigned w64 z → IsInteger (signed_decimal z) z
signed_decimal_spells (pos n) fits =
    let small : n < 2 ^ 64 = omega (arith, ints) in
    record { negative = false; digits = decimal n; text_is = refl; digits_are = decimal_digits n small; value_is = ap (λ m. pos m) (decimal_is_IsNumeral n small).1 }
signed_decimal_spells (negsuc n) fits =
    let small : suc n < 2 ^ 64 = omega (arith, ints) in
    record { negative = true; digits = decimal (suc n); text_is = refl; digits_are = decimal_digits (suc n) small; value_is = ap (λ m. neg_ℤ (pos m)) (decimal_is_IsNumeral (suc n) small).1 }

sign_lacks : (separator : ℕ) → separator < 33 → (negative : Bool) → Lacks separator (sign negative)
sign_lacks separator low true = (grind (arith, nat_tests), tt)
sign_lacks separator low false = tt

point_lacks : (separator : ℕ) → separator < 33 → (fraction : Option (List ℕ)) → IsFraction fraction → Lacks separator (point fraction)
point_lacks separator low None h = tt
point_lacks separator low (Some digits) h = (grind (arith, nat_tests), digits_lack separator low digits h.1)

-- a whole number has no space and no line end
pub integer_lacks : (separator : ℕ) → separator < 33 → (text : List ℕ) (z : ℤ) → IsInteger text z → Lacks separator text
integer_lacks separator low text z h = rw h.text_is (lacks_append separator (sign h.negative) h.digits (sign_lacks separator low h.negative) (digits_lack separator low h.digits h.digits_are.1))

-- degrees have no space and no line end
pub degrees_lack : (separator : ℕ) → separator < 33 → (text : List ℕ) (z : ℤ) → IsDegrees text z → Lacks separator text
degrees_lack separator low text z h =
    let d = h.parts in
    rw h.spells.text_is (lacks_append separator (sign d.negative) (d.whole ++ point d.fraction) (sign_lacks separator low d.negative) (lacks_append separator d.whole (point d.fraction) (digits_lack separator low d.whole h.spells.decimal.whole.1) (point_lacks separator low d.fraction h.spells.decimal.fraction)))
