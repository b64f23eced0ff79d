-- A text is one decimal at most.
use Rattle.std.proofs.Common.{◌≡◌, ℕ, ◌<◌, ◌≤◌, List, [], ◌∷◌, ◌++◌, length, Bool, true, false, ℤ, unsigned_abs, Option, Some, None, Result, Ok, Err, IfOk, IfErr, refl, sym, ◌∙◌, ap, arith}
use Rattle.std.specs.Char.{digit_value}
use Rattle.osm_model.specs.declared.axis.Axis.{Axis}
use Rattle.osm_model.specs.declared.fault.ModelFault.{ModelFault}
use Rattle.osm_model.specs.declared.fault.ModelFault.TheVariants.{EmptyNumber, NotDecimal, TooManyDecimals, OutOfRange, SouthAboveNorth, ObjectTwice, KeyTwice, LimitPassed, NulInText}
use Rattle.osm_model.specs.Degrees.{Decimal, Spells, IsDegrees, IsFault, IsDigits, sign, point, value, limit, decimals}
use Rattle.osm_model.proofs.shared.Digits.{same_front, other_point}

same_point : (f g : Option (List ℕ)) → point f ≡ point g → f ≡ g
same_point None None e = refl
same_point None (Some b) e = cc
same_point (Some a) None e = cc
same_point (Some a) (Some b) e = cc

no_minus : (digits rest more : List ℕ) → IsDigits digits → 45 ∷ rest ≡ digits ++ more → ⊥
no_minus [] rest more d e = d.0 refl
no_minus (x ∷ xs) rest more d e = let same : 45 ≡ x = cc in let small : digit_value x < 10 = d.1.0 in let big : digit_value 45 ≡ digit_value x = ap digit_value same in let it : digit_value 45 ≡ 36 = refl in omega arith

same_parts : (m n : Bool) (v w : List ℕ) (f g : Option (List ℕ)) → IsDigits v → IsDigits w → sign m ++ (v ++ point f) ≡ sign n ++ (w ++ point g) → (m ≡ n) × (v ≡ w) × (f ≡ g)
same_parts false false v w f g dv dw e = let r = same_front v w (point f) (point g) dv.1 dw.1 (other_point f) (other_point g) e in (refl, r.0, same_point f g r.1)
same_parts true true v w f g dv dw e = let tail : v ++ point f ≡ w ++ point g = cc in let r = same_front v w (point f) (point g) dv.1 dw.1 (other_point f) (other_point g) tail in (refl, r.0, same_point f g r.1)
same_parts true false v w f g dv dw e = absurd (no_minus w (v ++ point f) (point g) dw e)
same_parts false true v w f g dv dw e = absurd (no_minus v (w ++ point g) (point f) dv (sym e))

pub one_decimal : (text : List ℕ) (d e : Decimal) → Spells text d → Spells text e → d ≡ e
one_decimal text d e h k =
    let r = same_parts d.negative e.negative d.whole e.whole d.fraction e.fraction h.decimal.whole k.decimal.whole (sym h.text_is ∙ k.text_is) in
    let f : Bool → Decimal = λ x. record { negative = x; whole = d.whole; fraction = d.fraction } in
    let g : List ℕ → Decimal = λ x. record { negative = e.negative; whole = x; fraction = d.fraction } in
    let h : Option (List ℕ) → Decimal = λ x. record { negative = e.negative; whole = e.whole; fraction = x } in
    ap f r.0 ∙ (ap g r.1 ∙ ap h r.2)

-- a text has one value at most
pub one_value : (text : List ℕ) (y z : ℤ) → IsDegrees text y → IsDegrees text z → y ≡ z
one_value text y z h k = sym h.value_is ∙ ap value (one_decimal text h.parts k.parts h.spells k.spells) ∙ k.value_is

pub not_empty : (m : Bool) (digits more : List ℕ) → IsDigits digits → sign m ++ (digits ++ more) ≡ [] → ⊥
not_empty true digits more d e = cc
not_empty false [] more d e = d.0 refl
not_empty false (x ∷ xs) more d e = cc

-- a text with a fault has no value in range
pub faulty : (text : List ℕ) (axis : Axis) (fault : ModelFault) (z : ℤ) → IsFault text axis fault → IsDegrees text z → unsigned_abs z ≤ limit axis → ⊥
faulty text axis EmptyNumber z f h fits = not_empty h.parts.negative h.parts.whole (point h.parts.fraction) h.spells.decimal.whole (sym h.spells.text_is ∙ f)
faulty text axis NotDecimal z f h fits = f.1 h.parts h.spells
faulty text axis TooManyDecimals z f h fits = let fine = h.fine in let same = one_decimal text h.parts f.0 h.spells f.1 in omega (arith, f.2, ap (λ (d : Decimal). length (decimals d.fraction)) same)
faulty text axis OutOfRange z f h fits = let same = one_value text z f.0 h f.1 in omega (arith, f.2, ap unsigned_abs same)
faulty text axis SouthAboveNorth z f h fits = f
faulty text axis ObjectTwice z f h fits = f
faulty text axis KeyTwice z f h fits = f
faulty text axis LimitPassed z f h fits = f
faulty text axis NulInText z f h fits = f

pub only : (text : List ℕ) (axis : Axis) (r : Result ℤ ModelFault) → IfOk r (λ z. IsDegrees text z × (unsigned_abs z ≤ limit axis)) → IfErr r (λ fault. IsFault text axis fault)
    → (z : ℤ) → IsDegrees text z → unsigned_abs z ≤ limit axis → r ≡ Ok z
only text axis (Ok y) read refused z h fits = ap Ok (one_value text y z read.0 h)
only text axis (Err fault) read refused z h fits = absurd (faulty text axis fault z refused h fits)
