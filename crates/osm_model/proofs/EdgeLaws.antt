-- Edges with up to seven decimals compare as their values in 1e-7 degree.
use Rattle.std.proofs.Common.{◌≡◌, ◌↔◌, ℕ, ◌+◌, ◌-◌, ◌*◌, ◌^◌, ◌<◌, ◌≤◌, Bool, true, false, List, length, ℤ, ◌≤ℤ◌, refl, sym, ◌∙◌, ap, subst, arith}
use Rattle.std.proofs.lemmas.Nat.{pow-add}
use Rattle.osm_model.specs.Degrees.{Decimal, Spells, IsDegrees, decimals, units, with_sign}
use Rattle.osm_model.specs.Edges.{size, scale, IsAtLeast, IsAtMost}
use Rattle.osm_model.specs.internal.EdgeUnits.{IsAround, signed_floor, signed_ceiling}
use Rattle.osm_model.proofs.Decimals.{power_some}
use Rattle.osm_model.proofs.Around.{up_to, from, with_sign-mul}
use Rattle.osm_model.proofs.shared.OneDecimal.{one_decimal}

whole_floor : (negative : Bool) (n : ℕ) → signed_floor negative n n ≡ with_sign negative n
whole_floor true n = refl
whole_floor false n = refl

whole_ceiling : (negative : Bool) (n : ℕ) → signed_ceiling negative n n ≡ with_sign negative n
whole_ceiling true n = refl
whole_ceiling false n = refl

whole : (m k z : ℕ) → 0 < k → m ≡ z * k → IsAround m k z z
whole m k z some is = record { below = omega arith; near_below = omega arith; above = omega arith; near_above = omega arith }

compares_itself : (text : List ℕ) (z u : ℤ) (h : IsDegrees text z) → (IsAtLeast u h.parts ↔ (z ≤ℤ u)) × (IsAtMost u h.parts ↔ (u ≤ℤ z))
compares_itself text z u h =
    let d : Decimal = h.parts in
    let k : ℕ = length (decimals d.fraction) in
    let some : 0 < scale d = power_some k in
    let few : k ≤ 7 = h.fine in
    let places : (7 - k) + k ≡ 7 = omega arith in
    let ten : 10 ^ (7 - k) * 10 ^ k ≡ 10 ^ 7 = sym (pow-add 10 (7 - k) k) ∙ ap (λ n. 10 ^ n) places in
    let all : size d * 10 ^ 7 ≡ units d * scale d = rw (sym ten) (omega arith) in
    let a = whole (size d * 10 ^ 7) (scale d) (units d) some all in
    let floor : signed_floor d.negative (units d) (units d) ≡ z = whole_floor d.negative (units d) ∙ h.value_is in
    let ceiling : signed_ceiling d.negative (units d) (units d) ≡ z = whole_ceiling d.negative (units d) ∙ h.value_is in (
      rw (with_sign-mul d.negative (size d) (10 ^ 7)) (rw ceiling at (from d.negative (size d * 10 ^ 7) (scale d) (units d) (units d) a some u)),
      rw (with_sign-mul d.negative (size d) (10 ^ 7)) (rw floor at (up_to d.negative (size d * 10 ^ 7) (scale d) (units d) (units d) a some u)),
    )

pub compares_as_degrees : (text : List ℕ) (z u : ℤ) (d : Decimal) → IsDegrees text z → Spells text d → (IsAtLeast u d ↔ (z ≤ℤ u)) × (IsAtMost u d ↔ (u ≤ℤ z))
compares_as_degrees text z u d h s =
    let P : Decimal → Type 0 = λ x. (IsAtLeast u x ↔ (z ≤ℤ u)) × (IsAtMost u x ↔ (u ≤ℤ z)) in
    subst P (one_decimal text h.parts d h.spells s) (compares_itself text z u h)
