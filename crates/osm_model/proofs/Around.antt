-- Whole numbers around a fraction.
use Rattle.std.proofs.Common.{◌≡◌, ◌↔◌, ◌⊎◌, inl, inr, ℕ, zero, suc, ◌+◌, ◌*◌, ◌^◌, ◌<◌, ◌≤◌, Bool, true, false, ℤ, pos, negsuc, ◌*ℤ◌, ◌≤ℤ◌, refl, sym, arith}
use Rattle.std.proofs.Math.Nat.{mul-le-mul_left, mul-le-mul_right, zero-mul, mul-le-mul}
use Rattle.std.proofs.lemmas.Bool.{cases_lt}
use Rattle.std.proofs.lemmas.Int.{ints}
use Rattle.osm_model.specs.Degrees.{with_sign}
use Rattle.osm_model.specs.internal.EdgeUnits.{IsAround, signed_floor, signed_ceiling}

pub floor_is : (m k f c n : ℕ) → IsAround m k f c → (n * k ≤ m) ↔ (n ≤ f)
floor_is m k f c n a = (
  (λ h. elim (cases_lt f n) [
    | inl more ↦ absurd (let next : f + 1 ≤ n = omega arith in let big = mul-le-mul_right k next in omega (arith, big, h, a.near_below))
    | inr less ↦ less
  ]),
  (λ h. let low = mul-le-mul_right k h in omega (arith, low, a.below)),
)

pub ceiling_is : (m k f c n : ℕ) → IsAround m k f c → (m ≤ n * k) ↔ (c ≤ n)
ceiling_is m k f c n a = (
  (λ h. elim (cases_lt n c) [
    | inl more ↦ absurd (let next : n + 1 ≤ c = omega arith in let big = mul-le-mul_right k next in omega (arith, big, h, a.near_above))
    | inr less ↦ less
  ]),
  (λ h. let low = mul-le-mul_right k h in omega (arith, low, a.above)),
)

pub with_sign-mul : (negative : Bool) (n m : ℕ) → with_sign negative n *ℤ pos m ≡ with_sign negative (n * m)
with_sign-mul false n m = refl
with_sign-mul true zero m = rw (zero-mul m) refl
with_sign-mul true (suc n) m = refl

pub up_to : (negative : Bool) (m k f c : ℕ) → IsAround m k f c → 0 < k → (u : ℤ) → ((u *ℤ pos k) ≤ℤ with_sign negative m) ↔ (u ≤ℤ signed_floor negative f c)
up_to false m k f c a some (pos x) =
    let e = floor_is m k f c x a in (
      (λ h. let low : x * k ≤ m = omega (arith, ints) in let r = e.0 low in omega (arith, ints)),
      (λ h. let low : x ≤ f = omega (arith, ints) in let r = e.1 low in omega (arith, ints)),
    )
up_to false m k f c a some (negsuc x) = ((λ h. omega (arith, ints)), (λ h. omega (arith, ints)))
up_to true m k f c a some (pos x) =
    let e = ceiling_is m k f c 0 a in (
      (λ h.
          let none : m ≤ 0 * k = omega (arith, ints) in
          let r = e.0 none in
          let one : x * 1 ≤ x * k = mul-le-mul_left x some in
          omega (arith, ints)),
      (λ h.
          let none : c ≤ 0 = omega (arith, ints) in
          let r = e.1 none in
          let zero_x : x ≤ 0 = omega (arith, ints) in
          let low = mul-le-mul_right k zero_x in
          omega (arith, ints)),
    )
up_to true m k f c a some (negsuc x) =
    let e = ceiling_is m k f c (suc x) a in (
      (λ h. let low : m ≤ suc x * k = omega (arith, ints) in let r = e.0 low in omega (arith, ints)),
      (λ h. let low : c ≤ suc x = omega (arith, ints) in let r = e.1 low in omega (arith, ints)),
    )

pub from : (negative : Bool) (m k f c : ℕ) → IsAround m k f c → 0 < k → (u : ℤ) → (with_sign negative m ≤ℤ (u *ℤ pos k)) ↔ (signed_ceiling negative f c ≤ℤ u)
from false m k f c a some (pos x) =
    let e = ceiling_is m k f c x a in (
      (λ h. let low : m ≤ x * k = omega (arith, ints) in let r = e.0 low in omega (arith, ints)),
      (λ h. let low : c ≤ x = omega (arith, ints) in let r = e.1 low in omega (arith, ints)),
    )
from false m k f c a some (negsuc x) = (
  (λ h. let one : 1 * k ≤ suc x * k = mul-le-mul_right k (omega arith) in absurd (omega (arith, ints))),
  (λ h. absurd (omega (arith, ints))),
)
from true m k f c a some (pos x) = ((λ h. omega (arith, ints)), (λ h. omega (arith, ints)))
from true m k f c a some (negsuc x) =
    let e = floor_is m k f c (suc x) a in (
      (λ h. let low : suc x * k ≤ m = omega (arith, ints) in let r = e.0 low in omega (arith, ints)),
      (λ h. let low : suc x ≤ f = omega (arith, ints) in let r = e.1 low in omega (arith, ints)),
    )

-- a number, its digits cut after the seventh decimal
pub cut : (v p r q b f c : ℕ) → r * p ≡ 10 ^ 7 → 0 < p → b < q → (b ≡ 0) ⊎ ((0 < b) × (r ≡ 1)) → f ≡ v * r → (b ≡ 0 → c ≡ f) → (0 < b → c ≡ f + 1) → IsAround ((v * q + b) * 10 ^ 7) (p * q) f c
cut v p r q b f c whole some rest (inl none) is exact more =
    let all : (v * q + b) * 10 ^ 7 ≡ f * (p * q) = rw (none, is, sym whole) (omega arith) in
    let same : c ≡ f = exact none in
    let positive : 1 * 1 ≤ p * q = mul-le-mul {m₁ = 1} some (omega arith) in
    record { below = omega (arith, all); near_below = omega (arith, all, positive); above = rw same (omega (arith, all)); near_above = rw same (omega (arith, all, positive)) }
cut v p r q b f c whole some rest (inr (positive, one)) is exact more =
    let ten : p ≡ 10 ^ 7 = omega (arith, rw one at whole) in
    let same : f ≡ v = omega (arith, rw one at is) in
    let next : c ≡ v + 1 = omega (arith, more positive) in
    rw (ten, same, next) (record { below = omega arith; near_below = omega arith; above = omega arith; near_above = omega arith })
