-- The order of decimals: by their whole digits, then by those after the point.
use Rattle.std.proofs.Common.{◌≡◌, ◌↔◌, ℕ, zero, suc, ◌+◌, ◌*◌, ◌^◌, ◌<◌, ◌≤◌, Bool, true, false, not, IsTrue, List, length, Option, Some, None, pos, neg_ℤ, ◌≤ℤ◌, ◌<ℤ◌, refl, sym, ◌∙◌, arith}
use Rattle.std.proofs.Math.Nat.{mul-le-mul}
use Rattle.std.proofs.lemmas.Int.{ints}
use Rattle.std.proofs.lemmas.Int.Digits.{digits_value-lt}
use Rattle.std.specs.declared.cmp.Ordering.{Ordering}
use Rattle.std.specs.declared.cmp.Ordering.TheVariants.{Less, Equal, Greater}
use Rattle.std.specs.Ordering.{nat_cmp, is_ne}
use Rattle.std.specs.Cmp.{ranks}
use Rattle.std.specs.Str.Parse.{AllDigits, digits_value}
use Rattle.osm_model.specs.Degrees.{Decimal, IsDecimal, IsFraction, decimals}
use Rattle.osm_model.specs.Edges.{size, scale, IsAtLeast, IsAtMost, IsGreater}
use Rattle.osm_model.proofs.shared.Digits.{after_append}
use Rattle.osm_model.proofs.Decimals.{power_some}
use Rattle.osm_model.proofs.Around.{with_sign-mul}
use Rattle.osm_model.proofs.EdgeSizes.{value_followed}
use Rattle.osm_model.proofs.Leading.{same_order, wholes}

pub all_digits : (f : Option (List ℕ)) → IsFraction f → AllDigits 10 (decimals f)
all_digits None h = tt
all_digits (Some digits) h = h.1

sized : (d : Decimal) → size d ≡ digits_value 10 d.whole * scale d + digits_value 10 (decimals d.fraction)
sized d = after_append 0 d.whole (decimals d.fraction) ∙ value_followed (digits_value 10 d.whole) (decimals d.fraction)

pub by_wholes : (d e : Decimal) → IsDecimal d → digits_value 10 d.whole < digits_value 10 e.whole → size d * scale e < size e * scale d
by_wholes d e is less =
    rw (sized d, sized e) (wholes (digits_value 10 d.whole) (digits_value 10 e.whole) (digits_value 10 (decimals d.fraction)) (digits_value 10 (decimals e.fraction)) (scale d) (scale e) less
    (digits_value-lt 10 (decimals d.fraction) (all_digits d.fraction is.fraction)) (power_some (length (decimals e.fraction))))

-- with equal wholes the rest decides
pub by_fractions : (d e : Decimal) (r : Ordering) → digits_value 10 d.whole ≡ digits_value 10 e.whole → r ≡ nat_cmp (digits_value 10 (decimals d.fraction) * scale e) (digits_value 10 (decimals e.fraction) * scale d) → r ≡ nat_cmp (size d * scale e) (size e * scale d)
by_fractions d e r same is =
    same_order (digits_value 10 (decimals d.fraction) * scale e) (digits_value 10 (decimals e.fraction) * scale d) (size d * scale e) (size e * scale d) r is
    (λ less. rw (sized d, sized e, same) (omega arith)) (λ equal. rw (sized d, sized e, same) (omega arith)) (λ greater. rw (sized d, sized e, same) (omega arith))

pub equal_of : (x y : ℕ) (r : Ordering) → r ≡ nat_cmp x y → is_ne r ≡ false → x ≡ y
equal_of x y Less e f = cc
equal_of x y Equal e f = rw (sym e) at (ranks x y)
equal_of x y Greater e f = cc

pub unequal : (x y : ℕ) (r : Ordering) → r ≡ nat_cmp x y → is_ne r ≡ true → x ≡ y → ⊥
unequal x y Less e f same = let m : x < y = rw (sym e) at (ranks x y) in omega arith
unequal x y Equal e f same = cc
unequal x y Greater e f same = let m : y < x = rw (sym e) at (ranks x y) in omega arith

-- a decimal that isn't below 0 and one that isn't above
module _ (d e : Decimal) (up : d.negative ≡ false) (down : e.negative ≡ true) where
  none_up : IsAtLeast (pos 0) d → size d ≡ 0
  none_up h = let at_zero : pos (size d * 10 ^ 7) ≤ℤ pos (0 * scale d) = rw up at h in omega (arith, ints)

  none_down : IsAtMost (pos 0) e → size e ≡ 0
  none_down h = let at_zero : pos (0 * scale e) ≤ℤ neg_ℤ (pos (size e * 10 ^ 7)) = rw (down, with_sign-mul true (size e) (10 ^ 7)) at h in omega (arith, ints)

  pub not_above : IsAtLeast (pos 0) d → IsAtMost (pos 0) e → IsGreater d e → ⊥
  not_above h k above =
      let order : neg_ℤ (pos (size e * scale d)) <ℤ pos (size d * scale e) = rw (up, down, with_sign-mul true (size e) (scale d)) at above in
      let none_d = none_up h in
      let none_e = none_down k in
      let product_d : size d * scale e ≡ 0 = rw none_d (omega arith) in
      let product_e : size e * scale d ≡ 0 = rw none_e (omega arith) in
      omega (arith, ints)

  some_above : 0 < size d * scale e + size e * scale d → IsGreater d e
  some_above h = rw (up, down, with_sign-mul true (size e) (scale d)) (let order : neg_ℤ (pos (size e * scale d)) <ℤ pos (size d * scale e) = omega (arith, ints) in order)

  pub above_up : (IsAtLeast (pos 0) d → ⊥) → IsGreater d e
  above_up nothing =
      let some : 0 < size d = elim (size d) as (λ n. size d ≡ n → 0 < n) [
        | zero ↦ λ none. absurd (nothing (rw (up, none) (let zeros : pos (0 * 10 ^ 7) ≤ℤ pos (0 * scale d) = omega (arith, ints) in zeros)))
        | suc n ↦ λ is. omega arith
      ] refl in
      let scaled : 1 * 1 ≤ size d * scale e = mul-le-mul {m₁ = 1} some (power_some (length (decimals e.fraction))) in
      some_above (omega (arith, scaled))

  pub above_down : (IsAtMost (pos 0) e → ⊥) → IsGreater d e
  above_down nothing =
      let some : 0 < size e = elim (size e) as (λ n. size e ≡ n → 0 < n) [
        | zero ↦ λ none. absurd (nothing (rw (down, none) (let zeros : pos (0 * scale e) ≤ℤ pos (0 * 10 ^ 7) = omega (arith, ints) in zeros)))
        | suc n ↦ λ is. omega arith
      ] refl in
      let scaled : 1 * 1 ≤ size e * scale d = mul-le-mul {m₁ = 1} some (power_some (length (decimals d.fraction))) in
      some_above (omega (arith, scaled))

  -- what two tests against 0 tell
  pub apart_then : (a b r : Bool) → (IsTrue a ↔ IsAtLeast (pos 0) d) → (IsTrue b ↔ IsAtMost (pos 0) e) → a ≡ true → r ≡ b → IsTrue (not r) ↔ IsGreater d e
  apart_then a b true from to so is = ((λ h. cc), (λ above. absurd (not_above (from.0 so) (to.0 (sym is)) above)))
  apart_then a b false from to so is = ((λ h. above_down (λ k. let test = to.1 k in cc)), (λ above. refl))

  pub apart_else : (a r : Bool) → (IsTrue a ↔ IsAtLeast (pos 0) d) → a ≡ false → r ≡ false → IsTrue (not r) ↔ IsGreater d e
  apart_else a true from none is = cc
  apart_else a false from none is = ((λ h. above_up (λ k. let test = from.1 k in cc)), (λ above. refl))
