-- The whole units next to an edge are in the range of its axis.
use Rattle.std.proofs.Common.{inl, inr, ℕ, ◌+◌, ◌*◌, ◌^◌, ◌<◌, ◌≤◌, Bool, true, false, ℤ, pos, negsuc, neg_ℤ, unsigned_abs, ◌*ℤ◌, ◌≤ℤ◌, length, arith}
use Rattle.std.proofs.Math.Nat.{mul-le-mul_right}
use Rattle.std.proofs.lemmas.Bool.{cases_lt}
use Rattle.std.proofs.Common.{SFits, to_z, of_z, w32}
use Rattle.std.proofs.lemmas.Int.{ints, to_z-of_z}
use Rattle.osm_model.specs.Degrees.{decimals, limit, with_sign}
use Rattle.osm_model.specs.Edges.{ExactEdge, IsEdge, IsFloor, IsCeiling, IsAtLeast, IsAtMost, scale, size}
use Rattle.osm_model.proofs.Around.{with_sign-mul}
use Rattle.osm_model.proofs.Decimals.{power_some}
use Rattle.osm_model.proofs.EdgeSizes.{limits}
use Rattle.osm_model.specs.declared.axis.Axis.{Axis}

-- a factor above 0 may be left out
without : (x y k : ℕ) → 0 < k → x * k ≤ y * k → x ≤ y
without x y k some h = elim (cases_lt y x) [
  | inl more ↦ absurd (let next : y + 1 ≤ x = omega arith in let big = mul-le-mul_right k next in omega (arith, big, h, some))
  | inr less ↦ less
]

module _ (n k m : ℕ) (some : 0 < k) where
  -- a fraction m / k, up to n in size, is between -n and n
  above_least : (negative : Bool) → m ≤ n * k → (neg_ℤ (pos n) *ℤ pos k) ≤ℤ with_sign negative m
  above_least false h = rw (with_sign-mul true n k) (let low : neg_ℤ (pos (n * k)) ≤ℤ pos m = omega (arith, ints) in low)
  above_least true h = rw (with_sign-mul true n k) (let low : neg_ℤ (pos (n * k)) ≤ℤ neg_ℤ (pos m) = omega (arith, ints) in low)

  below_most : (negative : Bool) → m ≤ n * k → with_sign negative m ≤ℤ (pos n *ℤ pos k)
  below_most false h = let high : pos m ≤ℤ pos (n * k) = omega (arith, ints) in high
  below_most true h = let high : neg_ℤ (pos m) ≤ℤ pos (n * k) = omega (arith, ints) in high

  -- what isn't above it and is -n at least is n at most in size
  floor_fits : (negative : Bool) (u : ℤ) → m ≤ n * k → neg_ℤ (pos n) ≤ℤ u → (u *ℤ pos k) ≤ℤ with_sign negative m → unsigned_abs u ≤ n
  floor_fits false (pos x) h low high = let few : x * k ≤ m = omega (arith, ints) in without x n k some (omega arith)
  floor_fits true (pos x) h low high = let few : x * k ≤ m = omega (arith, ints) in without x n k some (omega arith)
  floor_fits negative (negsuc x) h low high = omega (arith, ints)

  ceiling_fits : (negative : Bool) (u : ℤ) → m ≤ n * k → u ≤ℤ pos n → with_sign negative m ≤ℤ (u *ℤ pos k) → unsigned_abs u ≤ n
  ceiling_fits negative (pos x) h high low = omega (arith, ints)
  ceiling_fits false (negsuc x) h high low = absurd (omega (arith, ints))
  ceiling_fits true (negsuc x) h high low = let few : (x + 1) * k ≤ m = omega (arith, ints) in let r = without (x + 1) n k some (omega arith) in omega arith

module _ (e : ExactEdge) (is : IsEdge e) where
  least : IsAtMost (neg_ℤ (pos (limit e.axis))) e.value
  least = rw (with_sign-mul e.value.negative (size e.value) (10 ^ 7)) (above_least (limit e.axis) (scale e.value) (size e.value * 10 ^ 7) (power_some (length (decimals e.value.fraction))) e.value.negative is.within)

  most : IsAtLeast (pos (limit e.axis)) e.value
  most = rw (with_sign-mul e.value.negative (size e.value) (10 ^ 7)) (below_most (limit e.axis) (scale e.value) (size e.value * 10 ^ 7) (power_some (length (decimals e.value.fraction))) e.value.negative is.within)

  pub floor_within : (floor : ℤ) → IsFloor e.value floor → unsigned_abs floor ≤ limit e.axis
  floor_within floor f =
      let low : neg_ℤ (pos (limit e.axis)) ≤ℤ floor = (f (neg_ℤ (pos (limit e.axis)))).0 least in
      let same : floor ≤ℤ floor = omega (arith, ints) in
      let high = rw (with_sign-mul e.value.negative (size e.value) (10 ^ 7)) at ((f floor).1 same) in
      floor_fits (limit e.axis) (scale e.value) (size e.value * 10 ^ 7) (power_some (length (decimals e.value.fraction))) e.value.negative floor is.within low high

  pub ceiling_within : (ceiling : ℤ) → IsCeiling e.value ceiling → unsigned_abs ceiling ≤ limit e.axis
  ceiling_within ceiling f =
      let high : ceiling ≤ℤ pos (limit e.axis) = (f (pos (limit e.axis))).0 most in
      let same : ceiling ≤ℤ ceiling = omega (arith, ints) in
      let low = rw (with_sign-mul e.value.negative (size e.value) (10 ^ 7)) at ((f ceiling).1 same) in
      ceiling_fits (limit e.axis) (scale e.value) (size e.value * 10 ^ 7) (power_some (length (decimals e.value.fraction))) e.value.negative ceiling is.within high low

-- a number that is no farther from 0 than an axis goes is in the range of 32 bits
pub few_fits : (axis : Axis) (z : ℤ) → unsigned_abs z ≤ limit axis → SFits w32 z
few_fits axis (pos n) few = let most = limits axis in omega (arith, ints)
few_fits axis (negsuc n) few = let most = limits axis in omega (arith, ints)

pub same_number : (axis : Axis) (z : ℤ) → unsigned_abs z ≤ limit axis → unsigned_abs (to_z w32 (of_z w32 z)) ≤ limit axis
same_number axis z few = rw (to_z-of_z w32 z (few_fits axis z few)) few
