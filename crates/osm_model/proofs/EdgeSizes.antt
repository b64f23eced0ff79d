-- The whole units around a decimal, from its digits.
use Rattle.std.proofs.Common.{◌≡◌, ◌⊎◌, inl, inr, ℕ, ◌+◌, ◌-◌, ◌*◌, ◌^◌, ◌<◌, ◌≤◌, Bool, Option, List, [], ◌∷◌, ◌++◌, length, refl, sym, ◌∙◌, ap, arith, append_assoc, length-append, All}
use Rattle.std.proofs.Math.Nat.{mul-le-mul_left, mul-le-mul_right, pow-suc}
use Rattle.std.proofs.lemmas.Nat.{pow-add}
use Rattle.std.proofs.lemmas.Bool.{cases_lt}
use Rattle.std.proofs.lemmas.Bool.Decides.{nat_tests}
use Rattle.std.proofs.lemmas.Int.Digits.{digits_value-lt}
use Rattle.std.proofs.lemmas.List.Elements.{All-head, All-tail, All-cons, All-nil}
use Rattle.std.specs.Char.{digit_value}
use Rattle.std.specs.Str.Parse.{AllDigits, digits_value, digits_value_after}
use Rattle.osm_model.specs.declared.axis.Axis.{Axis}
use Rattle.osm_model.specs.declared.axis.Axis.TheVariants.{Lon, Lat}
use Rattle.osm_model.specs.Degrees.{Decimal, IsDecimal, decimals, limit}
use Rattle.osm_model.specs.Edges.{ExactEdge, IsEdge, IsOnAxis, size, scale}
use Rattle.osm_model.specs.internal.EdgeUnits.{IsAround, IsBetween, signed_floor, signed_ceiling}
use Rattle.osm_model.proofs.shared.Digits.{after_append, over}
use Rattle.osm_model.proofs.Decimals.{power_some}
use Rattle.osm_model.proofs.Around.{cut, up_to, from, with_sign-mul}

-- digits after a number
pub value_followed : (n : ℕ) (ds : List ℕ) → digits_value_after 10 n ds ≡ n * 10 ^ length ds + digits_value 10 ds
value_followed n [] = omega arith
value_followed n (d ∷ ds) =
    let first = value_followed (n * 10 + digit_value d) ds in
    let second = value_followed (0 * 10 + digit_value d) ds in
    rw (pow-suc 10 (length ds)) (omega (arith, first, second))

pub value_cut : (whole first rest : List ℕ) → digits_value 10 (whole ++ (first ++ rest)) ≡ digits_value 10 (whole ++ first) * 10 ^ length rest + digits_value 10 rest
value_cut whole first rest = ap (digits_value 10) (sym (append_assoc whole first rest)) ∙ after_append 0 (whole ++ first) rest ∙ value_followed (digits_value 10 (whole ++ first)) rest

pub digits_right : (xs ys : List ℕ) → AllDigits 10 (xs ++ ys) → AllDigits 10 ys
digits_right [] ys h = h
digits_right (x ∷ xs) ys h = digits_right xs ys h.1

-- digits are a number of 0 exactly where each is a zero
pub zeros : (ds : List ℕ) → All (λ d. d ≡ 48) ds → digits_value 10 ds ≡ 0
zeros [] h = refl
zeros (d ∷ ds) h =
    let first : d ≡ 48 = All-head (λ x. x ≡ 48) d ds h in
    rw first (zeros ds (All-tail (λ x. x ≡ 48) d ds h))

is_zero : (d : ℕ) → digit_value d < 10 → digit_value d ≡ 0 → d ≡ 48
is_zero d digit none = grind (arith, nat_tests)

pub only_zeros : (ds : List ℕ) → AllDigits 10 ds → digits_value 10 ds ≡ 0 → All (λ d. d ≡ 48) ds
only_zeros [] digits h = All-nil (λ d. d ≡ 48)
only_zeros (d ∷ ds) digits h =
    let parts = value_followed (0 * 10 + digit_value d) ds in
    let some = power_some (length ds) in
    let large : digit_value d * 1 ≤ digit_value d * 10 ^ length ds = mul-le-mul_left (digit_value d) some in
    let none : digit_value d ≡ 0 = omega (arith, large, parts, h) in
    let rest : digits_value 10 ds ≡ 0 = omega (arith, parts, h) in
    All-cons (λ x. x ≡ 48) d ds (is_zero d digits.0 none) (only_zeros ds digits.1 rest)

module _ (whole fraction first rest : List ℕ) (is : fraction ≡ first ++ rest) (digits : AllDigits 10 fraction)
    (few : length first ≤ 7) (seven : (length rest ≡ 0) ⊎ (length first ≡ 7)) where
  ten : 10 ^ (7 - length first) * 10 ^ length first ≡ 10 ^ 7
  ten = let all : (7 - length first) + length first ≡ 7 = omega arith in sym (pow-add 10 (7 - length first) (length first)) ∙ ap (λ n. 10 ^ n) all

  short : digits_value 10 rest < 10 ^ length rest
  short = digits_value-lt 10 rest (digits_right first rest (rw is at digits))

  pub around : (f c : ℕ) → f ≡ digits_value 10 (whole ++ first) * 10 ^ (7 - length first) → (digits_value 10 rest ≡ 0 → c ≡ f) → (0 < digits_value 10 rest → c ≡ f + 1)
      → IsAround (digits_value 10 (whole ++ fraction) * 10 ^ 7) (10 ^ length fraction) f c
  around f c f_is exact more =
      let choice : (digits_value 10 rest ≡ 0) ⊎ ((0 < digits_value 10 rest) × (10 ^ (7 - length first) ≡ 1)) = elim (cases_lt 0 (digits_value 10 rest)) [
        | inr none ↦ inl (omega arith)
        | inl some ↦ elim seven [
          | inl none ↦ inl (let one : 10 ^ length rest ≡ 1 = ap (λ n. 10 ^ n) none in omega (arith, short, one))
          | inr all ↦ inr (some, (let zero_left : 7 - length first ≡ 0 = omega arith in ap (λ n. 10 ^ n) zero_left))
        ]
      ] in
      rw (is, value_cut whole first rest, length-append first rest, pow-add 10 (length first) (length rest))
      (cut (digits_value 10 (whole ++ first)) (10 ^ length first) (10 ^ (7 - length first)) (10 ^ length rest) (digits_value 10 rest) f c ten (power_some (length first)) short choice f_is exact more)

  -- what is above a limit in the units below is so
  pub far : (lim : ℕ) → lim < digits_value 10 (whole ++ first) * 10 ^ (7 - length first) → lim * 10 ^ length fraction < digits_value 10 (whole ++ fraction) * 10 ^ 7
  far lim more =
      rw (is, value_cut whole first rest, length-append first rest, pow-add 10 (length first) (length rest))
      (beyond (digits_value 10 (whole ++ first)) (10 ^ length first) (10 ^ (7 - length first)) (10 ^ length rest) (digits_value 10 rest) lim ten (power_some (length first)) (power_some (length rest)) more)
    where
      beyond : (v p r q b lim : ℕ) → r * p ≡ 10 ^ 7 → 0 < p → 0 < q → lim < v * r → lim * (p * q) < (v * q + b) * 10 ^ 7
      beyond v p r q b lim whole_is some_p some_q h =
          let next : lim + 1 ≤ v * r = omega arith in
          let big : (lim + 1) * (p * q) ≤ (v * r) * (p * q) = mul-le-mul_right (p * q) next in
          let positive : 1 * q ≤ p * q = mul-le-mul_right q some_p in
          rw (sym whole_is) (omega (arith, big, positive, some_q))

pub limits : (axis : Axis) → limit axis ≤ 1800000000
limits Lon = omega arith
limits Lat = omega arith

-- an edge in range, with its next whole units
pub edge_of : (axis : Axis) (negative : Bool) (whole digits : List ℕ) (fraction : Option (List ℕ)) (f c : ℕ) → IsDecimal (record { negative = negative; whole = whole; fraction = fraction }) → digits ≡ decimals fraction
    → IsAround (digits_value 10 (whole ++ digits) * 10 ^ 7) (10 ^ length digits) f c → c ≤ limit axis
    → IsEdge (record { axis = axis; value = record { negative = negative; whole = whole; fraction = fraction } }) × IsBetween (record { negative = negative; whole = whole; fraction = fraction }) (signed_floor negative f c) (signed_ceiling negative f c)
edge_of axis negative whole digits fraction f c decimal same a fits =
    let d : Decimal = record { negative = negative; whole = whole; fraction = fraction } in
    let b : IsAround (size d * 10 ^ 7) (scale d) f c = rw (sym same) a in
    let some : 0 < scale d = power_some (length (decimals d.fraction)) in
    let low = mul-le-mul_right (scale d) fits in (
      record { decimal = decimal; within = omega (arith, low, b.above) },
      record {
        at_most = λ u. rw (with_sign-mul negative (size d) (10 ^ 7)) (up_to negative (size d * 10 ^ 7) (scale d) f c b some u);
        at_least = λ u. rw (with_sign-mul negative (size d) (10 ^ 7)) (from negative (size d * 10 ^ 7) (scale d) f c b some u);
      },
    )

-- a decimal is out of range where the units above are
pub out_of_range : (axis : Axis) (negative : Bool) (whole digits : List ℕ) (fraction : Option (List ℕ)) (f c : ℕ) → digits ≡ decimals fraction
    → (f ≤ 1800000000 → IsAround (digits_value 10 (whole ++ digits) * 10 ^ 7) (10 ^ length digits) f c) → (1800000000 < f → 1800000000 * 10 ^ length digits < digits_value 10 (whole ++ digits) * 10 ^ 7)
    → limit axis < c → ¬ (IsOnAxis axis (record { negative = negative; whole = whole; fraction = fraction }))
out_of_range axis negative whole digits fraction f c same near over more within =
    let here : digits_value 10 (whole ++ digits) * 10 ^ 7 ≤ limit axis * 10 ^ length digits = rw (sym same) at within in
    let least = limits axis in
    elim (cases_lt 1800000000 f) [
      | inl large ↦ let low = mul-le-mul_right (10 ^ length digits) least in let far = over large in omega (arith, here, low, far)
      | inr small ↦
          let a = near small in
          let next : limit axis + 1 ≤ c = omega arith in
          let big = mul-le-mul_right (10 ^ length digits) next in
          omega (arith, here, big, a.near_above)
    ]

-- the whole digits of an edge are a small number
pub few_whole : (e : ExactEdge) → IsEdge e → digits_value 10 e.value.whole ≤ 10000000000
few_whole e is =
    let digits = decimals e.value.fraction in
    let parts : size e.value ≡ digits_value 10 e.value.whole * scale e.value + digits_value 10 digits = after_append 0 e.value.whole digits ∙ value_followed (digits_value 10 e.value.whole) digits in
    let some : 0 < scale e.value = power_some (length digits) in
    let low = mul-le-mul_right (scale e.value) (limits e.axis) in
    elim (cases_lt 10000000000 (digits_value 10 e.value.whole)) [
      | inl more ↦ absurd (let least : 10000000000 ≤ digits_value 10 e.value.whole = omega arith in let big = mul-le-mul_right (scale e.value) least in omega (arith, parts, some, low, big, is.within))
      | inr few ↦ few
    ]
