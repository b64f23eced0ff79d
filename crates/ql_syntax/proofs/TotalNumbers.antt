-- A number has the value that is asked for, or none.
use Rattle.std.proofs.Common.{◌≡◌, ℕ, zero, suc, lit<, ◌<◌, ◌≤◌, ◌^◌, ℤ, pos, List, Bool, true, false, Option, None, Some, FitsSigned, arith, refl, sym, ◌∙◌, subst, inl, inr, ◌⊎◌}
use Rattle.std.specs.Int.{w64, int_wrap}
use Rattle.std.proofs.lemmas.Int.{SFits-int_wrap, int_wrap_fits}
use Rattle.std.proofs.lemmas.Bool.{cases_lt, cases_Bool}
use Rattle.std.proofs.lemmas.Bool.Decides.{Decides-int_eq}
use Rattle.std.specs.Ordering.{int_eq}
use Rattle.std.specs.Prelude.{T}
use Rattle.std.specs.Str.Parse.{digits_value}
use Rattle.osm_model.specs.Degrees.{Decimal, with_sign}
use Rattle.osm_model.specs.Edges.{IsOnAxis, IsGreater}
use Rattle.osm_model.specs.declared.axis.Axis.{Axis}
use Rattle.osm_model.specs.declared.axis.Axis.TheVariants.{Lon, Lat}
use Rattle.ql_syntax.specs.Areas.{Corners, AreBox, area, box_of}
use Rattle.ql_syntax.specs.WholeNumbers.{id_of, count_of}
use Rattle.ql_syntax.specs.declared.cause.QlCause.TheVariants as causes
use Rattle.ql_syntax.proofs.TotalLemmas.{TotalAt, AsRead, AsStop, Total}

same_integer : (x y : ℤ) → (x ≡ y) ⊎ (x ≡ y → ⊥)
same_integer x y = elim (cases_Bool (int_eq x y)) [
  | inl holds ↦ inl ((Decides-int_eq x y).0 holds)
  | inr fails ↦ inr (λ e. (let bad : true ≡ false = sym ((Decides-int_eq x y).1 e) ∙ fails in cc))
]

fits : (z : ℤ) → FitsSigned w64 z ⊎ (FitsSigned w64 z → ⊥)
fits z = elim (same_integer (int_wrap w64 z) z) [
  | inl same ↦ inl (subst (λ (k : ℤ). FitsSigned w64 k) same (SFits-int_wrap w64 z))
  | inr other ↦ inr (λ fit. other (int_wrap_fits w64 z fit))
]

id_outcome : (number : Decimal) (place text : List ℕ) (f : Option (List ℕ)) → number.fraction ≡ f → FitsSigned w64 (with_sign number.negative (digits_value 10 number.whole)) ⊎ (FitsSigned w64 (with_sign number.negative (digits_value 10 number.whole)) → ⊥) → TotalAt (id_of number place) text
unfolding id_of
id_outcome number place text None none (inl fit) = AsRead (with_sign number.negative (digits_value 10 number.whole)) text (((record { no_point = none; value_is = refl }), fit), refl)
id_outcome number place text None none (inr not) = AsStop causes.NumberOutOfRange place ((λ value is. not (subst (λ (k : ℤ). FitsSigned w64 k) (sym (is.0).value_is) is.1)), refl, refl)
id_outcome number place text (Some digits) some fit = AsStop causes.NumberOutOfRange place ((λ value is. (let bad : Some digits ≡ None = sym some ∙ (is.0).no_point in cc)), refl, refl)

pub total_id : (number : Decimal) (place : List ℕ) → Total (id_of number place)
total_id number place = record { at = λ text. id_outcome number place text number.fraction refl (fits (with_sign number.negative (digits_value 10 number.whole))) }

is_below : (m n : ℕ) → (m < n) ⊎ (m < n → ⊥)
is_below m n = elim (cases_lt m n) [ inl less ↦ inl less | inr more ↦ inr (λ lt. omega arith) ]

is_most : (m n : ℕ) → (m ≤ n) ⊎ (m ≤ n → ⊥)
is_most m n = elim (cases_lt n m) [ inl less ↦ inr (λ le. omega arith) | inr more ↦ inl (omega arith) ]

-- the count of a sign and a size
data Counted (negative : Bool) (n : ℕ) : Type 0 where
  Is : (v : ℕ) → with_sign negative n ≡ pos v → v < 2 ^ 64 → Counted negative n
  IsNot : ((v : ℕ) → with_sign negative n ≡ pos v → v < 2 ^ 64 → ⊥) → Counted negative n

counted : (negative : Bool) (n : ℕ) → Counted negative n
counted true zero = Is 0 refl (lit< tt)
counted true (suc n) = IsNot (λ v same small. (cc))
counted false n = elim (is_below n (2 ^ 64)) [
  | inl small ↦ Is n refl small
  | inr large ↦ IsNot (λ v same small. large (let e : n ≡ v = cc in subst (λ (k : ℕ). k < 2 ^ 64) (sym e) small))
]

count_outcome : (number : Decimal) (place text : List ℕ) (f : Option (List ℕ)) → number.fraction ≡ f → Counted number.negative (digits_value 10 number.whole) → TotalAt (count_of number place) text
unfolding count_of
count_outcome number place text None none (Is v same small) = AsRead v text (((record { no_point = none; value_is = same }), small), refl)
count_outcome number place text None none (IsNot not) = AsStop causes.NumberOutOfRange place ((λ value is. not value (is.0).value_is is.1), refl, refl)
count_outcome number place text (Some digits) some c = AsStop causes.NumberOutOfRange place ((λ value is. (let bad : Some digits ≡ None = sym some ∙ (is.0).no_point in cc)), refl, refl)

pub total_count : (number : Decimal) (place : List ℕ) → Total (count_of number place)
total_count number place = record { at = λ text. count_outcome number place text number.fraction refl (counted number.negative (digits_value 10 number.whole)) }

-- a box, or none
is_within : (axis : Axis) (d : Decimal) → IsOnAxis axis d ⊎ (IsOnAxis axis d → ⊥)
is_within axis d = is_most _ _

is_held : (b : Bool) → T b ⊎ (T b → ⊥)
is_held true = inl tt
is_held false = inr (λ bad. bad)

is_above : (d e : Decimal) → IsGreater d e ⊎ (IsGreater d e → ⊥)
is_above d e = elim (is_held _) [ inl held ↦ inl (record { lt = held }) | inr not ↦ inr (λ above. not above.lt) ]

are_box : (c : Corners) → AreBox c ⊎ (AreBox c → ⊥)
are_box c = elim (is_within Lat c.south) [
  | inr not ↦ inr (λ are. not are.south)
  | inl south ↦ elim (is_within Lon c.west) [
    | inr not ↦ inr (λ are. not are.west)
    | inl west ↦ elim (is_within Lat c.north) [
      | inr not ↦ inr (λ are. not are.north)
      | inl north ↦ elim (is_within Lon c.east) [
        | inr not ↦ inr (λ are. not are.east)
        | inl east ↦ elim (is_above c.south c.north) [
          | inl above ↦ inr (λ are. are.upright above)
          | inr upright ↦ inl (record { south = south; west = west; north = north; east = east; upright = upright })
        ]
      ]
    ]
  ]
]

area_outcome : (c : Corners) (place text : List ℕ) → AreBox c ⊎ (AreBox c → ⊥) → TotalAt (area c place) text
unfolding area
area_outcome c place text (inl are) = AsRead (box_of c) text (are, refl, refl)
area_outcome c place text (inr not) = AsStop causes.BadBox place (not, refl, refl)

pub total_area : (c : Corners) (place : List ℕ) → Total (area c place)
total_area c place = record { at = λ text. area_outcome c place text (are_box c) }
