-- Whole numbers of 64 bits.
use Rattle.std.proofs.Common.{◌≡◌, ℕ, zero, suc, ◌+◌, ◌*◌, ◌<◌, ◌≤◌, min, List, [], ◌∷◌, ◌++◌, length, get_or, drop, Bool, None, ℤ, sym, ◌∙◌, ap, arith, append-nil, add-one, drop-cons}
use Rattle.std.specs.Char.{digit_value}
use Rattle.std.specs.Str.Parse.{AllDigits, digits_value, digits_value_after}
use Rattle.osm_model.specs.Degrees.{sign, with_sign, Spells, Decimal}
use Rattle.osm_model.proofs.shared.OneDecimal.{one_decimal}
use Rattle.osm_model.proofs.shared.Digits.{capped_more}
use Rattle.opl_codec.specs.Fields.{IsInteger}

abbrev decimal_of : Bool → List ℕ → Decimal
decimal_of negative digits = record { negative = negative; whole = digits; fraction = None }

as_decimal : (text : List ℕ) (z : ℤ) → (h : IsInteger text z) → Spells text (decimal_of h.negative h.digits)
as_decimal text z h = record {
  decimal = record { whole = h.digits_are; fraction = tt };
  text_is = h.text_is ∙ ap (λ d. sign h.negative ++ d) (sym (append-nil h.digits));
}

-- a text is one whole number at most
pub one_integer : (text : List ℕ) (y z : ℤ) → IsInteger text y → IsInteger text z → y ≡ z
one_integer text y z h k =
    let same = one_decimal text (decimal_of h.negative h.digits) (decimal_of k.negative k.digits) (as_decimal text y h) (as_decimal text z k) in
    sym h.value_is ∙ (ap (λ (d : Decimal). with_sign d.negative (digits_value 10 d.whole)) same ∙ k.value_is)

-- the digits that come
pub digits_all : (digits : List ℕ) (i : ℕ) → i < length digits → AllDigits 10 digits → digit_value (get_or digits i 0) < 10
digits_all [] i lt all = absurd (omega arith)
digits_all (x ∷ digits) zero lt all = all.0
digits_all (x ∷ digits) (suc i) lt all = digits_all digits i (omega arith) all.1

-- one more digit, up to the cap
pub cap_more : (cap n v r : ℕ) (digits : List ℕ) (i : ℕ) → 1 ≤ cap → i < length digits → r ≡ min (min (v * 10) cap + digit_value (get_or digits i 0)) cap
    → min (digits_value_after 10 v (drop i digits)) cap ≡ n → min (digits_value_after 10 r (drop (i + 1) digits)) cap ≡ n
cap_more cap n v r digits i some lt is before =
    let front = drop-cons digits i 0 lt in
    let step : r ≡ min (v * 10 + digit_value (get_or digits i 0)) cap = omega arith in
    rw (add-one, step) (capped_more cap (v * 10 + digit_value (get_or digits i 0)) (drop (suc i) digits) some ∙ (rw front at before))
