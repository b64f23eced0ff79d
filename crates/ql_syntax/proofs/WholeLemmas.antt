-- Numbers that 64 bits don't hold.
use Rattle.std.proofs.Common.{◌≡◌, ℕ, suc, ◌+◌, ◌*◌, ◌<◌, ◌≤◌, List, [], ◌∷◌, length, get_or, drop, ap, subst, arith, drop-cons}
use Rattle.std.specs.Char.{digit_value}
use Rattle.std.specs.Str.Parse.{AllDigits, digits_value, digits_value_after}

-- more digits make no smaller number
grows : (n : ℕ) (ds : List ℕ) → n ≤ digits_value_after 10 n ds
grows n [] = omega arith
grows n (d ∷ ds) = omega (arith, grows (n * 10 + digit_value d) ds)

-- the number with one more digit is no larger than the whole one
pub next_within : (size : ℕ) (digits : List ℕ) (i : ℕ) → i < length digits → digits_value_after 10 size (drop i digits) ≡ digits_value 10 digits
    → size * 10 + digit_value (get_or digits i 0) ≤ digits_value 10 digits
next_within size digits i lt same =
    omega (arith, same, ap (λ (ds : List ℕ). digits_value_after 10 size ds) (drop-cons digits i 0 lt), grows (size * 10 + digit_value (get_or digits i 0)) (drop (suc i) digits))

pub digit_here : (digits : List ℕ) (i : ℕ) → i < length digits → AllDigits 10 (drop i digits) → digit_value (get_or digits i 0) < 10
digit_here digits i lt all = let cons : AllDigits 10 (get_or digits i 0 ∷ drop (suc i) digits) = subst (λ (ds : List ℕ). AllDigits 10 ds) (drop-cons digits i 0 lt) all in cons.0
