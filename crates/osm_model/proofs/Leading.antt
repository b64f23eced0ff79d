-- Digits in order of their places, with zeros after the last.
use Rattle.std.proofs.Common.{◌≡◌, ℕ, zero, suc, ◌+◌, ◌-◌, ◌*◌, ◌^◌, ◌<◌, ◌≤◌, List, [], ◌∷◌, length, get_or, take, refl, sym, ◌∙◌, ap, arith, add-one, add-zero, add-suc}
use Rattle.std.proofs.Math.Nat.{mul-le-mul_right, pow-suc}
use Rattle.std.proofs.Math.Seq.{take-length}
use Rattle.std.proofs.lemmas.List.{get_or_default, get_or_past}
use Rattle.std.proofs.lemmas.Int.Digits.{digits_value_more}
use Rattle.std.specs.declared.cmp.Ordering.{Ordering}
use Rattle.std.specs.declared.cmp.Ordering.TheVariants.{Less, Equal, Greater}
use Rattle.std.specs.Ordering.{nat_cmp}
use Rattle.std.specs.Cmp.{nat_cmp_is, ranks}
use Rattle.std.specs.Char.{digit_value}
use Rattle.std.specs.Str.Parse.{AllDigits, digits_value}

-- the number of so many first digits
abbrev pub leading : List ℕ → ℕ → ℕ
leading ds zero = 0
leading ds (suc i) = leading ds i * 10 + digit_value (get_or ds i 48)

pub leading-next : (ds : List ℕ) (i : ℕ) → leading ds (i + 1) ≡ leading ds i * 10 + digit_value (get_or ds i 48)
leading-next ds i = rw (add-one i) refl

front : (ds : List ℕ) (i : ℕ) → i ≤ length ds → leading ds i ≡ digits_value 10 (take i ds)
front ds zero h = refl
front ds (suc i) h =
    let before = front ds i (omega arith) in
    let lt : i < length ds = omega arith in
    let digit = get_or_default ds i 48 0 lt in
    let more : digits_value 10 (take (suc i) ds) ≡ digits_value 10 (take i ds) * 10 + digit_value (get_or ds i 0) = rw add-one at (digits_value_more 10 ds i lt) in
    rw (before, digit, more) refl

leading-all : (ds : List ℕ) → leading ds (length ds) ≡ digits_value 10 ds
leading-all ds = front ds (length ds) (omega arith) ∙ ap (digits_value 10) (take-length ds)

-- after the last digit each place is one more factor of ten
past_end : (ds : List ℕ) (i j : ℕ) → length ds ≤ i → leading ds (i + j) ≡ leading ds i * 10 ^ j
past_end ds i zero past = rw (add-zero i) (omega arith)
past_end ds i (suc j) past =
    let before = past_end ds i j past in
    let none : get_or ds (i + j) 48 ≡ 48 = get_or_past ds (i + j) 48 (omega arith) in
    rw (add-suc i j, none, before, pow-suc 10 j) (omega arith)

pub small_digit : (ds : List ℕ) (i : ℕ) → AllDigits 10 ds → digit_value (get_or ds i 48) < 10
small_digit [] i digits = omega arith
small_digit (d ∷ ds) zero digits = digits.0
small_digit (d ∷ ds) (suc i) digits = small_digit ds i digits.1

-- what is below at a place stays so
stays : (xs ys : List ℕ) (i j : ℕ) → AllDigits 10 xs → leading xs i < leading ys i → leading xs (i + j) < leading ys (i + j)
stays xs ys i zero digits h = rw (add-zero i) h
stays xs ys i (suc j) digits h =
    let before = stays xs ys i j digits h in
    let small = small_digit xs (i + j) digits in
    rw (add-suc i j) (omega (arith, before, small))

-- all digits, with as many zeros
whole : (xs ys : List ℕ) → leading xs (length xs + length ys) ≡ digits_value 10 xs * 10 ^ length ys
whole xs ys = past_end xs (length xs) (length ys) (omega arith) ∙ ap (λ n. n * 10 ^ length ys) (leading-all xs)

-- the first place at which two differ decides
pub decided : (xs ys : List ℕ) (i : ℕ) → AllDigits 10 xs → i < length xs + length ys → leading xs i ≡ leading ys i → digit_value (get_or xs i 48) < digit_value (get_or ys i 48)
    → digits_value 10 xs * 10 ^ length ys < digits_value 10 ys * 10 ^ length xs
decided xs ys i digits within same less =
    let j : ℕ = length xs + length ys - (i + 1) in
    let end : (i + 1) + j ≡ length xs + length ys = omega arith in
    let turned : length xs + length ys ≡ length ys + length xs = omega arith in
    let next : leading xs (i + 1) < leading ys (i + 1) = omega (arith, leading-next xs i, leading-next ys i, same, less) in
    let last = stays xs ys (i + 1) j digits next in
    let here : leading xs (length xs + length ys) < leading ys (length xs + length ys) = rw end at last in
    omega (arith, here, whole xs ys, ap (leading ys) turned, whole ys xs)

-- where none differs, they are equal
pub alike : (xs ys : List ℕ) (i : ℕ) → length xs ≤ i → length ys ≤ i → i ≤ length xs + length ys → leading xs i ≡ leading ys i → digits_value 10 xs * 10 ^ length ys ≡ digits_value 10 ys * 10 ^ length xs
alike xs ys i past_xs past_ys within same =
    let j : ℕ = length xs + length ys - i in
    let end : i + j ≡ length xs + length ys = omega arith in
    let turned : length xs + length ys ≡ length ys + length xs = omega arith in
    sym (whole xs ys) ∙ ap (leading xs) (sym end) ∙ past_end xs i j past_xs ∙ ap (λ n. n * 10 ^ j) same ∙ sym (past_end ys i j past_ys) ∙ ap (leading ys) (end ∙ turned) ∙ whole ys xs

-- one order is another, where each answer is
pub same_order : (x y a b : ℕ) (r : Ordering) → r ≡ nat_cmp x y → (x < y → a < b) → (x ≡ y → a ≡ b) → (y < x → b < a) → r ≡ nat_cmp a b
same_order x y a b Less e less equal greater = nat_cmp_is a b Less (less (rw (sym e) at (ranks x y)))
same_order x y a b Equal e less equal greater = nat_cmp_is a b Equal (equal (rw (sym e) at (ranks x y)))
same_order x y a b Greater e less equal greater = nat_cmp_is a b Greater (greater (rw (sym e) at (ranks x y)))

-- the wholes decide where they differ
pub wholes : (v w a b p q : ℕ) → v < w → a < p → 0 < q → (v * p + a) * q < (w * q + b) * p
wholes v w a b p q less small some =
    let next : v + 1 ≤ w = omega arith in
    let big : (v + 1) * (p * q) ≤ w * (p * q) = mul-le-mul_right (p * q) next in
    let here : a + 1 ≤ p = omega arith in
    let under : (a + 1) * q ≤ p * q = mul-le-mul_right q here in
    omega (arith, big, under, some)
