-- Digits of degrees, one by one.
use Rattle.std.proofs.Common.{◌≡◌, ℕ, zero, suc, ◌+◌, ◌-◌, ◌*◌, ◌/◌, ◌%◌, ◌^◌, ◌<◌, ◌≤◌, ◌≢◌, [], ◌∷◌, length, ◌∙◌, ap, arith, length-append}
use Rattle.std.proofs.Math.Nat.{pow-suc, mod-eq_of_lt}
use Rattle.std.proofs.lemmas.Nat.{div_below}
use Rattle.std.proofs.lemmas.Fmt.{decimal_step}
use Rattle.std.specs.Fmt.{decimal}

-- a number that isn't 0 has a decimal place
pub some_places : (k n : ℕ) → n ≢ 0 → n < 10 ^ k → 1 ≤ k
some_places zero n some below = absurd (some (omega arith))
some_places (suc j) n some below = omega arith

-- the first of k decimals is a digit
pub first_is_digit : (k n p : ℕ) → 1 ≤ k → n < 10 ^ k → p ≡ 10 ^ (k - 1) → 1 ≤ p → n / p < 10
first_is_digit zero n p some below is positive = absurd (omega arith)
first_is_digit (suc j) n p some below is positive =
    let index : suc j - 1 ≡ j = omega arith in
    let here : p ≡ 10 ^ j = is ∙ ap (λ i. 10 ^ i) index in
    let power : 10 ^ suc j ≡ 10 ^ j * 10 = pow-suc 10 j in
    div_below n p 10 positive (omega (arith, here, power, below))

-- a digit less
pub length_without_last : (n : ℕ) → 10 ≤ n → n < 2 ^ 64 → length (decimal n) ≡ length (decimal (n / 10)) + 1
length_without_last n more fits = ap length (decimal_step n more fits) ∙ length-append (decimal (n / 10)) ((48 + n % 10) ∷ [])

-- the last digit of a digit
pub small_mod : (n : ℕ) → n < 10 → n % 10 ≡ n
small_mod n below = mod-eq_of_lt below
