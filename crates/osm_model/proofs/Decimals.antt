-- Decimals without zeros at the end say the number that they were made of.
use Rattle.std.proofs.Common.{◌≡◌, ℕ, zero, suc, ◌+◌, ◌-◌, ◌*◌, ◌/◌, ◌%◌, ◌^◌, ◌<◌, ◌≤◌, [], ◌∷◌, length, true, false, ◌==◌, if◌then◌else◌, refl, sym, ◌∙◌, ap, arith, lit≤}
use Rattle.std.proofs.Math.Nat.{pow-succ', div-lt_iff_lt-mul}
use Rattle.std.specs.Char.{digit_value}
use Rattle.std.specs.Str.Parse.{digits_value_after}
use Rattle.std.proofs.lemmas.Bool.Decides.{nat_tests}
use Rattle.std.specs.Str.Parse.{AllDigits}
use Rattle.osm_model.specs.CanonicalDegrees.{decimals_of}

digit_back : (d : ℕ) → d < 10 → digit_value (48 + d) ≡ d
digit_back d h = grind (arith, nat_tests)

arranged : (v d r n p q : ℕ) → n ≡ p * d + r → q ≡ 10 * p → (v * 10 + d) * p + r ≡ v * q + n
arranged v d r n p q e f = rw (f, e) (omega arith)

pub short : (k n : ℕ) → length (decimals_of k n) ≤ k
short zero n = omega arith
short (suc k) n = elim (n == 0) as (λ b. length (if b then [] else (48 + n / 10 ^ k) ∷ decimals_of k (n % 10 ^ k)) ≤ suc k) [ true ↦ omega arith | false ↦ omega (arith, short k (n % 10 ^ k)) ]

pub power_some : (k : ℕ) → 0 < 10 ^ k
power_some zero = lit≤ tt
power_some (suc k) = omega (arith, power_some k, pow-succ' 10 k)

-- the digits, as a number of k decimals
pub says : (k n v : ℕ) → n < 10 ^ k → digits_value_after 10 v (decimals_of k n) * 10 ^ (k - length (decimals_of k n)) ≡ v * 10 ^ k + n
says zero n v lt = omega (arith, lt)
says (suc k) n v lt = elim (n == 0) as (λ b. (n == 0) ≡ b → digits_value_after 10 v (if b then [] else (48 + n / 10 ^ k) ∷ decimals_of k (n % 10 ^ k)) * 10 ^ (suc k - length (if b then [] else (48 + n / 10 ^ k) ∷ decimals_of k (n % 10 ^ k))) ≡ v * 10 ^ suc k + n) [
  | true ↦ λ e. let none : n ≡ 0 = grind (arith, nat_tests) in let all : suc k - 0 ≡ suc k = omega arith in rw (none, all) (omega arith)
  | false ↦ λ e.
      let some = power_some k in
      let parts : 10 ^ k * (n / 10 ^ k) + n % 10 ^ k ≡ n = omega arith in
      let rest : n % 10 ^ k < 10 ^ k = omega arith in
      let digit : n / 10 ^ k < 10 = (div-lt_iff_lt-mul some).1 (omega (arith, pow-succ' 10 k)) in
      let less : suc k - suc (length (decimals_of k (n % 10 ^ k))) ≡ k - length (decimals_of k (n % 10 ^ k)) = omega arith in
      rw less (ap (λ m. digits_value_after 10 (v * 10 + m) (decimals_of k (n % 10 ^ k)) * 10 ^ (k - length (decimals_of k (n % 10 ^ k)))) (digit_back (n / 10 ^ k) digit) ∙ says k (n % 10 ^ k) (v * 10 + n / 10 ^ k) rest ∙ arranged v (n / 10 ^ k) (n % 10 ^ k) n (10 ^ k) (10 ^ suc k) (sym parts) (pow-succ' 10 k))
] refl

-- each is a digit
pub are_digits : (k n : ℕ) → n < 10 ^ k → AllDigits 10 (decimals_of k n)
are_digits zero n lt = tt
are_digits (suc k) n lt = elim (n == 0) as (λ b. AllDigits 10 (if b then [] else (48 + n / 10 ^ k) ∷ decimals_of k (n % 10 ^ k))) [
  | true ↦ tt
  | false ↦
      let some = power_some k in
      let rest : n % 10 ^ k < 10 ^ k = omega arith in
      let digit : n / 10 ^ k < 10 = (div-lt_iff_lt-mul some).1 (omega (arith, pow-succ' 10 k)) in
      (omega (arith, digit_back (n / 10 ^ k) digit), are_digits k (n % 10 ^ k) rest)
]
