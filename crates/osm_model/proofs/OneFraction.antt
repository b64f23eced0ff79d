-- Decimals without zeros at the end are those that their number has.
use Rattle.std.proofs.Common.{◌≡◌, ◌≢◌, ℕ, zero, suc, ◌+◌, ◌-◌, ◌*◌, ◌/◌, ◌%◌, ◌^◌, ◌<◌, ◌≤◌, List, [], ◌∷◌, ◌++◌, length, false, ◌==◌, refl, sym, ◌∙◌, ap, arith}
use Rattle.std.specs.Char.{digit_value}
use Rattle.std.specs.Str.Parse.{AllDigits, digits_value, digits_value_after}
use Rattle.std.proofs.Math.Nat.{mul-le-mul_right}
use Rattle.std.proofs.lemmas.Bool.Decides.{nat_tests}
use Rattle.std.proofs.lemmas.Int.Digits.{digits_value-lt}
use Rattle.std.proofs.lemmas.Nat.{div-mul-add, mod-mul-add, pow-add}
use Rattle.std.proofs.lemmas.Str.{digit_value_digit}
use Rattle.std.proofs.lemmas.Str.Parse.{digit_from_value}
use Rattle.osm_model.specs.Canonical.{HasNoTrailingZero}
use Rattle.osm_model.specs.CanonicalDegrees.{decimals_of}
use Rattle.osm_model.proofs.Decimals.{power_some}
use Rattle.osm_model.proofs.shared.OneNumeral.{digits_value_after-split}

-- ---- digits and their values
digit_is : (d : ℕ) → digit_value d < 10 → d ≡ 48 + digit_value d
digit_is d h = omega (arith, digit_value_digit d (digit_from_value d h))

-- filled up with zeros, they are below the power of ten
pub filled : (k : ℕ) (ds : List ℕ) → AllDigits 10 ds → length ds ≤ k → digits_value 10 ds * 10 ^ (k - length ds) < 10 ^ k
filled k ds all few =
    let small : digits_value 10 ds + 1 ≤ 10 ^ length ds = omega (arith, digits_value-lt 10 ds all) in
    let scaled : (digits_value 10 ds + 1) * 10 ^ (k - length ds) ≤ 10 ^ length ds * 10 ^ (k - length ds) = mul-le-mul_right (10 ^ (k - length ds)) small in
    let whole : 10 ^ k ≡ 10 ^ length ds * 10 ^ (k - length ds) = ap (λ e. 10 ^ e) (omega arith) ∙ pow-add 10 (length ds) (k - length ds) in
    let some = power_some (k - length ds) in
    omega (arith, scaled, whole, some)

-- ---- no zero at the end
later : (d : ℕ) (ds : List ℕ) → HasNoTrailingZero (d ∷ ds) → HasNoTrailingZero ds
later d ds plain front e = plain (d ∷ front) (ap (λ rest. d ∷ rest) e)

positive : (m d : ℕ) (ds : List ℕ) → AllDigits 10 (d ∷ ds) → HasNoTrailingZero (d ∷ ds) → 0 < digits_value_after 10 m (d ∷ ds)
positive m d [] all plain = let is = digit_is d all.0 in let other : d ≢ 48 = λ e. plain [] (ap (λ b. b ∷ []) e) in omega arith
positive m d (e ∷ ds) all plain = positive (m * 10 + digit_value d) e ds all.1 (later d (e ∷ ds) plain)

no_decimals : (k : ℕ) → decimals_of k 0 ≡ []
no_decimals zero = refl
no_decimals (suc k) = refl

some_decimals : (k n : ℕ) → n ≢ 0 → decimals_of (suc k) n ≡ (48 + n / 10 ^ k) ∷ decimals_of k (n % 10 ^ k)
some_decimals k n some = let other : (n == 0) ≡ false = grind (arith, nat_tests, some) in rw other refl

pub one_fraction : (k : ℕ) (ds : List ℕ) (n : ℕ) → AllDigits 10 ds → length ds ≤ k → HasNoTrailingZero ds → digits_value 10 ds * 10 ^ (k - length ds) ≡ n → ds ≡ decimals_of k n
one_fraction k [] n all few plain value = sym (no_decimals k) ∙ ap (decimals_of k) (omega (arith, value))
one_fraction zero (d ∷ ds) n all few plain value = absurd (omega arith)
one_fraction (suc k) (d ∷ ds) n all few plain value =
    let tail : ℕ = digits_value 10 ds * 10 ^ (k - length ds) in
    let below : tail < 10 ^ k = filled k ds all.1 (omega arith) in
    let parts : n ≡ digit_value d * 10 ^ k + tail = sym value ∙ first_apart in
    let first : n / 10 ^ k ≡ digit_value d = ap (λ x. x / 10 ^ k) parts ∙ div-mul-add (digit_value d) (10 ^ k) tail below in
    let rest : n % 10 ^ k ≡ tail = ap (λ x. x % 10 ^ k) parts ∙ mod-mul-add (digit_value d) (10 ^ k) tail below in
    let others : ds ≡ decimals_of k (n % 10 ^ k) = one_fraction k ds (n % 10 ^ k) all.1 (omega arith) (later d ds plain) (sym rest) in
    let byte : d ≡ 48 + n / 10 ^ k = digit_is d all.0 ∙ ap (λ v. 48 + v) (sym first) in
    ap (λ b. b ∷ ds) byte ∙ (ap (λ l. (48 + n / 10 ^ k) ∷ l) others ∙ sym (some_decimals k n not_zero))
  where
    first_apart : digits_value 10 (d ∷ ds) * 10 ^ (suc k - length (d ∷ ds)) ≡ digit_value d * 10 ^ k + digits_value 10 ds * 10 ^ (k - length ds)
    first_apart =
        let less : suc k - length (d ∷ ds) ≡ k - length ds = omega arith in
        let split : digits_value 10 (d ∷ ds) ≡ digit_value d * 10 ^ length ds + digits_value 10 ds = ap (λ v. digits_value_after 10 v ds) (omega arith) ∙ digits_value_after-split 10 (digit_value d) ds in
        let whole : 10 ^ k ≡ 10 ^ length ds * 10 ^ (k - length ds) = ap (λ e. 10 ^ e) (omega arith) ∙ pow-add 10 (length ds) (k - length ds) in
        rw (less, split, whole) (omega arith)

    not_zero : n ≢ 0
    not_zero e =
        let some : 0 < digits_value 10 (d ∷ ds) = positive 0 d ds all plain in
        let power = power_some (suc k - length (d ∷ ds)) in
        let scaled : 1 * 10 ^ (suc k - length (d ∷ ds)) ≤ digits_value 10 (d ∷ ds) * 10 ^ (suc k - length (d ∷ ds)) = mul-le-mul_right (10 ^ (suc k - length (d ∷ ds))) some in
        omega (arith, scaled, power, value, e)

-- the decimals of a number have no zero at their end
none_is_zero : (k n : ℕ) → n < 10 ^ k → decimals_of k n ≡ [] → n ≡ 0
none_is_zero zero n below e = omega arith
none_is_zero (suc k) zero below e = refl
none_is_zero (suc k) (suc n) below e = absurd (let some : decimals_of (suc k) (suc n) ≡ (48 + suc n / 10 ^ k) ∷ decimals_of k (suc n % 10 ^ k) = some_decimals k (suc n) (λ zero. omega arith) in let clash : (48 + suc n / 10 ^ k) ∷ decimals_of k (suc n % 10 ^ k) ≡ [] = sym some ∙ e in cc)

no_end : (front : List ℕ) → [] ≢ front ++ 48 ∷ []
no_end [] e = cc
no_end (x ∷ front) e = cc

pub decimals_plain : (k n : ℕ) → n < 10 ^ k → HasNoTrailingZero (decimals_of k n)
decimals_plain zero n below front e = no_end front e
decimals_plain (suc k) zero below front e = no_end front e
decimals_plain (suc k) (suc n) below front e = from (decimals_plain k (suc n % 10 ^ k) within) front (sym (some_decimals k (suc n) (λ zero. omega arith)) ∙ e)
  where
    within : suc n % 10 ^ k < 10 ^ k
    within = let some = power_some k in omega arith

    from : HasNoTrailingZero (decimals_of k (suc n % 10 ^ k)) → (front : List ℕ) → (48 + suc n / 10 ^ k) ∷ decimals_of k (suc n % 10 ^ k) ≡ front ++ 48 ∷ [] → ⊥
    from plain [] e =
        let first : 48 + suc n / 10 ^ k ≡ 48 = cc in
        let none : decimals_of k (suc n % 10 ^ k) ≡ [] = cc in
        let rest : suc n % 10 ^ k ≡ 0 = none_is_zero k (suc n % 10 ^ k) within none in
        let quotient : suc n / 10 ^ k ≡ 0 = omega (arith, first) in
        let some = power_some k in
        let parts : 10 ^ k * (suc n / 10 ^ k) + suc n % 10 ^ k ≡ suc n = omega arith in
        omega (arith, rw (quotient, rest) at parts)
    from plain (x ∷ front) e = let tail : decimals_of k (suc n % 10 ^ k) ≡ front ++ 48 ∷ [] = cc in plain front tail
